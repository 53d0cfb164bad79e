use Rattle.std.proofs.Common.{◌≡◌, ◌∙◌, Bool, List, ◌++◌, length, get_or, ap, sym}
use Rattle.std.proofs.lemmas.List.{get_or_default}
use Rattle.reo_joint_values.specs.declared.value.JointValue.{JointValue}
use Rattle.reo_refute_live.specs.declared.support.live.LiveAt.{LiveAt}
use Rattle.reo_refute_live.specs.support.Families.{none_gone}
use Rattle.reo_refute_live.specs.Tables.{live_flows}
use Rattle.reo_refute_live.proofs.ValueLemmas.{live_is, in_order}
use Rattle.reo_refute_live.proofs.values.live_values.Goals as goal

pub returns : goal.returns
returns c = λ lists are.
    let at : LiveAt = get_or c.args.table.now c.args.joint none_gone in
    let is : c.at-live.result.now ≡ at = c.at-live.ensures ∙ get_or_default c.args.table.now c.args.joint c.at-live.result.now none_gone c.requires.joint in
    let flows : c.add_flows.new.values ≡ live_flows at.flows (length at.flows) =
    c.in_ok-add_flows.ensures ∙ ap (λ (l : List JointValue). l ++ live_flows c.as_slice.result.now (length c.as_slice.result.now)) c.new-values.ensures
    ∙ ap (λ (l : List Bool). live_flows l (length l)) (c.as_slice.ensures ∙ ap (λ (e : LiveAt). e.flows) is) in
    in_order c.at-live.result.now at is c.add_flows.new.values c.add_if.new.values c.add_if-2.new.values c.add_if-3.new.values c.add_if-4.new.values flows
    c.in_ok-add_if.ensures c.in_ok-add_if-2.ensures c.in_ok-add_if-3.ensures c.in_ok-add_if-4.ensures
    ∙ sym (live_is lists c.args.table.now are c.args.joint)
