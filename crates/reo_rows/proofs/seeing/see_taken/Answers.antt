use Rattle.std.proofs.Common.{◌≡◌, ◌∙◌, ◌-◌, ◌<◌, ℕ, List, [], length, get_or, arith, ap, sym, subst}
use Rattle.std.proofs.lemmas.List.{get_or_default}
use Rattle.reo_values.specs.declared.value.Value.{Value}
use Rattle.reo_net_base.specs.Net.{Net, net_of}
use Rattle.reo_joint_values.specs.declared.value.JointValue.{JointValue}
use Rattle.reo_joint_values.specs.Values.{Names, Family}
use Rattle.reo_joint_values.specs.Works.{TakerWorks}
use Rattle.reo_rows.specs.Sets.{names_of}
use Rattle.reo_rows.specs.Flowing.{family_in}
use Rattle.reo_rows.proofs.Codes.{flow_code, item_at}
use Rattle.reo_rows.proofs.Used.{put_seen, taken_seen}
use Rattle.reo_rows.proofs.seeing.see_taken.Goals as goal

pub returns-then-flow_works : goal.returns-then-flow_works
returns-then-flow_works g c =
    let net : Net = net_of g.P.Primitive.behaviour c.args.flowing.now.basis.now.circuit.now in
    let items : List (List Value) = c.args.flowing.now.basis.now.items.now in
    let names : Names = names_of items in
    let family : Family = family_in c.args.flowing.now in
    let j : ℕ = c.args.source in
    let j_in : j < length items = omega (arith, c.requires.flowing.ready.supply, c.requires.takes.in_range) in
    let list : c.index-flowing-source.result ≡ get_or items j [] = c.index-flowing-source.is ∙ get_or_default items j c.index-flowing-source.result [] j_in in
    let n_in : c.args.code - 4 < length c.index-flowing-source.result = omega (arith, ap (λ (l : List Value). length l) list, c.requires.flowing.ready.width j c.requires.takes.in_range, c.requires.code, c.requires.flows) in
    let item_is : c.at-item.result.now ≡ get_or c.index-flowing-source.result (c.args.code - 4) c.at-item.result.now = subst (λ (l : List Value). c.at-item.result.now ≡ get_or l (c.args.code - 4) c.at-item.result.now) (sym c.index-flowing-source.is) c.at-item.ensures in
    let named = item_at items j (c.args.code - 4) c.index-flowing-source.result c.at-item.result.now j_in c.index-flowing-source.is n_in item_is in
    let works = subst (λ (v : JointValue). TakerWorks net names family c.args.flowing.now.side c.args.flowing.now.row j v) (sym (flow_code c.args.code c.requires.flows)) (c.flow_works.ensures.0 c.if-flow_works.true) in
    taken_seen net names family c.args.flowing.now.side c.args.flowing.now.row j c.args.code c.at-item.result.now c.args.seen.now c.put.new.self c.see_followers.new.seen c.requires.flows works named
    (put_seen c.args.seen.now c.put.new.self j c.args.code c.put.ensures.alike c.put.ensures.flags) c.see_followers.ensures
