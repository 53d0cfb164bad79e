use Rattle.std.proofs.Common.{◌∙◌, ◌<◌, ℕ, List, Option, None, length, get_or, ap, sym, arith}
use Rattle.std.proofs.lemmas.List.{get_or_default}
use Rattle.reo_values.specs.declared.value.Value.{Value}
use Rattle.reo_net_base.specs.Net.{Net, net_of}
use Rattle.reo_net_circuit.proofs.found_ends.EndLemmas.{has_joint}
use Rattle.reo_net.proofs.colouring.ItemLemmas.{taken_by_ends}
use Rattle.reo_round.proofs.giving.taken_at.Goals as goal

pub joint_at-requires : goal.joint_at-requires
joint_at-requires g c =
    let net : Net = net_of g.P.Primitive.behaviour c.args.circuit.now in
    has_joint net c.args.ends.now c.requires.ends c.args.end c.requires.end.is_end

pub returns : goal.returns
returns g c =
    let net : Net = net_of g.P.Primitive.behaviour c.args.circuit.now in
    let items : List (Option Value) = c.args.items.now in
    let in_range : c.joint_at.result < length items = omega (arith, c.requires.items, c.joint_at.ensures, c.requires.ends.in_range c.args.end c.requires.end.is_end) in
    c.as_ref.ensures.value ∙ c.index-items-joint_at.is ∙ get_or_default items c.joint_at.result c.index-items-joint_at.result None in_range ∙ ap (λ (k : ℕ). get_or items k None) c.joint_at.ensures
    ∙ sym (taken_by_ends net c.known.ensures.wired c.args.ends.now c.requires.ends items c.requires.items c.args.end c.requires.end)
