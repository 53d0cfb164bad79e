use Rattle.std.proofs.Common.{◌≡◌, ◌↔◌, ◌∙◌, true, refl, sym, subst}
use Rattle.reo_net_base.specs.Net.{Net, net_of}
use Rattle.reo_joint_values.specs.Values.{Family}
use Rattle.reo_side_tables.specs.declared.sets.Marks.{Marks}
use Rattle.reo_rows.specs.Stands.{HasMark}
use Rattle.reo_side_tables.specs.Sets.{marks_has}
use Rattle.reo_rows.specs.Sets.{family_of}
use Rattle.reo_rows.proofs.Left.{giver_left, taker_left, givers, takers}
use Rattle.reo_rows.proofs.Plain.{giver_seen, other_seen}
use Rattle.reo_rows.proofs.marks.marks_left.Goals as goal

pub returns-then-gives : goal.returns-then-gives
returns-then-gives g c = λ m.
    let net : Net = net_of g.P.Primitive.behaviour c.args.basis.now.circuit.now in
    let family : Family = family_of c.args.alive.now in
    let is : c.marks_of.result ≡ givers family c.args.joint c.has_flow-flow.result =
    rw (c.marks_of.ensures, c.is_set-taker_requires.ensures, c.is_set-neither.ensures, c.is_set-giver_requires.ensures, c.is_set-jam.ensures) refl in
    subst (λ (x : Marks). (marks_has x m ≡ true) ↔ HasMark net family c.args.side c.args.joint m) (sym is)
    (giver_left net family c.args.side c.args.joint c.has_flow-flow.result c.has_flow-flow.ensures (giver_seen net c.args.side c.args.joint (sym c.giver_side.ensures.side ∙ c.if-gives.true)) m)

pub returns-else-gives : goal.returns-else-gives
returns-else-gives g c = λ m.
    let net : Net = net_of g.P.Primitive.behaviour c.args.basis.now.circuit.now in
    let family : Family = family_of c.args.alive.now in
    let is : c.marks_of-else-gives.result ≡ takers family c.args.joint c.has_flow-flow.result =
    rw (c.marks_of-else-gives.ensures, c.is_set-giver_requires.ensures, c.is_set-neither.ensures, c.is_set-taker_requires.ensures, c.is_set-jam.ensures) refl in
    subst (λ (x : Marks). (marks_has x m ≡ true) ↔ HasMark net family c.args.side c.args.joint m) (sym is)
    (taker_left net family c.args.side c.args.joint c.has_flow-flow.result c.has_flow-flow.ensures (other_seen net c.args.side c.args.joint (λ e. c.if-gives.false (c.giver_side.ensures.side ∙ e))) m)
