use Rattle.std.proofs.Common.{ℕ, arith, subst}
use Rattle.reo_net_base.specs.declared.form.Form.{Form}
use Rattle.reo_net_base.specs.Behaviour.{Behaviour}
use Rattle.reo_net_base.specs.Forms.{HasForm}
use Rattle.reo_net_base.specs.Net.{net_of, behaviour_at}
use Rattle.reo_item_bounds.proofs.Places.{end_below}
use Rattle.reo_item_bounds.proofs.shares.most_by.Goals as goal

pub most_noted-requires-clause-count : goal.most_noted-requires-clause-count
most_noted-requires-clause-count g c =
    let b : Behaviour = behaviour_at (net_of g.P.Primitive.behaviour c.args.circuit.now).primitives c.args.giver.primitive in
    let side : ℕ = b.side_of c.args.giver.end in
    let has = subst (λ (f : Form). HasForm f b side) c.in-Double.is c.requires.form in
    let lt = end_below _ b side 1 has (omega arith) in
    omega (arith, lt)

pub noted-most-requires-clause-end : goal.noted-most-requires-clause-end
noted-most-requires-clause-end g c =
    let b : Behaviour = behaviour_at (net_of g.P.Primitive.behaviour c.args.circuit.now).primitives c.args.giver.primitive in
    let side : ℕ = b.side_of c.args.giver.end in
    let has = subst (λ (f : Form). HasForm f b side) c.in-Merging.is c.requires.form in
    (c.requires.giver.0, end_below _ b side c.in-Merging.branches.count has (omega arith))

pub most_noted-requires-in-Replicating-clause-count : goal.most_noted-requires-in-Replicating-clause-count
most_noted-requires-in-Replicating-clause-count g c =
    let b : Behaviour = behaviour_at (net_of g.P.Primitive.behaviour c.args.circuit.now).primitives c.args.giver.primitive in
    let side : ℕ = b.side_of c.args.giver.end in
    let has = subst (λ (f : Form). HasForm f b side) c.in-Replicating.is c.requires.form in
    let lt = end_below _ b side c.in-Replicating.branches.count has (omega arith) in
    omega (arith, lt)
