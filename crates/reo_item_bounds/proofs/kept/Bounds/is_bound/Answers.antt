use Rattle.std.proofs.Common.{ℕ, List, get_or, subst, arith}
use Rattle.std.specs.Prelude.{IsTrue}
use Rattle.reo_net_base.specs.Net.{Net, net_of}
use Rattle.reo_item_bounds.specs.Bounds.{IsBoundAt}
use Rattle.reo_item_bounds.proofs.Noting.{checked}
use Rattle.reo_item_bounds.proofs.kept.Bounds.is_bound.Goals as goal

pub returns-clause-kept : goal.returns-clause-kept
returns-clause-kept g c =
    let net : Net = net_of g.P.Primitive.behaviour c.args.circuit.now in
    let told : IsTrue c.is_bound.result = grind (arith, c.if-not-is_bound.false) in
    let is : IsBoundAt net (λ (k : ℕ). get_or c.args.self.now.bounds k 0) c.args.joint = subst (λ (xs : List ℕ). IsBoundAt net (λ (k : ℕ). get_or xs k 0) c.args.joint) c.as_slice.ensures (c.is_bound.ensures told) in
    checked net c.args.self.now c.requires.kept c.known.ensures.wired c.args.joint c.in-Some.number c.requires.joint c.in-Some.ensures is
