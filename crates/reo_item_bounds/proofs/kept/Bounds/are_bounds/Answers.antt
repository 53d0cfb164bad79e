use Rattle.std.proofs.Common.{ℕ, arith, get_or}
use Rattle.std.proofs.lemmas.List.Elements.{Contains-get_or}
use Rattle.reo_net_base.specs.Net.{net_of}
use Rattle.reo_item_bounds.specs.Bounds.{IsBoundAt}
use Rattle.reo_item_bounds.proofs.Bounded.{of_each}
use Rattle.reo_item_bounds.proofs.kept.Bounds.are_bounds.Goals as goal

pub is_bound-requires-clause-joint : goal.is_bound-requires-clause-joint
is_bound-requires-clause-joint g c = c.requires.joints (get_or c.args.joints.now c.loop-index.index 0) (Contains-get_or c.args.joints.now c.loop-index.index 0 (omega arith))

pub returns-clause-bounds : goal.returns-clause-bounds
returns-clause-bounds g c = λ yes. of_each (IsBoundAt (net_of g.P.Primitive.behaviour c.args.circuit.now) (λ (k : ℕ). get_or c.loop-index.self.bounds k 0)) c.args.joints.now (λ m lt. c.loop-index.invariant.far m (omega arith))
