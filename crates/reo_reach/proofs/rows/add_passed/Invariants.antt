use Rattle.reo_values.specs.declared.value.Value.{Value}
use Rattle.std.proofs.Common.{get_or}
use Rattle.reo_net_base.specs.Net.{net_of, end_of}
use Rattle.reo_joint_values.specs.Standing.{IsGivenFor}
use Rattle.reo_reach.specs.Added.{AreAdded}
use Rattle.reo_reach.proofs.AddedLemmas.{Below}
use Rattle.reo_reach.proofs.rows.add_passed.Given as goal

-- What is given for the items so far is added.
abbrev pub invariant-loop-index : goal.invariant-loop-index
invariant-loop-index g l =
    AreAdded l.initial.items l.items (Below (λ m x. (d : Value) → IsGivenFor (net_of g.P.Primitive.behaviour l.giving.circuit.now) l.giving.giver l.giving.row (end_of l.giving.giver.primitive l.from) (get_or l.taken m d) x) l.index)
