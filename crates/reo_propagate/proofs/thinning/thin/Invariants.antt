use Rattle.reo_net_base.specs.Net.{net_of}
use Rattle.reo_rows.specs.Sets.{names_of}
use Rattle.reo_propagate.proofs.Thinned.{IsThinning}
use Rattle.reo_propagate.proofs.thinning.thin.Given as goal

abbrev pub invariant-loop-code : goal.invariant-loop-code
invariant-loop-code g l = IsThinning (net_of g.P.Primitive.behaviour l.basis.circuit.now) (names_of l.basis.items.now) l.side l.joint l.code l.rows l.initial.alive l.alive l.loss
