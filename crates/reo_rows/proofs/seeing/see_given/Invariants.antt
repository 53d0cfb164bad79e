use Rattle.std.proofs.Common.{option_copied}
use Rattle.reo_net_base.specs.Net.{net_of}
use Rattle.reo_rows.specs.Seeing.{AreSeen, Below, IsGivenValue}
use Rattle.reo_rows.specs.Flowing.{names_in, family_in}
use Rattle.reo_rows.proofs.seeing.see_given.Given as goal

abbrev pub invariant-loop-code : goal.invariant-loop-code
invariant-loop-code g l = AreSeen (Below (IsGivenValue (net_of g.P.Primitive.behaviour l.flowing.basis.now.circuit.now) (names_in l.flowing) (family_in l.flowing) l.flowing.row l.joint (option_copied l.taken)) l.code) l.initial.seen l.seen
