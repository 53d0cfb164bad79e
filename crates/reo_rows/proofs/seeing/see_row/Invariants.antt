use Rattle.std.proofs.Common.{get_or}
use Rattle.reo_net_base.specs.Net.{net_of}
use Rattle.reo_rows.specs.Seeing.{AreSeen, Below, TakesUse, AloneUse}
use Rattle.reo_rows.specs.Flowing.{names_in, family_in}
use Rattle.reo_rows.proofs.seeing.see_row.Given as goal

abbrev pub invariant-loop-index : goal.invariant-loop-index
invariant-loop-index g l =
    AreSeen (Below (λ m. TakesUse (net_of g.P.Primitive.behaviour l.flowing.basis.now.circuit.now) (names_in l.flowing) (family_in l.flowing) l.flowing.side l.flowing.row (get_or l.flowing.flow.now.taking m 0)) l.index) l.initial.seen l.seen

abbrev pub invariant-loop-index-2 : goal.invariant-loop-index-2
invariant-loop-index-2 g l =
    AreSeen (Below (λ m. AloneUse (net_of g.P.Primitive.behaviour l.flowing.basis.now.circuit.now) (names_in l.flowing) (family_in l.flowing) l.flowing.row (get_or l.flowing.flow.now.giving m 0)) l.index) l.initial.seen l.seen
