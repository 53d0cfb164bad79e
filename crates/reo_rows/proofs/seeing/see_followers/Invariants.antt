use Rattle.std.proofs.Common.{Some, get_or}
use Rattle.reo_net_base.specs.Net.{net_of}
use Rattle.reo_rows.specs.Seeing.{AreSeen, Below, FollowedUse}
use Rattle.reo_rows.specs.Flowing.{names_in, family_in}
use Rattle.reo_rows.proofs.seeing.see_followers.Given as goal

abbrev pub invariant-loop-index : goal.invariant-loop-index
invariant-loop-index g l =
    AreSeen (Below (λ m. FollowedUse (net_of g.P.Primitive.behaviour l.flowing.basis.now.circuit.now) (names_in l.flowing) (family_in l.flowing) l.flowing.row l.source (Some l.item) (get_or l.flowing.flow.now.giving m 0)) l.index) l.initial.seen l.seen
