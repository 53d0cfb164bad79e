use Rattle.std.proofs.Common.{◌<◌, subst}
use Rattle.reo_net_base.specs.Net.{Side, no_side, row_count}
use Rattle.reo_refute_parts.proofs.places.places.number_of.Goals as goal

pub class-requires-clause-row : goal.class-requires-clause-row
class-requires-clause-row g c =
    rw c.primitive.ensures.behaviour (subst (λ (s : Side). c.args.row < row_count s) (c.owner-owner.ensures.owner no_side) (c.requires.row no_side))
