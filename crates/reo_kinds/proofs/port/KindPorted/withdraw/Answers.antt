use Rattle.std.proofs.Common.{ap}
use Rattle.reo_kinds.specs.declared.kind.Kind.TheVariants.{Writer}
use Rattle.reo_kinds.proofs.port.KindPorted.withdraw.Goals as goal

pub returns-in-Writer : goal.returns-in-Writer
returns-in-Writer c = rw (c.in-Writer.is) (ap Writer c.withdraw.ensures)
