use Rattle.std.proofs.lemmas.Bool.Decides.{same_from_decides}
use Rattle.reo_values.proofs.Tests.{is_item-is}
use Rattle.reo_kinds.proofs.port.KindPorted.fits.Goals as goal

pub returns-in-Writer : goal.returns-in-Writer
returns-in-Writer c = rw (c.in-Writer.is) (same_from_decides _ _ c.is_in.ensures (is_item-is c.args.item.now c.in-Writer.port.kindred))
