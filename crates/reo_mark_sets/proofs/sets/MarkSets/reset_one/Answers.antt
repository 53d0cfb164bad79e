use Rattle.std.proofs.Common.{sym, subst}
use Rattle.reo_mark_sets.specs.Standing.{AreAll}
use Rattle.reo_mark_sets.proofs.Resetting.{all_one}
use Rattle.reo_mark_sets.proofs.sets.MarkSets.reset_one.Goals as goal

pub returns : goal.returns
returns c = subst (AreAll c.args.places.now c.args.self.now) (sym c.reset.ensures) (all_one c.args.self.now c.args.places.now c.requires.width c.requires.places)
