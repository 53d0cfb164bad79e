use Rattle.reo_values.proofs.Pairs.{levels}
use Rattle.reo_values.proofs.reading.+item.Given as goal

abbrev pub decreases-item : goal.decreases-item
decreases-item l = levels l.kindred.now
