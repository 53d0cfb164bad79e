use Rattle.std.proofs.Common.{◌<◌, ℕ}
use Rattle.reo_mark_sets.proofs.Alone.{Holds}
use Rattle.reo_mark_sets.proofs.sets.MarkSets.fixed_at.Given as goal

-- The marks of the row are alone at the places so far.
abbrev pub invariant-loop-end : goal.invariant-loop-end
invariant-loop-end l = (o : ℕ) → o < l.end → Holds l.form l.places l.row l.self o
