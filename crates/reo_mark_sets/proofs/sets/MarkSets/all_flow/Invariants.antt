use Rattle.std.proofs.Common.{◌<◌, ℕ}
use Rattle.reo_net_base.specs.declared.form.Form.TheVariants.{Replicating}
use Rattle.reo_mark_sets.proofs.Alone.{Holds}
use Rattle.reo_mark_sets.proofs.sets.MarkSets.all_flow.Given as goal

-- The places so far flow alone.
abbrev pub invariant-loop-end : goal.invariant-loop-end
invariant-loop-end l = (o : ℕ) → o < l.end → Holds (Replicating l.fn.branches) l.places 0 l.self o
