use Rattle.std.proofs.Common.{◌≡◌, ℕ, ◌<◌, slice_index}
use Rattle.reo_refute_parts.proofs.places.marking.has_mark.Given as goal

-- The bytes so far are 0.
abbrev pub invariant-loop-row : goal.invariant-loop-row
invariant-loop-row l = (k : ℕ) → k < l.row → slice_index l.bytes k ≡ 0
