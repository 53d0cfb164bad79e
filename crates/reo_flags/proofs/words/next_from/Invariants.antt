use Rattle.std.proofs.Common.{◌*◌, ◌≤◌}
use Rattle.reo_flags.proofs.Search.{NoneBetween}
use Rattle.reo_flags.proofs.words.next_from.Given as goal

-- No bit so far has the value.
abbrev pub invariant-loop-place : goal.invariant-loop-place
invariant-loop-place l = record {
  from_on : l.first ≤ l.place;
  none : NoneBetween l.value l.words (64 * l.first) (64 * l.place);
}
