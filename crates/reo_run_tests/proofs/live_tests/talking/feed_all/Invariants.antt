use Rattle.std.proofs.Common.{◌≡◌, ◌≤◌, ◌+◌, length, false}
use Rattle.reo_run_tests.proofs.live_tests.talking.feed_all.Given as goal

-- It is not spent, and no more lines have ended than bytes were fed.
abbrev pub invariant-pieces : goal.invariant-pieces
invariant-pieces g l = record {
  unspent : l.live.live.stand.over ≡ false;
  few : l.live.live.stand.lines + length l.rest ≤ l.fn.live.live.stand.lines + length l.fn.bytes;
}

abbrev pub decreases-pieces : goal.decreases-pieces
decreases-pieces g l = length l.rest
