use Rattle.std.proofs.Common.{ℕ, ◌<◌, ◌≢◌}
use Rattle.std.specs.Prelude.{slice_index}
use Rattle.reo_values.specs.Bytes.{line_feed}
use Rattle.reo_live.proofs.talk.lines.cut_line.Given as goal

abbrev pub invariant-loop-index : goal.invariant-loop-index
invariant-loop-index l = (k : ℕ) → k < l.index → slice_index l.bytes k ≢ line_feed
