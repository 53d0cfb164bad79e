use Rattle.std.proofs.Common.{◌≡◌, ◌≤◌, take, count_by}
use Rattle.reo_cases.specs.Lines.{is_feed}
use Rattle.reo_cases.proofs.lines.count_of.Given as goal

abbrev pub invariant-loop-byte : goal.invariant-loop-byte
invariant-loop-byte l = record {
  count : l.count ≡ count_by is_feed (take l.byte-index l.text);
  few : l.count ≤ l.byte-index;
}
