use Rattle.std.proofs.Common.{◌≡◌, ◌+◌, ◌++◌, take}
use Rattle.reo_io.proofs.kept.keep.Given as goal

abbrev pub invariant-loop-byte : goal.invariant-loop-byte
invariant-loop-byte l = record {
  items : l.kept.items ≡ l.initial.kept.items ++ take l.byte-index l.bytes;
  room : l.kept.room + l.byte-index ≡ l.initial.kept.room;
}
