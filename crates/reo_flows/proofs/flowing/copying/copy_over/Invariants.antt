use Rattle.std.proofs.Common.{◌≡◌, length, take}
use Rattle.reo_flows.proofs.flowing.copying.copy_over.Given as goal

-- Those so far, where the list had some.
abbrev pub invariant-loop-index : goal.invariant-loop-index
invariant-loop-index l = record {
  one_each : length l.list ≡ l.count;
  written : take l.index l.list ≡ take l.index l.those;
}

-- Those so far.
abbrev pub invariant-loop-index-2 : goal.invariant-loop-index-2
invariant-loop-index-2 l = l.list ≡ take l.index l.those
