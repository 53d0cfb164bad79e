use Rattle.std.proofs.Common.{◌≡◌, ◌+◌, drop}
use Rattle.reo_trace_reader.specs.ItemEnd.{bytes_of_item}
use Rattle.reo_trace_reader.specs.declared.item.Spot.TheVariants.{Outside}
use Rattle.reo_trace_reader.proofs.item.item_length.Given as goal

abbrev pub invariant-loop-at : goal.invariant-loop-at
invariant-loop-at l = l.at + bytes_of_item l.spot (drop l.at l.text) ≡ bytes_of_item Outside l.text
