use Rattle.std.proofs.Common.{◌≡◌, ◌<◌, ℕ, None, length, slice_index, slice_index_or}
use Rattle.reo_net_base.specs.Net.{Net}
use Rattle.reo_item_bounds.specs.Kept.{AreKeptBounds}
use Rattle.reo_item_bounds.proofs.kept.Bounds.forget.Given as goal

-- Those so far have no number.
abbrev pub invariant-loop-index : goal.invariant-loop-index
invariant-loop-index l = record {
  kept : (net : Net) → AreKeptBounds net l.initial.self → AreKeptBounds net l.self;
  one_number : length l.self.numbers ≡ length l.initial.self.numbers;
  none : (m : ℕ) → m < l.index → slice_index_or l.self.numbers (slice_index l.joints m) None ≡ None;
}
