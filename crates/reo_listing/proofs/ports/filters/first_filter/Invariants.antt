use Rattle.std.proofs.Common.{◌≡◌, ℕ, ◌<◌, false, get_or}
use Rattle.reo_kinds.specs.declared.kind.Kind.{Kind}
use Rattle.reo_open.specs.Opened.{is_filter}
use Rattle.reo_listing.proofs.ports.filters.first_filter.Given as goal

abbrev pub invariant-loop-index : goal.invariant-loop-index
invariant-loop-index l = (k : ℕ) (d : Kind) → k < l.index → is_filter (get_or l.kinds k d) ≡ false
