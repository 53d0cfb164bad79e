-- The numbers with which a name is used.
use Rattle.std.specs.Prelude.{ℕ, pos, List, filter}
use Rattle.std.specs.List.{range_with_len}
use Rattle.reo_rules.specs.Lists.{has_name}
use Rattle.reo_expand.specs.base.Expansion.{numbered_name}

-- Those below a bound, in increasing order, where these names are used.
unfoldable pub numbers_below : ℕ → List (List ℕ) → List ℕ → List ℕ
numbers_below bound names name = filter (λ k. has_name names (numbered_name name (pos k))) (range_with_len 0 bound)
