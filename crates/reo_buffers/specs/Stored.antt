-- What contracts see of a buffer.
use Rattle.std.specs.Prelude.{ℕ, ◌++◌, ◌≤◌, Bool, List, [], ◌∷◌, length, drop, nat_le, refl}
use Rattle.std.specs.Coded.{Coded, code_by, coded×, coded_ℕ, coded_list}
use Rattle.reo_values.specs.declared.value.Value.{Value}

-- A buffer: its items from the front to the back, and how many there may be.
pub record Stored : Type 0 where
  pub items : List Value
  pub size : ℕ

-- A buffer is stored as the pair of its fields.
abbrev pub stored_code : Coded Value → Coded Stored
stored_code code =
    code_by (List Value × ℕ) (coded× (coded_list code) coded_ℕ) (λ b. (b.items, b.size)) (λ p. record { items = p.0; size = p.1 }) (λ _. refl)

-- A buffer of this size with these items.
abbrev pub stored : ℕ → List Value → Stored
stored size items = record { items = items; size = size }

-- No more items fit.
abbrev pub is_full : Stored → Bool
is_full b = nat_le b.size (length b.items)

-- Nothing is kept.
abbrev pub is_empty : Stored → Bool
is_empty b = nat_le (length b.items) 0

-- The buffer with one more item at the back.
abbrev pub with_back : Value → Stored → Stored
with_back item b = stored b.size (b.items ++ item ∷ [])

-- The buffer without its front, where it has one.
abbrev pub without_front : Stored → Stored
without_front b = stored b.size (drop 1 b.items)

-- What holds of every buffer.
pub record IsBuffer (b : Stored) : Type 0 where
  pub some : 1 ≤ b.size
  pub few : b.size ≤ 1024
  pub fits : length b.items ≤ b.size
