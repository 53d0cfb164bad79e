-- What stands between tokens.
use Rattle.std.specs.Prelude.{◌≡◌, ℕ, ◌==◌, Bool, true, ◌||◌, not, List, [], ◌∷◌, ◌++◌, count_by}
use Rattle.std.specs.List.{list_all}
use Rattle.reo_values.specs.Bytes.{line_feed, hash}

-- Space, tab, CR or LF.
abbrev pub is_space : ℕ → Bool
is_space b = b == 32 || (b == 9 || (b == 13 || b == line_feed))

abbrev pub is_no_lf : ℕ → Bool
is_no_lf b = not (b == line_feed)

-- Spaces, and comments from `#` to an LF.
pub data IsGap : List ℕ → Type 0 where
  no_gap : IsGap []
  space : (b : ℕ) (g : List ℕ) → is_space b ≡ true → IsGap g → IsGap (b ∷ g)
  comment : (c g : List ℕ) → list_all is_no_lf c ≡ true → IsGap g → IsGap (hash ∷ (c ++ (line_feed ∷ g)))

-- The number of LFs.
abbrev pub lines_in : List ℕ → ℕ
lines_in bs = count_by (λ b. b == line_feed) bs
