-- Names that are made have no `@`.
use Rattle.std.proofs.Common.{ℕ, zero, suc, ◌<◌, ◌/◌, ◌%◌, Bool, true, false, List, [], ◌∷◌, ◌++◌, arith}
use Rattle.std.proofs.lemmas.List.Elements.{All-append}
use Rattle.std.proofs.lemmas.Bool.Decides.{nat_tests}
use Rattle.std.specs.Prelude.{◌≢◌, ◌==◌, ℤ, pos, negsuc, codes, if◌then◌else◌}
use Rattle.std.specs.Fmt.{digit_glyph, digits_onto, digits, decimal, signed_decimal}
use Rattle.reo_syntax_laws.specs.trees_laws.Spelled.{IsItemName}
use Rattle.reo_syntax_laws.proofs.trees_laws.Lists.{all-none, all-one, all-cons}
use Rattle.reo_expand.specs.base.Expansion.{placed_name, numbered_name}

glyph_plain : (d : ℕ) → d < 10 → digit_glyph false d ≢ 64
glyph_plain d few is = grind (arith, nat_tests)

either : (b : Bool) (xs ys : List ℕ) → IsItemName xs → IsItemName ys → IsItemName (if b then xs else ys)
either true xs ys first second = first
either false xs ys first second = second

digits_plain : (k n : ℕ) (behind : List ℕ) → IsItemName behind → IsItemName (digits_onto k 10 false n behind)
digits_plain zero n behind plain = plain
digits_plain (suc k) n behind plain =
    let more : IsItemName (digit_glyph false (n % 10) ∷ behind) = all-cons (λ b. b ≢ 64) (digit_glyph false (n % 10)) behind (glyph_plain (n % 10) (omega arith)) plain in
    either (n / 10 == 0) (digit_glyph false (n % 10) ∷ behind) (digits_onto k 10 false (n / 10) (digit_glyph false (n % 10) ∷ behind)) more (digits_plain k (n / 10) (digit_glyph false (n % 10) ∷ behind) more)

decimal_plain : (n : ℕ) → IsItemName (decimal n)
unfolding digits
decimal_plain n = digits_plain 64 n [] (all-none (λ b. b ≢ 64))

signed_plain : (z : ℤ) → IsItemName (signed_decimal z)
signed_plain (pos n) = decimal_plain n
signed_plain (negsuc n) = all-cons (λ b. b ≢ 64) 45 (decimal (suc n)) (λ e. omega (arith, e)) (decimal_plain (suc n))

one_plain : (b : ℕ) → b ≢ 64 → IsItemName (b ∷ [])
one_plain b other = all-one (λ c. c ≢ 64) b other

both_plain : (xs ys : List ℕ) → IsItemName xs → IsItemName ys → IsItemName (xs ++ ys)
both_plain xs ys first second = All-append (λ b. b ≢ 64) xs ys first second

-- `name.3`.
pub placed_plain : (name : List ℕ) (z : ℤ) → IsItemName name → IsItemName (placed_name name z)
placed_plain name z plain = both_plain name (codes "." ++ signed_decimal z) plain (both_plain (codes ".") (signed_decimal z) (one_plain 46 (λ e. omega (arith, e))) (signed_plain z))

-- `name<3>`.
pub numbered_plain : (name : List ℕ) (z : ℤ) → IsItemName name → IsItemName (numbered_name name z)
numbered_plain name z plain =
    both_plain name (codes "<" ++ (signed_decimal z ++ codes ">")) plain
    (both_plain (codes "<") (signed_decimal z ++ codes ">") (one_plain 60 (λ e. omega (arith, e))) (both_plain (signed_decimal z) (codes ">") (signed_plain z) (one_plain 62 (λ e. omega (arith, e)))))
