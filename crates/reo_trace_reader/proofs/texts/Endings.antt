-- An ending is told from its text.
use Rattle.std.proofs.Common.{◌≡◌, ◌∙◌, ℕ, List, [], ◌∷◌, ◌++◌, get_or, nat_eq, false, ap, refl, sym}
use Rattle.std.specs.Prelude.{codes}
use Rattle.std.specs.Fmt.{decimal}
use Rattle.std.proofs.lemmas.Bool.{eqb-false}
use Rattle.std.proofs.lemmas.List.{append_cancel_left}
use Rattle.reo_net_base.specs.declared.port.Port.{Port}
use Rattle.reo_trace.specs.declared.line.Ending.{Ending}
use Rattle.reo_trace.specs.declared.line.Ending.TheVariants.{Done, Stuck, Limit, Spent, Wide}
use Rattle.reo_trace.specs.declared.line.RoundLine.{RoundLine}
use Rattle.reo_trace.specs.EndingText.{ending_text}
use Rattle.reo_trace.specs.RoundText.{round_text}
use Rattle.reo_values.specs.decimals.Digits.{IsSmall}
use Rattle.reo_trace_reader.proofs.Digits.{colon_no_digit, feed_no_digit, small_unique, space_no_digit}
use Rattle.reo_trace_reader.specs.texts.Lines.{IsEnding}
use Rattle.reo_values.proofs.Words.{first_or}
use Rattle.reo_trace_reader.proofs.texts.RoundLines.{line_text}

-- a count of rounds in its sentence
rounds_told : (m n : ℕ) → IsSmall m → IsSmall n → decimal m ++ codes " rounds\n" ≡ decimal n ++ codes " rounds\n" → m ≡ n
rounds_told m n h g e = (small_unique m n (codes " rounds\n") (codes " rounds\n") h g space_no_digit space_no_digit e).0

-- a number and then the same words in both
colon_told : (m n : ℕ) (r s : List ℕ) → IsSmall m → IsSmall n → decimal m ++ (58 ∷ r) ≡ decimal n ++ (58 ∷ s) → (m ≡ n) × (58 ∷ r ≡ 58 ∷ s)
colon_told m n r s h g e = small_unique m n (58 ∷ r) (58 ∷ s) h g colon_no_digit colon_no_digit e

space_told : (m n : ℕ) (r s : List ℕ) → IsSmall m → IsSmall n → decimal m ++ (32 ∷ r) ≡ decimal n ++ (32 ∷ s) → (m ≡ n) × (32 ∷ r ≡ 32 ∷ s)
space_told m n r s h g e = small_unique m n (32 ∷ r) (32 ∷ s) h g space_no_digit space_no_digit e

feed_told : (m n : ℕ) → IsSmall m → IsSmall n → decimal m ++ codes "\n" ≡ decimal n ++ codes "\n" → m ≡ n
feed_told m n h g e = (small_unique m n (10 ∷ []) (10 ∷ []) h g feed_no_digit feed_no_digit e).0

-- the third letters of the five kinds of endings
abbrev kind_of : Ending → ℕ
kind_of (Done m) = 110
kind_of (Stuck m) = 117
kind_of (Limit m) = 109
kind_of (Spent m k v c) = 101
kind_of (Wide m k) = 100

third_of : (b : Ending) → get_or (ending_text b) 2 0 ≡ kind_of b
unfolding ending_text
third_of (Done m) = refl
third_of (Stuck m) = refl
third_of (Limit m) = refl
third_of (Spent m k v c) = refl
third_of (Wide m k) = refl

-- endings of two kinds have two texts
kinds_apart : (a b : Ending) → nat_eq (kind_of a) (kind_of b) ≡ false → ending_text a ≡ ending_text b → ⊥
kinds_apart a b apart e = eqb-false (kind_of a) (kind_of b) apart (sym (third_of a) ∙ ap (λ l. get_or l 2 0) e ∙ third_of b)

pub ending_unique : (a b : Ending) → IsEnding a → IsEnding b → ending_text a ≡ ending_text b → a ≡ b
unfolding ending_text
ending_unique (Done m) (Done n) h g e = ap Done (rounds_told m n h g (append_cancel_left (codes "done after ") _ _ e))
ending_unique (Stuck m) (Stuck n) h g e = ap Stuck (rounds_told m n h g (append_cancel_left (codes "stuck after ") _ _ e))
ending_unique (Limit m) (Limit n) h g e = ap Limit (rounds_told m n h g (append_cancel_left (codes "limit after ") _ _ e))
ending_unique (Spent m k v c) (Spent n l w d) h g e =
    let rounds = colon_told m n _ _ h.0 g.0 (append_cancel_left (codes "spent in round ") _ _ e) in
    let knots = space_told k l _ _ h.1 g.1 (append_cancel_left (codes ": knot ") _ _ rounds.1) in
    let weights = space_told v w _ _ h.2 g.2 (append_cancel_left (codes " weight ") _ _ knots.1) in
    let budget = feed_told c d h.3 g.3 (append_cancel_left (codes " budget ") _ _ weights.1) in
    (λ i. Spent (rounds.0 i) (knots.0 i) (weights.0 i) (budget i))
ending_unique (Wide m k) (Wide n l) h g e =
    let rounds = colon_told m n _ _ h.0 g.0 (append_cancel_left (codes "wide in round ") _ _ e) in
    let knot = feed_told k l h.1 g.1 (append_cancel_left (codes ": knot ") _ _ rounds.1) in
    (λ i. Wide (rounds.0 i) (knot i))
ending_unique a b h g e = absurd (kinds_apart a b refl e)

first_of : (b : Ending) → nat_eq 114 (first_or (ending_text b)) ≡ false
unfolding ending_text
first_of (Done m) = refl
first_of (Stuck m) = refl
first_of (Limit m) = refl
first_of (Spent m k v c) = refl
first_of (Wide m k) = refl

-- no ending begins with a round line
pub line_no-ending : (ports : List Port) (line : RoundLine) (more : List ℕ) (b : Ending) → ending_text b ≡ round_text ports line ++ more → ⊥
line_no-ending ports line more b e = eqb-false 114 (first_or (ending_text b)) (first_of b) (sym (ap first_or (e ∙ line_text ports line more)))
