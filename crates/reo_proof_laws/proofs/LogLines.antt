-- The text of a right log is that of whole lines.
use Rattle.std.proofs.Common.{◌≡◌, ◌<◌, ◌^◌, ◌&&◌, ℕ, List, [], ◌∷◌, ◌++◌, Bool, true, not, nat_eq, map, refl, ◌∙◌, arith}
use Rattle.std.proofs.lemmas.Bool.{and_parts}
use Rattle.std.specs.Prelude.{codes}
use Rattle.std.specs.List.{All}
use Rattle.std.specs.Fmt.{decimal}
use Rattle.std.proofs.lemmas.Bool.Decides.{nat_tests}
use Rattle.std.proofs.lemmas.List.{append-nil}
use Rattle.std.proofs.lemmas.List.Elements.{All-nil, All-cons, All-append, All-head, All-tail, All-weaker}
use Rattle.reo_values.specs.decimals.Digits.{IsDigit}
use Rattle.reo_values.proofs.decimals.Digits.{digits_of_decimal}
use Rattle.reo_values.proofs.decimals.Fronts.{heads_apart}
use Rattle.reo_joint_values.specs.declared.value.JointValue.{JointValue}
use Rattle.reo_joint_values.specs.declared.value.JointValue.TheVariants.{Flow, RG, GR, GG, Jam}
use Rattle.reo_refute_base.specs.declared.line.LogLine.{LogLine}
use Rattle.reo_refute_base.specs.declared.line.LogLine.TheVariants.{At, Drop, Empty, Split}
use Rattle.reo_refute_base.specs.Texts.{value_words, line_text, log_text, IsValueNumbered, IsNumbered}
use Rattle.reo_proof_texts.specs.Cuts.{IsInLine, IsLogLine, lines_text}
use Rattle.reo_proof_laws.specs.Logs.{LogsAreLines}

-- A line without its line feed.
abbrev bare : LogLine → List ℕ
bare (At p) = codes "at " ++ decimal p
bare (Drop j v side) = codes "drop " ++ decimal j ++ codes " " ++ value_words v ++ codes " " ++ decimal side
bare (Empty j) = codes "empty " ++ decimal j
bare (Split j) = codes "split " ++ decimal j

bare_text : (line : LogLine) → line_text line ≡ bare line ++ codes "\n"
bare_text (At p) = refl
bare_text (Drop j v side) = refl
bare_text (Empty j) = refl
bare_text (Split j) = refl

pub bare_texts : (lines : List LogLine) → log_text lines ≡ lines_text (map bare lines)
bare_texts [] = refl
bare_texts (l ∷ ls) =
    let here = bare_text l in
    let rest = bare_texts ls in
    λ i. here i ++ rest i

-- Whether words have no line feed.
abbrev has_none : List ℕ → Bool
has_none [] = true
has_none (b ∷ bs) = not (nat_eq b 10) && has_none bs

head_apart : (b : ℕ) (rest : Bool) → not (nat_eq b 10) && rest ≡ true → IsInLine b
head_apart b rest h e = grind (arith, nat_tests, h, e)

in_line : (bs : List ℕ) → has_none bs ≡ true → All IsInLine bs
in_line [] h = All-nil IsInLine
in_line (b ∷ bs) h = All-cons IsInLine b bs (head_apart b (has_none bs) h) (in_line bs ((and_parts (not (nat_eq b 10)) (has_none bs) h).1))

both_in : (xs ys : List ℕ) → All IsInLine xs → All IsInLine ys → All IsInLine (xs ++ ys)
both_in xs ys p q = All-append IsInLine xs ys p q

number_in : (n : ℕ) → n < 2 ^ 63 → All IsInLine (decimal n)
number_in n lt = All-weaker IsDigit IsInLine (λ b d e. omega (arith, d.0, e)) (decimal n) (digits_of_decimal n (omega (arith, lt)))

value_in : (v : JointValue) → IsValueNumbered v → All IsInLine (value_words v)
value_in (Flow n) lt = both_in (codes "f ") (decimal n) (in_line (codes "f ") refl) (number_in n (omega (arith, lt)))
value_in RG h = in_line (codes "rg") refl
value_in GR h = in_line (codes "gr") refl
value_in GG h = in_line (codes "gg") refl
value_in Jam h = in_line (codes "jam") refl

worded_in : (words : List ℕ) (n : ℕ) → has_none words ≡ true → n < 2 ^ 63 → All IsInLine (words ++ decimal n)
worded_in words n h lt = both_in words (decimal n) (in_line words h) (number_in n lt)

line_in : (line : LogLine) → IsNumbered line → All IsInLine (bare line)
line_in (At p) lt = worded_in (codes "at ") p refl lt
line_in (Drop j v side) is =
    let space = in_line (codes " ") refl in
    both_in (codes "drop " ++ decimal j ++ codes " " ++ value_words v ++ codes " ") (decimal side)
    (both_in (codes "drop " ++ decimal j ++ codes " " ++ value_words v) (codes " ")
    (both_in (codes "drop " ++ decimal j ++ codes " ") (value_words v)
    (both_in (codes "drop " ++ decimal j) (codes " ") (worded_in (codes "drop ") j refl is.0) space) (value_in v is.1)) space) (number_in side is.2)
line_in (Empty j) lt = worded_in (codes "empty ") j refl lt
line_in (Split j) lt = worded_in (codes "split ") j refl lt

-- None of them is the line that ends a log.
goes_on : (line : LogLine) → bare line ≡ codes "proved" → ⊥
goes_on (At p) e = heads_apart 97 112 (codes "t " ++ decimal p) (codes "roved") refl e
goes_on (Drop j v side) e = heads_apart 100 112 (codes "rop " ++ decimal j ++ codes " " ++ value_words v ++ codes " " ++ decimal side) (codes "roved") refl e
goes_on (Empty j) e = heads_apart 101 112 (codes "mpty " ++ decimal j) (codes "roved") refl e
goes_on (Split j) e = heads_apart 115 112 (codes "plit " ++ decimal j) (codes "roved") refl e

pub bare_lines : (lines : List LogLine) → All IsNumbered lines → All IsLogLine (map bare lines)
bare_lines [] all = All-nil IsLogLine
bare_lines (l ∷ ls) all =
    All-cons IsLogLine (bare l) (map bare ls) (record { one_line = line_in l (All-head IsNumbered l ls all); not_last = goes_on l }) (bare_lines ls (All-tail IsNumbered l ls all))

pub logs_are_lines : LogsAreLines
logs_are_lines net turn given text is = (
  map bare is.lines,
  record {
    are_lines = bare_lines is.lines is.text.numbered;
    text_is = is.text.text ∙ append-nil (log_text is.lines) ∙ bare_texts is.lines;
  },
)
