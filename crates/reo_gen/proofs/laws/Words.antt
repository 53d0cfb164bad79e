-- Names with a number are names.
use Rattle.std.proofs.Common.{◌≡◌, ℕ, ◌<◌, ◌^◌, Bool, true, false, not, List, [], ◌∷◌, refl, codes}
use Rattle.std.specs.List.{list_all}
use Rattle.std.specs.Fmt.{decimal}
use Rattle.reo_values.specs.Names.{is_digit, is_letter, is_name_byte}
use Rattle.reo_grammar.specs.Bytes.{one_of}
use Rattle.reo_grammar.specs.Spelling.{is_digits, reserved}
use Rattle.reo_lexer.proofs.Spelled.{one_of-passes, yes-not, never}
use Rattle.reo_syntax.proofs.Decimals.{decimal-value}
use Rattle.reo_gen.specs.Names.{numbered, link, output}
use Rattle.reo_gen.proofs.laws.Pieces.{IsNamed}
use Rattle.std.proofs.lemmas.Bool.{or_right as or-right, and_parts, and_from}

name_bytes : (ds : List ℕ) → list_all is_digit ds ≡ true → list_all is_name_byte ds ≡ true
name_bytes [] h = refl
name_bytes (d ∷ ds) h =
    and_from (is_name_byte d) (list_all is_name_byte ds) (or-right (is_letter d) (is_digit d) ((and_parts (is_digit d) (list_all is_digit ds) h).0)) (name_bytes ds ((and_parts (is_digit d) (list_all is_digit ds) h).1))

-- No reserved word has a digit as its second byte.
abbrev no_digit_second : List ℕ → Bool
no_digit_second [] = true
no_digit_second (b ∷ []) = true
no_digit_second (b ∷ d ∷ bs) = not (is_digit d)

contrary : (b : Bool) → b ≡ true → not b ≡ true → ⊥
contrary true h k = cc
contrary false h k = cc

-- A letter with digits behind it.
pub named-digits : (b : ℕ) (ds : List ℕ) → is_letter b ≡ true → is_digits ds ≡ true → IsNamed (b ∷ ds)
named-digits b [] l h = absurd (cc)
named-digits b (d ∷ ds) l h = record {
  spelled = and_from (is_letter b) (list_all is_name_byte (d ∷ ds)) l (name_bytes (d ∷ ds) h);
  free = yes-not (one_of (b ∷ d ∷ ds) reserved) (never (one_of (b ∷ d ∷ ds) reserved)
      (λ e. contrary (is_digit d) ((and_parts (is_digit d) (list_all is_digit ds) h).0) (one_of-passes no_digit_second (b ∷ d ∷ ds) reserved refl e)));
}

pub named-output : (j : ℕ) → j < 2 ^ 64 → IsNamed (output j)
named-output j h = named-digits 111 (decimal j) refl (decimal-value j h).0

pub named-link : (j : ℕ) → j < 2 ^ 64 → IsNamed (link j)
named-link j h = named-digits 115 (decimal j) refl (decimal-value j h).0

pub named-taker : (j : ℕ) → j < 2 ^ 64 → IsNamed (numbered (codes "t") j)
named-taker j h = named-digits 116 (decimal j) refl (decimal-value j h).0
