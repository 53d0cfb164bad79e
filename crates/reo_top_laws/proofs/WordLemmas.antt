-- The words of the options of a run.
use Rattle.std.proofs.Common.{◌≡◌, ◌∙◌, ℕ, ◌^◌, ◌≤◌, ◌<◌, Bool, true, false, cond, not, List, [], ◌∷◌, length, refl, sym, ap, subst, arith, nat_le, ◌==◌, ◌&&◌, ◌++◌, get_or, drop}
use Rattle.std.proofs.lemmas.Bool.{and_parts, and_from}
use Rattle.std.specs.Prelude.{Option, Some, None, codes, option_and_then, option_map}
use Rattle.std.specs.List.{list_all}
use Rattle.std.specs.Str.{bytes_eq}
use Rattle.std.proofs.lemmas.Bool.Decides.{nat_tests}
use Rattle.std.proofs.lemmas.Slice.Eq.{bytes_eq-Decides}
use Rattle.reo_values.specs.Names.{is_digit}
use Rattle.reo_grammar.specs.Tokens.{number_from}
use Rattle.reo_command.specs.declared.setting.Setting.TheVariants.{Budget, Rounds}
use Rattle.reo_command.specs.Settings.{numbers_of, number_behind}
use Rattle.reo_command.specs.Numbers.{is_number}
use Rattle.reo_top_laws.specs.Words.{IsInDigits, Says, SayLimits}
use Rattle.reo_top_laws.proofs.DigitLemmas.{value_is, are_digits, some_digit, behind_zeros}

-- A number is told where it passes its test.
taken : (b : Bool) (v n : ℕ) → cond b (Some v) None ≡ Some n → (b ≡ true) × (v ≡ n)
taken true v n e = (refl, cc)
taken false v n e = absurd (cc)

given : (b : Bool) (v n : ℕ) → b ≡ true → v ≡ n → cond b (Some v) None ≡ Some n
given true v n is same = cc
given false v n is same = absurd (cc)

is_least : (n : ℕ) → nat_le 1 n ≡ true → 1 ≤ n
is_least n h = grind (arith, nat_tests)

is_most : (n : ℕ) → nat_le n 1000000000 ≡ true → n ≤ 1000000000
is_most n h = grind (arith, nat_tests)

is_short : (n : ℕ) → nat_le n 10 ≡ true → n ≤ 10
is_short n h = grind (arith, nat_tests)

in_range : (n : ℕ) → 1 ≤ n → n ≤ 1000000000 → (nat_le 1 n && nat_le n 1000000000) ≡ true
in_range n low high = and_from (nat_le 1 n) (nat_le n 1000000000) (grind (arith, nat_tests)) (grind (arith, nat_tests))

some_few : (n : ℕ) → 0 < n → n ≤ 10 → (not (n == 0) && nat_le n 10) ≡ true
some_few n some few = and_from (not (n == 0)) (nat_le n 10) (grind (arith, nat_tests)) (grind (arith, nat_tests))

number_is : (word : List ℕ) → list_all is_digit word ≡ true → 0 < length word → length word ≤ 10 → is_number word ≡ true
number_is word digits some few =
    let both : (not (length word == 0) && nat_le (length word) 10) ≡ true = some_few (length word) some few in
    and_from (not (length word == 0)) (nat_le (length word) 10 && list_all is_digit word) ((and_parts (not (length word == 0)) (nat_le (length word) 10) both).0)
    (and_from (nat_le (length word) 10) (list_all is_digit word) ((and_parts (not (length word == 0)) (nat_le (length word) 10) both).1) digits)

-- The number behind the option, and its digits.
pub digits_said : (word : List ℕ) (n : ℕ) → number_behind Rounds word ≡ Some n → IsInDigits word n × (1 ≤ n) × (n ≤ 10 ^ 9)
digits_said word n e =
    let v : ℕ = number_from 0 word in
    let told : ((is_number word && (nat_le 1 v && nat_le v 1000000000)) ≡ true) × (v ≡ n) = taken (is_number word && (nat_le 1 v && nat_le v 1000000000)) v n e in
    let number : is_number word ≡ true = (and_parts (is_number word) (nat_le 1 v && nat_le v 1000000000) told.0).0 in
    let range : (nat_le 1 v && nat_le v 1000000000) ≡ true = (and_parts (is_number word) (nat_le 1 v && nat_le v 1000000000) told.0).1 in
    let formed : (nat_le (length word) 10 && list_all is_digit word) ≡ true = (and_parts (not (length word == 0)) (nat_le (length word) 10 && list_all is_digit word) number).1 in
    let low : 1 ≤ v = is_least v ((and_parts (nat_le 1 v) (nat_le v 1000000000) range).0) in
    let high : v ≤ 1000000000 = is_most v ((and_parts (nat_le 1 v) (nat_le v 1000000000) range).1) in
    let few : length word ≤ 10 = is_short (length word) ((and_parts (nat_le (length word) 10) (list_all is_digit word) formed).0) in
    subst (λ (m : ℕ). IsInDigits word m × (1 ≤ m) × (m ≤ 10 ^ 9)) told.1 (in_digits word ((and_parts (nat_le (length word) 10) (list_all is_digit word) formed).1) few low high)
  where
    in_digits : (word : List ℕ) → list_all is_digit word ≡ true → length word ≤ 10 → 1 ≤ number_from 0 word → number_from 0 word ≤ 1000000000
        → IsInDigits word (number_from 0 word) × (1 ≤ number_from 0 word) × (number_from 0 word ≤ 10 ^ 9)
    in_digits word digits few low high =
        let shape = behind_zeros word digits low (omega arith) in
        (record { zeros = shape.0; word_is = shape.1; short = few }, low, omega arith)

pub number_said : (word : List ℕ) (n : ℕ) → IsInDigits word n → 1 ≤ n → n ≤ 10 ^ 9 → number_behind Rounds word ≡ Some n
number_said word n said low high =
    let small : n < 2 ^ 64 = omega arith in
    let value : number_from 0 word ≡ n = ap (number_from 0) said.word_is ∙ value_is said.zeros n small in
    let digits : list_all is_digit word ≡ true = ap (list_all is_digit) said.word_is ∙ are_digits said.zeros n small in
    let some : 0 < length word = subst (λ (w : List ℕ). 0 < length w) (sym said.word_is) (some_digit said.zeros n small) in
    let range : (nat_le 1 (number_from 0 word) && nat_le (number_from 0 word) 1000000000) ≡ true = in_range (number_from 0 word) (omega arith) (omega arith) in
    given (is_number word && (nat_le 1 (number_from 0 word) && nat_le (number_from 0 word) 1000000000)) (number_from 0 word) n
    (and_from (is_number word) (nat_le 1 (number_from 0 word) && nat_le (number_from 0 word) 1000000000) (number_is word digits some said.short) range) value

-- The numbers of the option, where its word stands or not, what is behind it, and what is left behind that.
abbrev numbers : Bool → Option ℕ → List (List ℕ) → List (List ℕ) → Option (List ℕ)
numbers b o rest words =
    option_and_then (λ (n : ℕ). option_map (λ (ns : List ℕ). n ∷ ns) (numbers_of [] (cond b rest words))) (cond b o (Some 100000))

lone : (b : Bool) (w : List ℕ) (n : ℕ) → numbers b None [] (w ∷ []) ≡ Some (n ∷ []) → ⊥
lone true w n e = cc
lone false w n e = cc

two : (b : Bool) (o : Option ℕ) (w v : List ℕ) (n : ℕ) → numbers b o [] (w ∷ v ∷ []) ≡ Some (n ∷ []) → (b ≡ true) × (o ≡ Some n)
two true None w v n e = absurd (cc)
two true (Some m) w v n e = (refl, cc)
two false o w v n e = absurd (cc)

two_back : (b : Bool) (o : Option ℕ) (w v : List ℕ) (n : ℕ) → b ≡ true → o ≡ Some n → numbers b o [] (w ∷ v ∷ []) ≡ Some (n ∷ [])
two_back true None w v n is e = absurd (cc)
two_back true (Some m) w v n is e = cc
two_back false o w v n is e = absurd (cc)

many : (b : Bool) (o : Option ℕ) (w v u : List ℕ) (ws : List (List ℕ)) (n : ℕ) → numbers b o (u ∷ ws) (w ∷ v ∷ u ∷ ws) ≡ Some (n ∷ []) → ⊥
many true None w v u ws n e = cc
many true (Some m) w v u ws n e = cc
many false o w v u ws n e = cc

rounds_told : (words : List (List ℕ)) (n : ℕ) → numbers_of (Rounds ∷ []) words ≡ Some (n ∷ []) → Says (codes "--rounds") words n
rounds_told [] n e = cc
rounds_told (w ∷ []) n e = lone (bytes_eq w (codes "--rounds")) w n e
rounds_told (w ∷ v ∷ []) n e =
    let parts = two (bytes_eq w (codes "--rounds")) (number_behind Rounds v) w v n e in
    let number = digits_said v n parts.1 in
    ((bytes_eq-Decides w (codes "--rounds")).0 parts.0, number.0, number.1, number.2)
rounds_told (w ∷ v ∷ u ∷ ws) n e = many (bytes_eq w (codes "--rounds")) (number_behind Rounds v) w v u ws n e

told_rounds : (words : List (List ℕ)) (n : ℕ) → Says (codes "--rounds") words n → numbers_of (Rounds ∷ []) words ≡ Some (n ∷ [])
told_rounds [] n e = cc
told_rounds (w ∷ []) n e = absurd e
told_rounds (w ∷ v ∷ []) n e =
    two_back (bytes_eq w (codes "--rounds")) (number_behind Rounds v) w v n ((bytes_eq-Decides w (codes "--rounds")).1 e.0) (number_said v n e.1 e.2 e.3)
told_rounds (w ∷ v ∷ u ∷ ws) n e = absurd e

-- The number of the first option and those of the others.
taken_both : (o : Option ℕ) (rest : Option (List ℕ)) (b n : ℕ) → option_and_then (λ (m : ℕ). option_map (λ (ns : List ℕ). m ∷ ns) rest) o ≡ Some (b ∷ n ∷ []) → (o ≡ Some b) × (rest ≡ Some (n ∷ []))
taken_both None rest b n e = absurd (cc)
taken_both (Some m) None b n e = absurd (cc)
taken_both (Some m) (Some ns) b n e = (cc, cc)

given_both : (o : Option ℕ) (rest : Option (List ℕ)) (b n : ℕ) → o ≡ Some b → rest ≡ Some (n ∷ []) → option_and_then (λ (m : ℕ). option_map (λ (ns : List ℕ). m ∷ ns) rest) o ≡ Some (b ∷ n ∷ [])
given_both None rest b n e f = absurd (cc)
given_both (Some m) None b n e f = absurd (cc)
given_both (Some m) (Some ns) b n e f = cc

-- Both numbers, where the word of the first option stands or not.
abbrev both_numbers : Bool → List ℕ → List (List ℕ) → Option (List ℕ)
both_numbers t w ws =
    option_and_then (λ (m : ℕ). option_map (λ (ns : List ℕ). m ∷ ns) (numbers_of (Rounds ∷ []) (cond t (drop 1 ws) (w ∷ ws))))
    (cond t (number_behind Budget (get_or ws 0 [])) (Some 100000))

absent_first : (words : List (List ℕ)) (b n : ℕ) → Some 100000 ≡ Some b → numbers_of (Rounds ∷ []) words ≡ Some (n ∷ []) → SayLimits words b n
absent_first words b n e f = record { first = []; second = words; words_are = refl; budget_said = cc; rounds_said = rounds_told words n f }

limits_for : (t : Bool) (w : List ℕ) (ws : List (List ℕ)) (b n : ℕ) → bytes_eq w (codes "--budget") ≡ t → both_numbers t w ws ≡ Some (b ∷ n ∷ []) → SayLimits (w ∷ ws) b n
limits_for false w ws b n is e =
    let parts = taken_both (Some 100000) (numbers_of (Rounds ∷ []) (w ∷ ws)) b n e in
    absent_first (w ∷ ws) b n parts.0 parts.1
limits_for true w [] b n is e =
    let parts = taken_both (number_behind Budget []) (numbers_of (Rounds ∷ []) []) b n e in
    absurd (no_digits b parts.0)
  where
    no_digits : (b : ℕ) → number_behind Budget [] ≡ Some b → ⊥
    no_digits b e = cc
limits_for true w (v ∷ us) b n is e =
    let parts = taken_both (number_behind Budget v) (numbers_of (Rounds ∷ []) us) b n e in
    let number = digits_said v b parts.0 in
    record {
      first = w ∷ v ∷ [];
      second = us;
      words_are = refl;
      budget_said = ((bytes_eq-Decides w (codes "--budget")).0 is, number.0, number.1, number.2);
      rounds_said = rounds_told us n parts.1;
    }

pub limits_told : (words : List (List ℕ)) (b n : ℕ) → numbers_of (Budget ∷ Rounds ∷ []) words ≡ Some (b ∷ n ∷ []) → SayLimits words b n
limits_told [] b n e =
    let parts = taken_both (Some 100000) (numbers_of (Rounds ∷ []) []) b n e in
    absent_first [] b n parts.0 parts.1
limits_told (w ∷ ws) b n e = limits_for (bytes_eq w (codes "--budget")) w ws b n refl e

-- The word of the second option is not that of the first.
other_word : (w : List ℕ) → w ≡ codes "--rounds" → bytes_eq w (codes "--budget") ≡ false
other_word w is = ap (λ (x : List ℕ). bytes_eq x (codes "--budget")) is

absent_back : (words : List (List ℕ)) (b n : ℕ) → b ≡ 100000 → Says (codes "--rounds") words n → numbers_of (Budget ∷ Rounds ∷ []) words ≡ Some (b ∷ n ∷ [])
absent_back [] b n is said = given_both (Some 100000) (numbers_of (Rounds ∷ []) []) b n (cc) (told_rounds [] n said)
absent_back (w ∷ []) b n is said = absurd said
absent_back (w ∷ v ∷ []) b n is said =
    subst (λ (t : Bool). both_numbers t w (v ∷ []) ≡ Some (b ∷ n ∷ [])) (sym (other_word w said.0))
    (given_both (Some 100000) (numbers_of (Rounds ∷ []) (w ∷ v ∷ [])) b n (cc) (told_rounds (w ∷ v ∷ []) n said))
absent_back (w ∷ v ∷ u ∷ us) b n is said = absurd said

told_for : (first second : List (List ℕ)) (b n : ℕ) → Says (codes "--budget") first b → Says (codes "--rounds") second n → numbers_of (Budget ∷ Rounds ∷ []) (first ++ second) ≡ Some (b ∷ n ∷ [])
told_for [] second b n is said = absent_back second b n is said
told_for (w ∷ []) second b n is said = absurd is
told_for (w ∷ v ∷ []) second b n is said =
    subst (λ (t : Bool). both_numbers t w (v ∷ second) ≡ Some (b ∷ n ∷ [])) (sym ((bytes_eq-Decides w (codes "--budget")).1 is.0))
    (given_both (number_behind Budget v) (numbers_of (Rounds ∷ []) second) b n (number_said v b is.1 is.2 is.3) (told_rounds second n said))
told_for (w ∷ v ∷ u ∷ us) second b n is said = absurd is

pub told_limits : (words : List (List ℕ)) (b n : ℕ) → SayLimits words b n → numbers_of (Budget ∷ Rounds ∷ []) words ≡ Some (b ∷ n ∷ [])
told_limits words b n said =
    subst (λ (ws : List (List ℕ)). numbers_of (Budget ∷ Rounds ∷ []) ws ≡ Some (b ∷ n ∷ [])) (sym said.words_are) (told_for said.first said.second b n said.budget_said said.rounds_said)
