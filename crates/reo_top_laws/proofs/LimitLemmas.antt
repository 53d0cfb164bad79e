-- How far runs may go.
use Rattle.std.proofs.Common.{◌≡◌, ℕ, ◌^◌, ◌≤◌, Bool, true, false, cond, List, [], ◌∷◌, drop, refl, arith}
use Rattle.std.specs.Prelude.{Option, Some, None, option_and_then, option_map, slice_get, slice_index_or}
use Rattle.std.specs.Option.{unwrap_or}
use Rattle.reo_command.specs.declared.setting.Setting.TheVariants.{Budget, Rounds}
use Rattle.reo_command.specs.Commands.{others_of}
use Rattle.reo_command.specs.Limits.{limits_of}
use Rattle.reo_command.specs.Settings.{number_of, behind, numbers_of, number_behind, stands}
use Rattle.reo_top_laws.proofs.WordLemmas.{digits_said}

-- No number or one that is small enough.
abbrev IsFew : Option ℕ → Type 0
IsFew None = Unit {0}
IsFew (Some n) = n ≤ 10 ^ 9

few_or : (b : Bool) (o : Option ℕ) → IsFew o → IsFew (cond b o (Some 100000))
few_or true o h = h
few_or false o h = omega arith

few_told : (o : Option ℕ) → ((n : ℕ) → o ≡ Some n → n ≤ 10 ^ 9) → IsFew o
few_told None h = tt
few_told (Some n) h = h n refl

few_first : (o : Option ℕ) (rest : Option (List ℕ)) → IsFew o
    → unwrap_or (option_and_then (λ (numbers : List ℕ). slice_get numbers 0) (option_and_then (λ (n : ℕ). option_map (λ (ns : List ℕ). n ∷ ns) rest) o)) 100000 ≤ 10 ^ 9
few_first None rest h = omega arith
few_first (Some n) None h = omega arith
few_first (Some n) (Some ns) h = h

few_second : (o : Option ℕ) (rest : Option (List ℕ)) → unwrap_or (option_and_then (λ (numbers : List ℕ). slice_get numbers 0) rest) 100000 ≤ 10 ^ 9
    → unwrap_or (option_and_then (λ (numbers : List ℕ). slice_get numbers 1) (option_and_then (λ (n : ℕ). option_map (λ (ns : List ℕ). n ∷ ns) rest) o)) 100000 ≤ 10 ^ 9
few_second None rest h = omega arith
few_second (Some n) None h = omega arith
few_second (Some n) (Some ns) h = h

few_budget_said : (words : List (List ℕ)) → IsFew (number_of Budget words)
few_budget_said words =
    few_or (stands Budget words) (number_behind Budget (slice_index_or words 1 []))
    (few_told (number_behind Budget (slice_index_or words 1 [])) (λ n e. (digits_said (slice_index_or words 1 []) n e).2))

few_rounds_said : (words : List (List ℕ)) → IsFew (number_of Rounds words)
few_rounds_said words =
    few_or (stands Rounds words) (number_behind Rounds (slice_index_or words 1 []))
    (few_told (number_behind Rounds (slice_index_or words 1 [])) (λ n e. (digits_said (slice_index_or words 1 []) n e).2))

rest_few : (words : List (List ℕ)) → unwrap_or (option_and_then (λ (numbers : List ℕ). slice_get numbers 0) (numbers_of (Rounds ∷ []) words)) 100000 ≤ 10 ^ 9
rest_few words = few_first (number_of Rounds words) (numbers_of [] (behind Rounds words)) (few_rounds_said words)

-- The budget is at most 10^9.
pub few_budget : (words : List (List ℕ)) → (limits_of words).budget ≤ 10 ^ 9
few_budget words =
    let options : List (List ℕ) = drop 2 (others_of words) in
    few_first (number_of Budget options) (numbers_of (Rounds ∷ []) (behind Budget options)) (few_budget_said options)

-- The number of rounds is at most 10^9.
pub few_rounds : (words : List (List ℕ)) → (limits_of words).rounds ≤ 10 ^ 9
few_rounds words =
    let options : List (List ℕ) = drop 2 (others_of words) in
    few_second (number_of Budget options) (numbers_of (Rounds ∷ []) (behind Budget options)) (rest_few (behind Budget options))
