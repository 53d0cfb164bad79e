-- What the words of a run say, in other words than those of its definition.
use Rattle.std.specs.Prelude.{ℕ, ◌≡◌, ◌≤◌, ◌^◌, ◌↔◌, Some, List, [], ◌∷◌, ◌++◌, codes, length, replicate}
use Rattle.std.specs.Fmt.{decimal}
use Rattle.reo_command.specs.declared.setting.Setting.TheVariants.{Budget, Rounds}
use Rattle.reo_command.specs.Settings.{numbers_of}

-- A number in decimal, with zeros before it, in at most ten digits.
pub record IsInDigits (word : List ℕ) (n : ℕ) : Type 0 where
  pub zeros : ℕ
  pub word_is : word ≡ replicate zeros 48 ++ decimal n
  pub short : length word ≤ 10

-- These words say a number of an option: none say 100,000, and its word with a number from 1 to 10^9 that number.
abbrev pub Says : List ℕ → List (List ℕ) → ℕ → Type 0
Says option [] n = n ≡ 100000
Says option (word ∷ number ∷ []) n = (word ≡ option) × IsInDigits number n × (1 ≤ n) × (n ≤ 10 ^ 9)
Says option _ n = ⊥

-- The words say a budget and a number of rounds, in this order.
pub record SayLimits (words : List (List ℕ)) (budget rounds : ℕ) : Type 0 where
  pub first : List (List ℕ)
  pub second : List (List ℕ)
  pub words_are : words ≡ first ++ second
  pub budget_said : Says (codes "--budget") first budget
  pub rounds_said : Says (codes "--rounds") second rounds

-- These are exactly the words with the options.
abbrev pub LimitsAreSaid : Type 0
LimitsAreSaid = (words : List (List ℕ)) (budget rounds : ℕ)
    → (numbers_of (Budget ∷ Rounds ∷ []) words ≡ Some (budget ∷ rounds ∷ [])) ↔ SayLimits words budget rounds
