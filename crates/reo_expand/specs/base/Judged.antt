-- What judging a part of an item answers.
use Rattle.std.specs.Prelude.{◌≡◌, ◌⊎◌, ◌^◌, ◌≤ℤ◌, ℤ, pos, neg_ℤ, ℕ, Result, Ok, Err, MatchResult, List, [], ◌∷◌}
use Rattle.reo_trees.specs.declared.indexes.Index.{Index}
use Rattle.reo_trees.specs.declared.indexes.SignedUnit.{SignedUnit}
use Rattle.reo_expand.specs.declared.base.bound.Bound.{Bound}
use Rattle.reo_expand.specs.declared.base.fault.ExpandFault.{ExpandFault}
use Rattle.reo_expand.specs.declared.base.fault.ExpandFault.TheVariants as faults
use Rattle.reo_expand.specs.base.Indexed.{signed, unit_value, value_of, unbound_unit}
use Rattle.reo_expand.specs.base.Steps.{Step, unbound_steps, walked}
use Rattle.reo_expand.specs.base.Steps.Step.{refused}

-- The fault is the first of these steps, or memory ran out.
abbrev pub IsHalted : List Step → ExpandFault → Type 0
IsHalted steps f = (f ≡ faults.NoMemory) ⊎ ((rest : List Step) × (steps ≡ refused f ∷ rest))

-- Where none of these steps refuses, the answer is as is told.
abbrev pub Judges : {A : Type 0} → List Step → (A → Type 0) → Result A ExpandFault → Type 0
Judges steps P r = MatchResult r (λ x. (steps ≡ []) × P x) (IsHalted steps)

-- A value within 2^61.
abbrev pub IsNear : ℤ → Type 0
IsNear z = (neg_ℤ (pos (2 ^ 61)) ≤ℤ z) × (z ≤ℤ pos (2 ^ 61))

-- The value of a unit, or its name has none.
abbrev pub IsUnitJudged : List Bound → ℕ → SignedUnit → Result ℤ ExpandFault → Type 0
IsUnitJudged bound line u r =
    MatchResult r (λ z. (unbound_unit bound u.unit ≡ []) × (z ≡ signed u.minus (unit_value bound u.unit)) × IsNear z)
    (λ f. (f ≡ faults.NoMemory) ⊎ ((name : List ℕ) × (unbound_unit bound u.unit ≡ name ∷ []) × (f ≡ faults.Unbound line name)))

-- The value of an index whose names all have values.
abbrev pub IsJudged : List Bound → ℕ → Index → Result ℤ ExpandFault → Type 0
IsJudged bound line i r = Judges (unbound_steps bound line i) (λ z. (z ≡ value_of bound i) × IsNear z) r

-- From a count the steps lead to a count, or to the refusal; or memory ran out.
abbrev pub IsWalked : {A : Type 0} → ℕ → List Step → ℕ → Result A ExpandFault → Type 0
IsWalked n steps m r = MatchResult r (λ x. walked n steps ≡ Ok m) (λ f. (f ≡ faults.NoMemory) ⊎ (walked n steps ≡ Err f))
