-- Counts of faults, one call after another.
use Rattle.std.proofs.Common.{◌≡◌, ◌∙◌, ℕ, ◌≤◌, ◌<◌, List, [], inl, inr, refl, sym, arith}
use Rattle.std.proofs.Math.Nat.{eq-or-lt_of_le}
use Rattle.std.specs.Prelude.{Result, Ok, Err, IsOk, IsErr, IsErrOf}
use Rattle.reo_io.specs.Causes.{Rose, HasCause}
use Rattle.reo_io.specs.Fetches.{failed_after}
use Rattle.reo_io.specs.declared.files.FetchFault.{FetchFault}
use Rattle.reo_io.specs.declared.files.FetchFault.TheVariants.{Failed, TooLong, NoMemory}

-- what rose since a later count rose since an earlier one
pub Rose-since : (before mid now : ℕ) → before ≤ mid → Rose mid now → Rose before now
Rose-since before mid now h rose = omega arith

-- what rose has still risen at a later count
pub Rose-until : (before mid now : ℕ) → Rose before mid → mid ≤ now → Rose before now
Rose-until before mid now rose h = omega arith

-- a cause that came after calls that left the count as it was
pub HasCause-after : {T E : Type 0} (before mid now : ℕ) (result : Result T E) → mid ≡ before → HasCause mid now result → HasCause before now result
HasCause-after before mid now (Ok x) h cause = record { later = omega arith; failed = tt; answered = cause.answered ∙ h }
HasCause-after before mid now (Err e) h cause = record { later = omega arith; failed = Rose-since before mid now (omega arith) cause.failed; answered = tt }

-- where the count rose, the call answered an error
pub HasCause-rose : {T E : Type 0} (before now : ℕ) (result : Result T E) → HasCause before now result → before < now → IsErr result
HasCause-rose before now (Ok x) cause rose = absurd (let same : now ≡ before = cause.answered in omega arith)
HasCause-rose before now (Err e) cause rose = refl

-- a count that rises only with one error is as it was where there is none
pub same_count : {T E : Type 0} (before now : ℕ) (x : T) (fault : E) → before ≤ now → (before < now → IsErrOf (Ok x) fault) → now ≡ before
same_count before now x fault later risen = elim (eq-or-lt_of_le later) [
  | inl same ↦ sym same
  | inr rose ↦ absurd (let is : IsErrOf (Ok x) fault = risen rose in cc)
]

-- where the count is constantly 0, no call answers an error
pub HasCause-never : {T E : Type 0} (result : Result T E) → HasCause 0 0 result → IsOk result
HasCause-never (Ok x) cause = refl
HasCause-never (Err e) cause = absurd (let h : Rose 0 0 = cause.failed in omega arith)

-- where no name is ever noted, no fetch answers Failed
pub failed_after-never : {T : Type 0} (name : List ℕ) (result : Result T FetchFault) → [] ≡ failed_after [] name result → IsErrOf result Failed → ⊥
failed_after-never name (Ok x) same failed = cc
failed_after-never name (Err Failed) same failed = cc
failed_after-never name (Err TooLong) same failed = cc
failed_after-never name (Err NoMemory) same failed = cc
