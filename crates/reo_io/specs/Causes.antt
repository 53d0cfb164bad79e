-- Counts of faults.
use Rattle.std.specs.Prelude.{ℕ, ◌+◌, ◌-◌, ◌^◌, ◌≡◌, ◌≤◌, min, Result, Ok, Err, OnErr, OnOk}

-- A count of one more, which stays at the last value of its type.
abbrev pub one_more : ℕ → ℕ
one_more count = min (count + 1) (2 ^ 64 - 1)

-- A count has risen, or stands at its last value.
abbrev pub Rose : ℕ → ℕ → Type 0
Rose before now = one_more before ≤ now

-- A count has not fallen; where the call answers an error it has risen, and else it is as it was.
pub record HasCause {T E : Type 0} (before now : ℕ) (result : Result T E) : Type 0 where
  pub later : before ≤ now
  pub failed : OnErr result (Rose before now)
  pub answered : OnOk result (now ≡ before)

-- A count that rises by one at each error, and at nothing else.
abbrev pub faults_after : {T E : Type 0} → ℕ → Result T E → ℕ
faults_after faults (Ok _) = faults
faults_after faults (Err _) = one_more faults
