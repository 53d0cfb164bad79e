-- Why a round is not made.
use Rattle.std.specs.Prelude.{ℕ, ◌≡◌}
use Rattle.reo_weights.specs.declared.exceeds.Exceeds.{Exceeds}
use Rattle.reo_weights.specs.declared.exceeds.Exceeds.TheVariants as plans
use Rattle.reo_live.specs.declared.base.answer.Answer.{Answer}
use Rattle.reo_live.specs.declared.base.answer.Answer.TheVariants as answers

-- The answer that says so of the round of a number.
abbrev pub IsStopOf : (round budget : ℕ) → Exceeds → Answer → Type 0
IsStopOf round budget (plans.Wide knot) answer = answer ≡ answers.Wide round knot
IsStopOf round budget (plans.Spent knot weight) answer = answer ≡ answers.Spent round knot weight budget
IsStopOf round budget plans.NoMemory answer = ⊥
