-- A component over rounds in which no offer of its flows.
use Rattle.std.specs.Prelude.{ℕ, zero, suc, ◌+◌, ◌^◌, ◌<◌, ◌≤◌, ◌≡◌, true, false, Some, None, List, ◌∷◌}
use Rattle.reo_values.specs.declared.value.Value.{Value}
use Rattle.reo_players.specs.declared.step.Step.{Step}
use Rattle.reo_players.specs.declared.step.Step.TheVariants.{Moved, Stays, GaveUp}
use Rattle.reo_players.specs.Written.{Task}
use Rattle.reo_players.specs.Written.Task.{writes, takes, rests}
use Rattle.reo_players.specs.Players.{Player, after, step_of, counts}

-- A component with these actions to do, the first of which has seen no round.
abbrev pub before : List Task → Player
before tasks = record { rest = tasks; seen = 0 }

-- After so many such rounds.
abbrev pub waited : ℕ → Player → Player
waited zero p = p
waited (suc rounds) p = after false (waited rounds p)

-- For so many rounds the action is the present one, and the component counts; it ends in the last of them, in this way, and then
-- the next is present and has seen no round.
pub record LastsExactly (rounds : ℕ) (end : Step) (task : Task) (tasks : List Task) : Type 0 where
  pub present : (seen : ℕ) → seen < rounds → (waited seen (before (task ∷ tasks))).rest ≡ task ∷ tasks
  pub counted : (seen : ℕ) → seen < rounds → counts (waited seen (before (task ∷ tasks))) ≡ true
  pub stays : (seen : ℕ) → seen + 1 < rounds → step_of false (waited seen (before (task ∷ tasks))) ≡ Stays
  pub ends : (seen : ℕ) → seen + 1 ≡ rounds → step_of false (waited seen (before (task ∷ tasks))) ≡ end
  pub next : waited rounds (before (task ∷ tasks)) ≡ before tasks

-- Writes and takes with a bound, and pauses, each of 1 to 2^32 - 1 rounds.
pub record AreExact (rounds : ℕ) (tasks : List Task) : Type 0 where
  pub write : (port : ℕ) (item : Value) → LastsExactly rounds (GaveUp port) (writes port item (Some rounds)) tasks
  pub take : (port : ℕ) → LastsExactly rounds (GaveUp port) (takes port (Some rounds)) tasks
  pub pause : LastsExactly rounds Moved (rests rounds) tasks

abbrev pub BoundsAreExact : Type 0
BoundsAreExact = (rounds : ℕ) (tasks : List Task) → 1 ≤ rounds → rounds < 2 ^ 32 → AreExact rounds tasks

-- After any number of rounds the action is the present one, the component does not count, and one more round changes nothing.
pub record Waits (task : Task) (tasks : List Task) (rounds : ℕ) : Type 0 where
  pub present : (waited rounds (before (task ∷ tasks))).rest ≡ task ∷ tasks
  pub uncounted : counts (waited rounds (before (task ∷ tasks))) ≡ false
  pub stays : step_of false (waited rounds (before (task ∷ tasks))) ≡ Stays

-- Writes and takes without a bound.
pub record WaitOn (tasks : List Task) (rounds : ℕ) : Type 0 where
  pub write : (port : ℕ) (item : Value) → Waits (writes port item None) tasks rounds
  pub take : (port : ℕ) → Waits (takes port None) tasks rounds

abbrev pub WithoutBoundItWaits : Type 0
WithoutBoundItWaits = (tasks : List Task) (rounds : ℕ) → WaitOn tasks rounds
