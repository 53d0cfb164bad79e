-- Replays round by round, in the subject's own words.
use Rattle.std.specs.Prelude.{ℕ, suc, ◌+◌, ◌<◌, ◌≡◌, true, false, Some, List, length, slice_get}
use Rattle.reo_players.specs.Players.{Player, all_done, someone_counts}
use Rattle.reo_trace.specs.declared.line.RoundLine.{RoundLine}
use Rattle.reo_trace.specs.declared.line.Ending.{Ending}
use Rattle.reo_trace.specs.declared.line.Ending.TheVariants.{Done, Stuck, Limit, Spent, Wide}
use Rattle.reo_trace_reader.specs.declared.texts.trace.Trace.{Trace}
use Rattle.reo_rounds.specs.Rules.{Rules}
use Rattle.reo_runs.specs.Round.{State, RoundOf}
use Rattle.reo_runs.specs.verdicts.Replays.{colourings}

-- After a round that was idle, in which no component counted, the run is stuck.
pub record IsStill (line : RoundLine) (before : List Player) : Type 0 where
  pub idle : line.idle ≡ true
  pub nobody : someone_counts before ≡ false

module _ {P : Type 0} (states : ℕ → State P) (lines : List RoundLine) where
  -- So many rounds have left the run stuck: there is a last one, and it was still.
  pub record IsStuckAfter (count : ℕ) : Type 0 where
    pub before : ℕ
    pub line : RoundLine
    pub count_is : count ≡ suc before
    pub line_is : slice_get lines before ≡ Some line
    pub still : IsStill line (states before).players

  -- After so many rounds the run goes on: some component is not done, and it is not stuck.
  pub record GoesOnAfter (count : ℕ) : Type 0 where
    pub not_done : all_done (states count).players ≡ false
    pub not_stuck : IsStuckAfter count → ⊥

  -- The ending of so many rounds.
  abbrev pub IsEndingAfter : ℕ → Ending → Type 0
  IsEndingAfter count (Done rounds) = (rounds ≡ count) × (all_done (states count).players ≡ true)
  IsEndingAfter count (Stuck rounds) = (rounds ≡ count) × (all_done (states count).players ≡ false) × IsStuckAfter count
  IsEndingAfter count (Limit rounds) = (rounds ≡ count) × GoesOnAfter count
  IsEndingAfter count (Spent round knot weight budget) = (round ≡ count + 1) × GoesOnAfter count
  IsEndingAfter count (Wide round knot) = (round ≡ count + 1) × GoesOnAfter count

-- The trace can be replayed from a state: round by round it is the round of a colouring, the run goes on before each, and it
-- ends as the trace says.
pub record IsReplay {P : Type 0} (r : Rules P) (start : State P) (t : Trace) : Type 0 where
  pub states : ℕ → State P
  pub begins : states 0 ≡ start
  pub rounds : (i : ℕ) (line : RoundLine) → slice_get t.rounds i ≡ Some line → RoundOf colourings r (i + 1) (states i) line (states (i + 1))
  pub going : (i : ℕ) → i < length t.rounds → GoesOnAfter states t.rounds i
  pub ending : IsEndingAfter states t.rounds (length t.rounds) t.ending
