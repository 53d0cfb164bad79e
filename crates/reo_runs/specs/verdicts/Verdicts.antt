-- The verdict on a trace.
use Rattle.std.specs.Prelude.{ℕ, ◌+◌, ◌≡◌, ◌≢◌, ◌⊎◌, None, List, [], ◌∷◌, ◌++◌, length}
use Rattle.reo_trace.specs.declared.line.RoundLine.{RoundLine}
use Rattle.reo_trace.specs.declared.line.Ending.{Ending}
use Rattle.reo_trace_reader.specs.declared.texts.trace.Trace.{Trace}
use Rattle.reo_rounds.specs.Rules.{Rules}
use Rattle.reo_runs.specs.Round.{net_ready}
use Rattle.reo_runs.specs.Run.{Place, Leads, EndsAs, IsRun}
use Rattle.reo_runs.specs.declared.verdicts.verdict.Refusal.{Refusal}
use Rattle.reo_runs.specs.declared.verdicts.verdict.Refusal.TheVariants as refusals
use Rattle.reo_runs.specs.declared.verdicts.verdict.Verdict.{Verdict}
use Rattle.reo_runs.specs.declared.verdicts.verdict.Verdict.TheVariants as verdicts
use Rattle.reo_runs.specs.verdicts.Said.{jammed}
use Rattle.reo_runs.specs.verdicts.Wrongs.{IsWrongRound}
use Rattle.reo_runs.specs.verdicts.Replays.{colourings}

module _ {P : Type 0} (r : Rules P) (nodes : List (List ℕ)) (homes : List ℕ) where
  -- What is wrong behind rounds that are right: a round though the run is over, a wrong round, or the ending.
  abbrev pub IsWrongAt : ℕ → Place P → List RoundLine → Ending → Refusal → Type 0
  IsWrongAt turn q [] ending refusal = (refusal ≡ refusals.End) × (EndsAs colourings r turn q ending → ⊥)
  IsWrongAt turn q (line ∷ lines) ending refusal =
      ((q.over ≢ None) × (refusal ≡ refusals.Ended turn))
      ⊎ ((q.over ≡ None) × IsWrongRound nodes homes (net_ready r q.state) q.state.circuit.ports turn line refusal)

  -- The first that is wrong with a trace: the rounds before it are those of a run.
  pub record IsRefused (start : Place P) (t : Trace) (refusal : Refusal) : Type 0 where
    pub right : List RoundLine
    pub left : List RoundLine
    pub last : Place P
    pub cut : t.rounds ≡ right ++ left
    pub rounds : Leads colourings r 1 start right last
    pub wrong : IsWrongAt (length right + 1) last left t.ending refusal

  -- The verdict on a trace: it is a run in which each round is some colouring, or this is the first that is wrong with it.
  abbrev pub IsVerdict : Place P → Trace → Verdict → Type 0
  IsVerdict start t (verdicts.Verified rounds jams) = IsRun colourings r start t.rounds t.ending × (rounds ≡ length t.rounds) × (jams ≡ jammed t.rounds)
  IsVerdict start t (verdicts.Refused refusal) = IsRefused start t refusal
