-- How runs come out.
use Rattle.std.specs.Prelude.{ℕ, ◌≡◌, ◌+◌, Option, List, length}
use Rattle.reo_net_base.specs.declared.port.Port.{Port}
use Rattle.reo_io.specs.Sinks.{Appended, TookPart}
use Rattle.reo_trace.specs.EndingText.{ending_text}
use Rattle.reo_trace.specs.declared.line.RoundLine.{RoundLine}
use Rattle.reo_trace.specs.declared.line.Ending.{Ending}
use Rattle.reo_trace.specs.declared.line.Ending.TheVariants as endings
use Rattle.reo_rounds.specs.Rules.{Rules}
use Rattle.reo_runs.specs.Run.{Place, firsts}
use Rattle.reo_runs.specs.Written.{Ran, Cut, Kept, moved, is_in, is_out}
use Rattle.reo_runner.specs.declared.outcome.Outcome.{Outcome}
use Rattle.reo_runner.specs.declared.outcome.Tally.{Tally}
use Rattle.reo_runner.specs.declared.outcome.End2.{End2}
use Rattle.reo_runner.specs.declared.outcome.End2.TheVariants as ends
use Rattle.reo_runner.specs.declared.planning.RoundFault.{RoundFault}
use Rattle.reo_runner.specs.declared.planning.RoundFault.TheVariants as faults

-- The numbers of a tally are those of some rounds: how many they are, and what moved at `in` and at `out` ports in them.
pub record Counts (ports : List Port) (lines : List RoundLine) (t : Tally) : Type 0 where
  pub rounds : t.rounds ≡ length lines
  pub written : t.written ≡ moved is_in ports lines
  pub delivered : t.delivered ≡ moved is_out ports lines

-- The numbers of an outcome.
abbrev pub tally_of : Outcome → Tally
tally_of o = record { rounds = o.rounds; written = o.written; delivered = o.delivered }

module _ {P : Type 0} (r : Rules P) (ports : List Port) (budget limit : ℕ) (start : Place P) where
  -- What these round lines, and what was written of the trace, are to an end: the whole trace with its ending; after a fault a front; after want of memory whole lines.
  abbrev pub Wrote : List RoundLine → Option (List ℕ) → Option (List ℕ) → End2 → Type 0
  Wrote lines before now ends.Done = Ran (firsts budget limit) r ports start lines (endings.Done (length lines)) before now
  Wrote lines before now ends.Stuck = Ran (firsts budget limit) r ports start lines (endings.Stuck (length lines)) before now
  Wrote lines before now ends.Limit = Ran (firsts budget limit) r ports start lines (endings.Limit (length lines)) before now
  Wrote lines before now (ends.Spent knot weight) = Ran (firsts budget limit) r ports start lines (endings.Spent (length lines + 1) knot weight budget) before now
  Wrote lines before now (ends.Wide knot) = Ran (firsts budget limit) r ports start lines (endings.Wide (length lines + 1) knot) before now
  Wrote lines before now ends.WriteFault = Cut (firsts budget limit) r ports start lines before now
  Wrote lines before now ends.NoMemory = Kept (firsts budget limit) r ports start lines before now

  -- What a run has come to: round lines that were written whole, which its numbers count, and its end.
  pub record CameTo (before now : Option (List ℕ)) (o : Outcome) : Type 0 where
    pub lines : List RoundLine
    pub counts : Counts ports lines (tally_of o)
    pub wrote : Wrote lines before now o.end

-- The end that an outcome names for an ending of the trace.
abbrev pub outcome_end : Ending → End2
outcome_end (endings.Done rounds) = ends.Done
outcome_end (endings.Stuck rounds) = ends.Stuck
outcome_end (endings.Limit rounds) = ends.Limit
outcome_end (endings.Spent round knot weight budget) = ends.Spent knot weight
outcome_end (endings.Wide round knot) = ends.Wide knot

-- What a call that writes an ending has come to.
abbrev pub ClosesAs : Ending → Option (List ℕ) → Option (List ℕ) → End2 → Type 0
ClosesAs ending before now ends.WriteFault = TookPart before now (ending_text ending)
ClosesAs ending before now ends.NoMemory = now ≡ before
ClosesAs ending before now end = (end ≡ outcome_end ending) × Appended before now (ending_text ending)

pub record Closes (ending : Ending) (t : Tally) (before now : Option (List ℕ)) (o : Outcome) : Type 0 where
  pub tally : tally_of o ≡ t
  pub text : ClosesAs ending before now o.end

-- What a run has come to that stops in place of the round of a number: its ending was to be written, or else nothing more.
abbrev pub StopsAs : ℕ → ℕ → Tally → RoundFault → Option (List ℕ) → Option (List ℕ) → Outcome → Type 0
StopsAs turn budget t (faults.Spent knot weight) before now o = Closes (endings.Spent turn knot weight budget) t before now o
StopsAs turn budget t (faults.Wide knot) before now o = Closes (endings.Wide turn knot) t before now o
StopsAs turn budget t faults.Failed before now o = (now ≡ before) × (tally_of o ≡ t) × (o.end ≡ ends.WriteFault)
StopsAs turn budget t faults.NoMemory before now o = (now ≡ before) × (tally_of o ≡ t) × (o.end ≡ ends.NoMemory)
