-- What a run has written, as what is owed.
use Rattle.std.proofs.Common.{◌≡◌, ◌∙◌, inl, inr, refl, ℕ, List, ◌++◌, sym, subst, ap, append_assoc, arith}
use Rattle.std.proofs.lemmas.Grind.{flat_map-append}
use Rattle.std.specs.Prelude.{◌≢◌, ◌≤◌, Option}
use Rattle.reo_io.specs.Causes.{Rose}
use Rattle.reo_io.specs.Sinks.{Appended}
use Rattle.reo_io.proofs.Counts.{Rose-since}
use Rattle.reo_io.proofs.Taken.{Appended-append}
use Rattle.reo_trace.specs.declared.line.RoundLine.{RoundLine}
use Rattle.reo_trace.specs.declared.line.Ending.{Ending}
use Rattle.reo_trace.specs.declared.line.Ending.TheVariants.{Done, Stuck, Limit, Spent, Wide}
use Rattle.reo_trace.specs.RoundText.{round_text}
use Rattle.reo_trace.specs.EndingText.{ending_text}
use Rattle.reo_trace.specs.TraceText.{rounds_text, trace_text}
use Rattle.reo_kinds.specs.declared.kind.Kind.{Kind}
use Rattle.reo_runner.specs.declared.outcome.Limits.{Limits}
use Rattle.reo_runner.specs.declared.outcome.End2.{End2}
use Rattle.reo_runner.specs.declared.outcome.Outcome.{Outcome}
use Rattle.reo_command.specs.Readings.{kind_rules, Runnable}
use Rattle.reo_runner.specs.Outcome.{CameTo, Wrote}
use Rattle.reo_runs.specs.Run.{Place, IsRun, start_of}
use Rattle.reo_runs.specs.Whole.{HasOneRun}
use Rattle.reo_runs.specs.Written.{Ran, Cut, Kept}
use Rattle.reo_command.specs.declared.command.Command.TheVariants.{Run}
use Rattle.reo_command.specs.top_base.Cases.{AreFirstLines, Cases, IsExact, IsFair, EndsWithNoMemory}
use Rattle.reo_command.specs.Limits.{firsts_for}
use Rattle.reo_command.specs.States.{SinkState, Change}
use Rattle.reo_command.specs.Statuses.{IsAmong, statuses_of}
use Rattle.reo_top.specs.runs.Traces.{TracesRun, ending_status}
use Rattle.reo_command.proofs.top_base.CaseLemmas.{lines_cases}
use Rattle.reo_command.proofs.top_base.LineLemmas.{rounds_end, Ends}

-- Where a run starts.
abbrev pub start_for : Runnable → Place Kind
start_for r = start_of r.flat.wiring r.script.components

module _ (limits : Limits) (r : Runnable) where
  -- What was written, by the end.
  pub came_as : (before now : Option (List ℕ)) (o : Outcome) (came : CameTo kind_rules r.flat.ports limits.budget limits.rounds (start_for r) before now o) (end : End2) → o.end ≡ end
      → Wrote kind_rules r.flat.ports limits.budget limits.rounds (start_for r) came.lines before now end
  came_as before now o came end is = subst (λ (e : End2). Wrote kind_rules r.flat.ports limits.budget limits.rounds (start_for r) came.lines before now e) is came.wrote

  -- The trace of a whole run.
  trace_of : (lines : List RoundLine) (ending : Ending) → IsRun (firsts_for limits) kind_rules (start_for r) lines ending → TracesRun limits r (trace_text r.flat.ports lines ending) (ending_status ending)
  trace_of lines ending run = record { lines = lines; ending = ending; run = run; bytes_are = refl; status = refl }

  module _ (sink : Change SinkState) (lines : List RoundLine) where
    -- The whole trace was written.
    module _ (ending : Ending) (ran : Ran (firsts_for limits) kind_rules r.flat.ports (start_for r) lines ending sink.old.told sink.new.told) where
      pub ran_cases : Cases (TracesRun limits r) sink (ending_status ending)
      ran_cases = inl (record { bytes = trace_text r.flat.ports lines ending; owed = trace_of lines ending ran.run; adds = ran.text })

      pub ran_exact : HasOneRun (firsts_for limits) kind_rules (start_for r) → IsExact (TracesRun limits r) sink (ending_status ending)
      ran_exact one = λ bytes status trace.
          let same = one trace.lines lines trace.ending ending trace.run ran.run in
          let written : bytes ≡ trace_text r.flat.ports lines ending =
          trace.bytes_are ∙ ap (λ (ls : List RoundLine). trace_text r.flat.ports ls trace.ending) same.0 ∙ ap (λ (e : Ending). trace_text r.flat.ports lines e) same.1 in
          inl (sym (trace.status ∙ ap ending_status same.1), subst (λ (z : List ℕ). Appended sink.old.told sink.new.told z) (sym written) ran.text)

    -- The sink failed.
    pub cut_cases : Cut (firsts_for limits) kind_rules r.flat.ports (start_for r) lines sink.old.told sink.new.told → Rose sink.old.faults sink.new.faults → Cases (TracesRun limits r) sink 9
    cut_cases cut rose = inr (inl (record {
      bytes = trace_text r.flat.ports (lines ++ cut.whole.rest) cut.whole.ending;
      status = ending_status cut.whole.ending;
      owed = trace_of (lines ++ cut.whole.rest) cut.whole.ending cut.whole.run;
      breaks = (cut.front, rose);
      code_is = refl;
    }))

  first_lines : (lines : List RoundLine) (before now : Option (List ℕ)) (kept : Kept (firsts_for limits) kind_rules r.flat.ports (start_for r) lines before now)
      → Ends (rounds_text r.flat.ports lines) → AreFirstLines (TracesRun limits r) (rounds_text r.flat.ports lines)
  first_lines lines before now kept (front, ends) =
      let first : List ℕ = rounds_text r.flat.ports lines in
      let others : List ℕ = rounds_text r.flat.ports kept.whole.rest in
      let last : List ℕ = ending_text kept.whole.ending in
      let same : first ++ (others ++ last) ≡ trace_text r.flat.ports (lines ++ kept.whole.rest) kept.whole.ending =
      sym (append_assoc first others last) ∙ ap (λ (z : List ℕ). z ++ last) (sym (flat_map-append (round_text r.flat.ports) lines kept.whole.rest)) in
      record {
        rest = others ++ last;
        status = ending_status kept.whole.ending;
        owed = record { lines = lines ++ kept.whole.rest; ending = kept.whole.ending; run = kept.whole.run; bytes_are = same; status = refl };
        front = front;
        ends = ends;
      }

  -- Memory ran out.
  module _ (sink : Change SinkState) (mid : SinkState) (code : ℕ) (lines : List RoundLine) (later : sink.old.faults ≤ mid.faults)
      (kept : Kept (firsts_for limits) kind_rules r.flat.ports (start_for r) lines sink.old.told mid.told) where
    pub kept_cases : EndsWithNoMemory (record { old = mid; new = sink.new }) code → Cases (TracesRun limits r) sink code
    kept_cases says = elim (rounds_end r.flat.ports lines) [
      | inl none ↦ lines_cases (TracesRun limits r) sink mid code (rounds_text r.flat.ports lines) later (inl none) kept.text says
      | inr ends ↦ lines_cases (TracesRun limits r) sink mid code (rounds_text r.flat.ports lines) later (inr (first_lines lines sink.old.told mid.told kept ends)) kept.text says
    ]

    -- What was said after a run, and before it.
    pub kept_fair : IsFair (record { old = mid; new = sink.new }) code → IsFair sink code
    kept_fair fair = record {
      rose = λ nine. Rose-since sink.old.faults mid.faults sink.new.faults later (fair.rose nine);
      later = omega (arith, later, fair.later);
      grew = (rounds_text r.flat.ports lines ++ fair.grew.0, Appended-append sink.old.told mid.told sink.new.told (rounds_text r.flat.ports lines) fair.grew.0 kept.text fair.grew.1);
    }

-- The statuses of traces.
pub ending_in : (ending : Ending) → IsAmong (statuses_of Run) (ending_status ending)
ending_in (Done rounds) = refl
ending_in (Stuck rounds) = refl
ending_in (Limit rounds) = refl
ending_in (Spent round knot weight budget) = refl
ending_in (Wide round knot) = refl

pub trace_status : (limits : Limits) (r : Runnable) (bytes : List ℕ) (status : ℕ) → TracesRun limits r bytes status → IsAmong (statuses_of Run) status
trace_status limits r bytes status t = subst (λ (k : ℕ). IsAmong (statuses_of Run) k) (sym t.status) (ending_in t.ending)

pub ending_not_three : (ending : Ending) → ending_status ending ≢ 3
ending_not_three (Done rounds) e = omega (arith, e)
ending_not_three (Stuck rounds) e = omega (arith, e)
ending_not_three (Limit rounds) e = omega (arith, e)
ending_not_three (Spent round knot weight budget) e = omega (arith, e)
ending_not_three (Wide round knot) e = omega (arith, e)

pub ending_not_nine : (ending : Ending) → ending_status ending ≢ 9
ending_not_nine (Done rounds) e = omega (arith, e)
ending_not_nine (Stuck rounds) e = omega (arith, e)
ending_not_nine (Limit rounds) e = omega (arith, e)
ending_not_nine (Spent round knot weight budget) e = omega (arith, e)
ending_not_nine (Wide round knot) e = omega (arith, e)

pub trace_not_three : (limits : Limits) (r : Runnable) (bytes : List ℕ) (status : ℕ) → TracesRun limits r bytes status → status ≢ 3
trace_not_three limits r bytes status t e = ending_not_three t.ending (sym t.status ∙ e)
