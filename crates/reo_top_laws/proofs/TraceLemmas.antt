-- The trace of the one run.
use Rattle.std.proofs.Common.{◌≡◌, ◌∙◌, ℕ, List, refl, ap}
use Rattle.reo_runner.specs.declared.outcome.Limits.{Limits}
use Rattle.reo_trace.specs.TraceText.{trace_text}
use Rattle.reo_runs.specs.Run.{start_of}
use Rattle.reo_runs.specs.Whole.{HasRun, HasOneRun}
use Rattle.reo_runs.specs.at_ports.Kinds.{kind_rules}
use Rattle.reo_command.specs.Limits.{firsts_for}
use Rattle.reo_command.specs.Readings.{Runnable}
use Rattle.reo_top.specs.runs.Traces.{IsTraceOf, ending_status}
use Rattle.reo_top_laws.specs.OneTrace.{HasOneTrace}

module _ (limits : Limits) (r : Runnable) (exists : HasRun (firsts_for limits) kind_rules (start_of r.flat.wiring r.script.components))
    (one : HasOneRun (firsts_for limits) kind_rules (start_of r.flat.wiring r.script.components)) where
  only_this : (other : List ℕ) (status : ℕ) → IsTraceOf (firsts_for limits) r other status
      → (other ≡ trace_text r.flat.ports exists.whole.rest exists.whole.ending) × (status ≡ ending_status exists.whole.ending)
  only_this other status t =
      let same = one t.lines exists.whole.rest t.ending exists.whole.ending t.run exists.whole.run in
      (t.bytes_are ∙ (λ i. trace_text r.flat.ports (same.0 i) (same.1 i)), t.status ∙ ap ending_status same.1)

  pub one_trace_of : HasOneTrace limits r
  one_trace_of = record {
    bytes = trace_text r.flat.ports exists.whole.rest exists.whole.ending;
    code = ending_status exists.whole.ending;
    trace = record { lines = exists.whole.rest; ending = exists.whole.ending; run = exists.whole.run; bytes_are = refl; status = refl };
    only = only_this;
  }
