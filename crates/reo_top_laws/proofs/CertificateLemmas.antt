-- The trace of a run, as a text and as a claim.
use Rattle.std.proofs.Common.{◌≡◌, ℕ, ◌^◌, ◌≤◌, ◌<◌, List, length, sym, subst}
use Rattle.reo_trees.specs.declared.programs.Program.{Program}
use Rattle.reo_circuit_texts.specs.Laws.{CircuitsAreSpelled, CircuitNamesArePlain}
use Rattle.reo_script.specs.declared.scripts.action.Component.{Component}
use Rattle.reo_trace.specs.declared.line.RoundLine.{RoundLine}
use Rattle.reo_trace.specs.declared.line.Ending.{Ending}
use Rattle.reo_trace.specs.TraceText.{trace_text}
use Rattle.reo_trace_reader.specs.declared.texts.trace.Trace.{Trace}
use Rattle.reo_trace_reader.specs.texts.Texts.{IsTraceText}
use Rattle.reo_runs.specs.Run.{start_of, firsts, IsRun}
use Rattle.reo_runs.specs.at_ports.Kinds.{kind_rules}
use Rattle.reo_runs.specs.run_texts.Laws.{IsTold, RunsAreTraceTexts}
use Rattle.reo_command.specs.Readings.{FlatCircuit, IsCircuitText, flat_of}

-- The trace with these rounds and this ending.
abbrev pub trace_with : List RoundLine → Ending → Trace
trace_with lines ending = record { rounds = lines; ending = ending }

-- The program of a circuit's text is told.
pub program_told : CircuitsAreSpelled → CircuitNamesArePlain
    → (bytes : List ℕ) (flat : FlatCircuit) (circuit : IsCircuitText bytes flat) → length bytes < 2 ^ 64 → IsTold circuit.program
program_told spelled plain bytes flat circuit short = record {
  spelled = spelled bytes circuit.program circuit.says;
  plain = plain bytes circuit.program short circuit.says;
  accepted = circuit.accepted;
}

module _ (law : RunsAreTraceTexts) (p : Program) (told : IsTold p) (components : List Component) (budget limit : ℕ) (few_budget : budget ≤ 10 ^ 9) (few : limit ≤ 10 ^ 9)
    (lines : List RoundLine) (ending : Ending) (bytes : List ℕ) where
  -- What a run on this circuit writes is a trace for its ports.
  abbrev WritesTrace : FlatCircuit → Type 0
  WritesTrace flat =
      IsRun (firsts budget limit) kind_rules (start_of flat.wiring components) lines ending → bytes ≡ trace_text flat.ports lines ending
      → IsTraceText flat.ports bytes (trace_with lines ending)

  writes : WritesTrace (flat_of p)
  writes run is =
      subst (λ (text : List ℕ). IsTraceText (flat_of p).ports text (trace_with lines ending)) (sym is)
      (law p components budget limit lines ending told few_budget few run)

  pub is_trace : (flat : FlatCircuit) → flat ≡ flat_of p → WritesTrace flat
  is_trace flat is = subst WritesTrace (sym is) writes
