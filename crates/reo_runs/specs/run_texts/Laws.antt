-- What runs write.
use Rattle.std.specs.Prelude.{ℕ, ◌≤◌, ◌^◌, List}
use Rattle.std.specs.List.{All}
use Rattle.reo_trees.specs.declared.programs.Program.{Program}
use Rattle.reo_syntax_laws.specs.trees_laws.Spelled.{IsSpelled}
use Rattle.reo_rules.specs.Scopes.{connectors_of}
use Rattle.reo_flat.specs.Flat.{ports_of, wiring_of_program}
use Rattle.reo_flat.specs.Refusals.{IsAccepted}
use Rattle.reo_flat.specs.flatten_laws.Plain.{HasPlainNames}
use Rattle.reo_kinds.specs.declared.kind.Kind.{Kind}
use Rattle.reo_kinds.specs.Kinds.{behaviour_of, settled_kind, port_state_of, placed_kind, withdrawn_kind}
use Rattle.reo_script.specs.declared.scripts.action.Component.{Component}
use Rattle.reo_trace.specs.declared.line.RoundLine.{RoundLine}
use Rattle.reo_trace.specs.declared.line.Ending.{Ending}
use Rattle.reo_trace.specs.TraceText.{trace_text}
use Rattle.reo_trace_reader.specs.texts.Lines.{AreTold}
use Rattle.reo_trace_reader.specs.texts.Texts.{IsTraceText}
use Rattle.reo_rounds.specs.Rules.{Rules, rules_of}
use Rattle.reo_runs.specs.Run.{start_of, firsts, IsRun}

-- What is known of the kinds.
abbrev pub kind_rules : Rules Kind
kind_rules = rules_of behaviour_of settled_kind port_state_of placed_kind withdrawn_kind

-- A program as a text says it, that is accepted: it breaks no rule, and no joint lies on a directed cycle.
pub record IsTold (p : Program) : Type 0 where
  pub spelled : IsSpelled p
  pub plain : All HasPlainNames (connectors_of p.declarations)
  pub accepted : IsAccepted p

-- The ports of such a program are names, each once, of types that a program may have.
abbrev pub PortsAreTold : Type 0
PortsAreTold = (p : Program) → IsTold p → AreTold (ports_of p.declarations)

-- What a run of any components on its circuit writes is the text of a trace, the one of its lines and its ending.
abbrev pub RunsAreTraceTexts : Type 0
RunsAreTraceTexts =
    (p : Program) (components : List Component) (budget limit : ℕ) (lines : List RoundLine) (ending : Ending)
    → IsTold p → budget ≤ 10 ^ 9 → limit ≤ 10 ^ 9
    → IsRun (firsts budget limit) kind_rules (start_of (wiring_of_program p.declarations) components) lines ending
    → IsTraceText (ports_of p.declarations) (trace_text (ports_of p.declarations) lines ending) (record { rounds = lines; ending = ending })
