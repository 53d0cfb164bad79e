-- What reading an event line gives.
use Rattle.std.specs.Prelude.{Option, Some, None, List, ℕ, Result, Ok, Err}
use Rattle.reo_grammar.specs.Tokens.{Lexeme}
use Rattle.reo_grammar.specs.Grammar.{Says as TokensSay}
use Rattle.reo_trees.specs.Rules.{circuit_rules}
use Rattle.reo_script.specs.declared.scripts.event.EventForm.{EventForm}
use Rattle.reo_script.specs.declared.scripts.event.EventFault.{EventFault}
use Rattle.reo_script.specs.declared.scripts.event.EventFault.TheVariants as faults
use Rattle.reo_script.specs.scripts.Events.{event_form, SaysEvent}

-- The tokens say the event, or none.
abbrev pub IsEventOf : List Lexeme → Option EventForm → Type 0
IsEventOf ts (Some e) = TokensSay circuit_rules event_form ts e
IsEventOf ts None = (e : EventForm) → TokensSay circuit_rules event_form ts e → ⊥

-- The line says the event, or none, or it is out of memory.
abbrev pub IsSaidEvent : List ℕ → Result EventForm EventFault → Type 0
IsSaidEvent line (Ok e) = SaysEvent line e
IsSaidEvent line (Err faults.Form) = (e : EventForm) → SaysEvent line e → ⊥
IsSaidEvent line (Err faults.NoMemory) = Unit {0}
IsSaidEvent line (Err fault) = ⊥
