-- A text is one script for some ports, or refused for one cause.
use Rattle.std.proofs.Common.{◌≡◌, ◌∙◌, ℕ, List, sym, ap, refl}
use Rattle.std.specs.Prelude.{Some, Ok, Err}
use Rattle.reo_net_base.specs.declared.port.Port.{Port}
use Rattle.reo_script.specs.declared.scripts.action.Script.{Script as Said}
use Rattle.reo_script.specs.declared.scripts.fault.ScriptFault.{ScriptFault}
use Rattle.reo_script.specs.declared.scripts.fault.ScriptFault.TheVariants as faults
use Rattle.reo_script.specs.scripts.ScriptAnswers.{Answers}
use Rattle.reo_script.proofs.Only.{only}
use Rattle.reo_command.specs.declared.refusal.Refusal.{Refusal}
use Rattle.reo_command.specs.declared.role.Role.TheVariants.{Script}
use Rattle.reo_command.specs.declared.stop.Stop.{Stop}
use Rattle.reo_command.specs.declared.stop.Stop.TheVariants.{Refused}
use Rattle.reo_command.specs.Readings.{ScriptStops}
use Rattle.reo_command.specs.Refusals.{script_refusal, RefusesScript}
use Rattle.reo_command.proofs.ReadLemmas.{IsOneText}
use Rattle.reo_command.proofs.ResultLemmas.{ok_is, ok_is_no_fault, fault_is, some_is, none_is_some}

module _ (ports : List Port) (text : List ℕ) where
  one_script : (s t : Said) → Answers text ports (Ok s) → Answers text ports (Ok t) → s ≡ t
  one_script s t a b = ok_is s t (Ok s) (Ok t) refl refl (only text ports (Ok s) (Ok t) a b)

  not_refused : (s : Said) (r : Refusal) → Answers text ports (Ok s) → RefusesScript ports text r → ⊥
  not_refused s r a (fault, b, is) = ok_is_no_fault s fault (Ok s) (Err fault) refl refl (only text ports (Ok s) (Err fault) a b)

  script_apart : (s : Said) (stop : Stop) → Answers text ports (Ok s) → ScriptStops ports text stop → ⊥
  script_apart s stop a (r, b, is) = not_refused s r a b

  -- A fault that has a refusal is one.
  one_fault : (f g : ScriptFault) (r : Refusal) → script_refusal f ≡ Some r → Answers text ports (Err f) → Answers text ports (Err g) → f ≡ g
  one_fault (faults.Lex f) g r is a b = fault_is _ g (Err (faults.Lex f)) (Err g) refl refl (only text ports (Err (faults.Lex f)) (Err g) a b)
  one_fault (faults.Syntax l) g r is a b = fault_is _ g (Err (faults.Syntax l)) (Err g) refl refl (only text ports (Err (faults.Syntax l)) (Err g) a b)
  one_fault (faults.TooDeep l) g r is a b = fault_is _ g (Err (faults.TooDeep l)) (Err g) refl refl (only text ports (Err (faults.TooDeep l)) (Err g) a b)
  one_fault (faults.NoPort l n) g r is a b = fault_is _ g (Err (faults.NoPort l n)) (Err g) refl refl (only text ports (Err (faults.NoPort l n)) (Err g) a b)
  one_fault (faults.WrongWay l n) g r is a b = fault_is _ g (Err (faults.WrongWay l n)) (Err g) refl refl (only text ports (Err (faults.WrongWay l n)) (Err g) a b)
  one_fault (faults.ItemOutside l) g r is a b = fault_is _ g (Err (faults.ItemOutside l)) (Err g) refl refl (only text ports (Err (faults.ItemOutside l)) (Err g) a b)
  one_fault (faults.Shared l n) g r is a b = fault_is _ g (Err (faults.Shared l n)) (Err g) refl refl (only text ports (Err (faults.Shared l n)) (Err g) a b)
  one_fault faults.NoMemory g r is a b = absurd (none_is_some r (script_refusal faults.NoMemory) refl is)

  one_refusal : (r s : Refusal) → RefusesScript ports text r → RefusesScript ports text s → r ≡ s
  one_refusal r s (f, a, is) (g, b, so) = some_is r s (Some r) (Some s) refl refl (sym is ∙ ap script_refusal (one_fault f g r is a b) ∙ so)

  one_script_stop : (s t : Stop) → ScriptStops ports text s → ScriptStops ports text t → s ≡ t
  one_script_stop s t (r, a, is) (q, b, so) = is ∙ ap (Refused Script) (one_refusal r q a b) ∙ sym so

  script_refusal_of : (s : Stop) → ScriptStops ports text s → (r : Refusal) × (s ≡ Refused Script r)
  script_refusal_of s (r, a, is) = (r, is)

pub script_law : (ports : List Port) → IsOneText Script (λ bytes (script : Said). Answers bytes ports (Ok script)) (ScriptStops ports)
script_law ports = record { one = one_script ports; apart = script_apart ports; one_stop = one_script_stop ports; refused = script_refusal_of ports }
