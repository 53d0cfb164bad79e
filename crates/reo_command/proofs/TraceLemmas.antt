-- A text is one trace for some ports, or has one first wrong line.
use Rattle.std.proofs.Common.{◌≡◌, ◌∙◌, ℕ, List, sym, ap, refl}
use Rattle.std.specs.Prelude.{Some, Ok, Err}
use Rattle.reo_net_base.specs.declared.port.Port.{Port}
use Rattle.reo_trace_reader.specs.declared.texts.trace.Trace.{Trace as Told}
use Rattle.reo_trace_reader.specs.texts.Laws.{OneAnswer}
use Rattle.reo_trace_reader.specs.texts.Lines.{AreTold}
use Rattle.reo_trace_reader.specs.texts.Texts.{IsTraceText}
use Rattle.reo_command.specs.declared.refusal.Refusal.{Refusal}
use Rattle.reo_command.specs.declared.role.Role.TheVariants.{Trace}
use Rattle.reo_command.specs.declared.stop.Stop.{Stop}
use Rattle.reo_command.specs.declared.stop.Stop.TheVariants.{Refused}
use Rattle.reo_command.specs.Claims.{TraceStops}
use Rattle.reo_command.specs.Refusals.{trace_refusal, RefusesTrace}
use Rattle.reo_command.proofs.ReadLemmas.{IsOneText}
use Rattle.reo_command.proofs.ResultLemmas.{ok_is, ok_is_no_fault, fault_is, some_is}

module _ (one : OneAnswer) (ports : List Port) (told : AreTold ports) (text : List ℕ) where
  one_trace : (t u : Told) → IsTraceText ports text t → IsTraceText ports text u → t ≡ u
  one_trace t u a b = ok_is t u (Ok t) (Ok u) refl refl (one ports text (Ok t) (Ok u) told a b)

  trace_apart : (t : Told) (stop : Stop) → IsTraceText ports text t → TraceStops ports text stop → ⊥
  trace_apart t stop a (r, (fault, b, so), is) = ok_is_no_fault t fault (Ok t) (Err fault) refl refl (one ports text (Ok t) (Err fault) told a b)

  one_refusal : (r s : Refusal) → RefusesTrace ports text r → RefusesTrace ports text s → r ≡ s
  one_refusal r s (f, a, is) (g, b, so) =
      let same : f ≡ g = fault_is f g (Err f) (Err g) refl refl (one ports text (Err f) (Err g) told a b) in
      some_is r s (Some r) (Some s) refl refl (sym is ∙ ap trace_refusal same ∙ so)

  one_trace_stop : (s t : Stop) → TraceStops ports text s → TraceStops ports text t → s ≡ t
  one_trace_stop s t (r, a, is) (q, b, so) = is ∙ ap (Refused Trace) (one_refusal r q a b) ∙ sym so

  trace_refusal_of : (s : Stop) → TraceStops ports text s → (r : Refusal) × (s ≡ Refused Trace r)
  trace_refusal_of s (r, a, is) = (r, is)

pub trace_law : OneAnswer → (ports : List Port) → AreTold ports → IsOneText Trace (IsTraceText ports) (TraceStops ports)
trace_law one ports told = record { one = one_trace one ports told; apart = trace_apart one ports told; one_stop = one_trace_stop one ports told; refused = trace_refusal_of one ports told }
