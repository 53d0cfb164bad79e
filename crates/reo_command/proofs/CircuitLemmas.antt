-- A text says one program of its version, or has one refusal.
use Rattle.std.proofs.Common.{◌≡◌, ◌∙◌, ℕ, List, sym, ap, refl}
use Rattle.std.specs.Prelude.{Some, Ok, Err}
use Rattle.reo_trees.specs.declared.programs_two.AnyProgram.{AnyProgram}
use Rattle.reo_trees.specs.SaysTwo.{SaysAny}
use Rattle.reo_parser.specs.declared.fault.ParseFault.{ParseFault}
use Rattle.reo_parser.specs.two.ParsedAny.{AnswersAny}
use Rattle.reo_parser.proofs.two.Only.{same}
use Rattle.reo_circuit_texts.proofs.OneLemmas.{one_any}
use Rattle.reo_command.specs.declared.refusal.Refusal.{Refusal}
use Rattle.reo_command.specs.declared.role.Role.TheVariants.{Circuit}
use Rattle.reo_command.specs.declared.stop.Stop.{Stop}
use Rattle.reo_command.specs.declared.stop.Stop.TheVariants.{Refused}
use Rattle.reo_command.specs.declared.command.Command.TheVariants.{Print, Upgrade}
use Rattle.reo_command.specs.Readings.{ProgramStops, ReadsProgram, StopsPrint}
use Rattle.reo_command.specs.Refusals.{parse_refusal, RefusesProgram}
use Rattle.reo_command.specs.Statuses.{statuses_of}
use Rattle.reo_command.proofs.ReadLemmas.{IsOneText, IsOneReading, file_reading}
use Rattle.reo_command.proofs.ResultLemmas.{ok_is_no_fault, fault_is, some_is}

module _ (text : List ℕ) where
  pub not_refused : (p : AnyProgram) (r : Refusal) → SaysAny text p → RefusesProgram text r → ⊥
  not_refused p r says (fault, answers, is) = ok_is_no_fault p fault (Ok p) (Err fault) refl refl (same text (Ok p) (Err fault) says answers)

  one_fault : (f g : ParseFault) → AnswersAny text (Err f) → AnswersAny text (Err g) → f ≡ g
  one_fault f g a b = fault_is f g (Err f) (Err g) refl refl (same text (Err f) (Err g) a b)

  pub one_refusal : (r s : Refusal) → RefusesProgram text r → RefusesProgram text s → r ≡ s
  one_refusal r s (f, a, is) (g, b, so) = some_is r s (Some r) (Some s) refl refl (sym is ∙ ap parse_refusal (one_fault f g a b) ∙ so)

  pub program_stop : (s t : Stop) → ProgramStops text s → ProgramStops text t → s ≡ t
  program_stop s t (r, a, is) (q, b, so) = is ∙ ap (Refused Circuit) (one_refusal r q a b) ∙ sym so

  pub program_apart : (p : AnyProgram) (s : Stop) → SaysAny text p → ProgramStops text s → ⊥
  program_apart p s a (r, b, is) = not_refused p r a b

pub program_law : IsOneText Circuit SaysAny ProgramStops
program_law = record { one = one_any; apart = program_apart; one_stop = program_stop; refused = λ bytes s (r, a, is). (r, is) }

-- What a print reads, and an upgrade.
pub print_reading : IsOneReading ReadsProgram StopsPrint (statuses_of Print)
print_reading = file_reading Circuit SaysAny ProgramStops program_law (statuses_of Print) refl refl refl

pub upgrade_reading : IsOneReading ReadsProgram StopsPrint (statuses_of Upgrade)
upgrade_reading = file_reading Circuit SaysAny ProgramStops program_law (statuses_of Upgrade) refl refl refl
