use Rattle.std.proofs.Common.{[], ◌∷◌, refl}
use Rattle.reo_command.specs.declared.command.Command.TheVariants.{Print}
use Rattle.reo_command.specs.declared.role.Role.TheVariants.{Circuit}
use Rattle.reo_top.specs.Owed.{PrintsProgram}
use Rattle.reo_command.specs.Readings.{ReadsProgram, StopsPrint}
use Rattle.reo_command.specs.Statuses.{statuses_of}
use Rattle.reo_upgrade.specs.Upgraded.{canonical_text_any}
use Rattle.reo_command.proofs.top_base.AnswerLemmas.{refused_answered, refused_status_in, made_answered, made_status_in}
use Rattle.reo_command.proofs.top_base.DoneLemmas.{done_status, done_not_three}
use Rattle.reo_command.proofs.CircuitLemmas.{print_reading}
use Rattle.reo_command.proofs.ReadLemmas.{reading_at}
use Rattle.reo_top.proofs.printing.print_circuit.Goals as goal

pub returns-in-Ok-clause-answered : goal.returns-in-Ok-clause-answered
returns-in-Ok-clause-answered g c =
    made_answered ReadsProgram StopsPrint PrintsProgram (statuses_of Print) _ _ c.in-Ok.ensures.answers (reading_at print_reading _) c.in-Ok.program c.in-Ok.ensures.read c.write_text.ensures.cases c.write_text.ensures.exact
    (done_not_three (canonical_text_any c.in-Ok.program)) (Circuit ∷ []) (c.args.name.now ∷ []) _ c.in-Ok.ensures.fetched

pub returns-in-Ok-clause-status : goal.returns-in-Ok-clause-status
returns-in-Ok-clause-status g c =
    made_status_in ReadsProgram StopsPrint PrintsProgram (statuses_of Print) _ _ c.in-Ok.ensures.answers (reading_at print_reading _) c.in-Ok.program c.in-Ok.ensures.read c.write_text.ensures.cases (done_status (statuses_of Print) refl (canonical_text_any c.in-Ok.program)) refl refl

pub returns-in-Err-clause-answered : goal.returns-in-Err-clause-answered
returns-in-Err-clause-answered g c =
    refused_answered ReadsProgram StopsPrint PrintsProgram (statuses_of Print) _ _ c.in-Err.ensures.answers (reading_at print_reading _) c.in-Err.stop c.in-Err.ensures.read c.refuse.ensures.refused (Circuit ∷ []) (c.args.name.now ∷ []) _ c.in-Err.ensures.fetched

pub returns-in-Err-clause-status : goal.returns-in-Err-clause-status
returns-in-Err-clause-status g c =
    refused_status_in ReadsProgram StopsPrint PrintsProgram (statuses_of Print) _ _ c.in-Err.ensures.answers (reading_at print_reading _) c.in-Err.stop c.in-Err.ensures.read c.refuse.ensures.refused refl refl
