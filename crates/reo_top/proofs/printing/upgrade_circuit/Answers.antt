use Rattle.std.proofs.Common.{[], ◌∷◌, refl}
use Rattle.reo_command.specs.declared.command.Command.TheVariants.{Upgrade}
use Rattle.reo_command.specs.declared.role.Role.TheVariants.{Circuit}
use Rattle.reo_top.specs.Owed.{UpgradesProgram}
use Rattle.reo_command.specs.Readings.{ReadsProgram, StopsPrint}
use Rattle.reo_command.specs.Statuses.{statuses_of}
use Rattle.reo_syntax.specs.two.Canonical.{canonical_text_two}
use Rattle.reo_upgrade.specs.Upgraded.{upgraded}
use Rattle.reo_command.proofs.top_base.AnswerLemmas.{refused_answered, refused_status_in, made_answered, made_status_in}
use Rattle.reo_command.proofs.top_base.DoneLemmas.{done_status, done_not_three}
use Rattle.reo_command.proofs.CircuitLemmas.{upgrade_reading}
use Rattle.reo_command.proofs.ReadLemmas.{reading_at}
use Rattle.reo_top.proofs.printing.upgrade_circuit.Goals as goal

pub returns-in-Ok-clause-answered : goal.returns-in-Ok-clause-answered
returns-in-Ok-clause-answered g c =
    made_answered ReadsProgram StopsPrint UpgradesProgram (statuses_of Upgrade) _ _ c.in-Ok.ensures.answers (reading_at upgrade_reading _) c.in-Ok.program c.in-Ok.ensures.read c.write_upgraded.ensures.cases c.write_upgraded.ensures.exact
    (done_not_three (canonical_text_two (upgraded c.in-Ok.program))) (Circuit ∷ []) (c.args.name.now ∷ []) _ c.in-Ok.ensures.fetched

pub returns-in-Ok-clause-status : goal.returns-in-Ok-clause-status
returns-in-Ok-clause-status g c =
    made_status_in ReadsProgram StopsPrint UpgradesProgram (statuses_of Upgrade) _ _ c.in-Ok.ensures.answers (reading_at upgrade_reading _) c.in-Ok.program c.in-Ok.ensures.read c.write_upgraded.ensures.cases (done_status (statuses_of Upgrade) refl (canonical_text_two (upgraded c.in-Ok.program))) refl refl

pub returns-in-Err-clause-answered : goal.returns-in-Err-clause-answered
returns-in-Err-clause-answered g c =
    refused_answered ReadsProgram StopsPrint UpgradesProgram (statuses_of Upgrade) _ _ c.in-Err.ensures.answers (reading_at upgrade_reading _) c.in-Err.stop c.in-Err.ensures.read c.refuse.ensures.refused (Circuit ∷ []) (c.args.name.now ∷ []) _ c.in-Err.ensures.fetched

pub returns-in-Err-clause-status : goal.returns-in-Err-clause-status
returns-in-Err-clause-status g c =
    refused_status_in ReadsProgram StopsPrint UpgradesProgram (statuses_of Upgrade) _ _ c.in-Err.ensures.answers (reading_at upgrade_reading _) c.in-Err.stop c.in-Err.ensures.read c.refuse.ensures.refused refl refl
