use Rattle.std.proofs.Common.{ℕ, List, [], ◌∷◌, refl}
use Rattle.reo_command.specs.declared.command.Command.TheVariants.{Check}
use Rattle.reo_command.specs.declared.role.Role.TheVariants.{Circuit}
use Rattle.reo_top.specs.Owed.{ListsParts}
use Rattle.reo_top.specs.inventory.Parts.{parts_text}
use Rattle.reo_flatten.specs.declared.last.Flat.{Flat}
use Rattle.reo_command.specs.Fetched.{Content}
use Rattle.reo_command.specs.Readings.{ReadsCircuit, StopsCheck}
use Rattle.reo_command.specs.ReadSteps.{circuit_in}
use Rattle.reo_command.specs.Statuses.{statuses_of}
use Rattle.reo_command.proofs.top_base.AnswerLemmas.{refused_answered, refused_status_in, made_answered, made_status_in}
use Rattle.reo_command.proofs.top_base.DoneLemmas.{done_status, done_not_three}
use Rattle.reo_command.proofs.FlatLemmas.{check_reading}
use Rattle.reo_command.proofs.ReadLemmas.{reading_at, same_stops}
use Rattle.reo_top.proofs.checking.check_circuit.Goals as goal

-- What is read, as the code has it, and what is written of it.
abbrev Reads : List Content → Flat → Type 0
Reads answers flat = ReadsCircuit answers (circuit_in flat)

abbrev listing : Flat → List ℕ
listing flat = parts_text flat.circuit.primitives flat.circuit.joints flat.homes flat.nodes

pub returns-in-Ok-clause-answered : goal.returns-in-Ok-clause-answered
returns-in-Ok-clause-answered g c =
    made_answered ReadsCircuit StopsCheck ListsParts (statuses_of Check) _ _ c.in-Ok.ensures.read.answers (reading_at check_reading _) (circuit_in c.in-Ok.flat) c.in-Ok.ensures.read.read c.write_parts.ensures.cases c.write_parts.ensures.exact
    (done_not_three (listing c.in-Ok.flat)) (Circuit ∷ []) (c.args.name.now ∷ []) _ c.in-Ok.ensures.read.fetched

pub returns-in-Ok-clause-status : goal.returns-in-Ok-clause-status
returns-in-Ok-clause-status g c =
    made_status_in ReadsCircuit StopsCheck ListsParts (statuses_of Check) _ _ c.in-Ok.ensures.read.answers (reading_at check_reading _) (circuit_in c.in-Ok.flat) c.in-Ok.ensures.read.read c.write_parts.ensures.cases (done_status (statuses_of Check) refl (listing c.in-Ok.flat)) refl refl

pub returns-in-Err-clause-answered : goal.returns-in-Err-clause-answered
returns-in-Err-clause-answered g c =
    let stopped = same_stops Reads ReadsCircuit StopsCheck c.in-Err.ensures.read.answers c.in-Err.stop c.in-Err.ensures.read.read in
    refused_answered ReadsCircuit StopsCheck ListsParts (statuses_of Check) _ _ c.in-Err.ensures.read.answers (reading_at check_reading _) c.in-Err.stop stopped c.refuse.ensures.refused (Circuit ∷ []) (c.args.name.now ∷ []) _ c.in-Err.ensures.read.fetched

pub returns-in-Err-clause-status : goal.returns-in-Err-clause-status
returns-in-Err-clause-status g c =
    let stopped = same_stops Reads ReadsCircuit StopsCheck c.in-Err.ensures.read.answers c.in-Err.stop c.in-Err.ensures.read.read in
    refused_status_in ReadsCircuit StopsCheck ListsParts (statuses_of Check) _ _ c.in-Err.ensures.read.answers (reading_at check_reading _) c.in-Err.stop stopped c.refuse.ensures.refused refl refl
