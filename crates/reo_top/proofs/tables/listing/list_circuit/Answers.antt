use Rattle.std.proofs.Common.{List, [], ◌∷◌, false, refl, subst}
use Rattle.reo_command.specs.declared.command.Command.TheVariants.{Tables}
use Rattle.reo_command.specs.declared.role.Role.TheVariants.{Circuit}
use Rattle.reo_flatten.specs.declared.last.Flat.{Flat}
use Rattle.reo_command.specs.Fetched.{Content}
use Rattle.reo_command.specs.Limits.{Limits, usual_limits}
use Rattle.reo_command.specs.Readings.{ReadsCircuit, StopsCheck}
use Rattle.reo_command.specs.ReadSteps.{circuit_in}
use Rattle.reo_command.specs.States.{files_change, sink_change}
use Rattle.reo_command.specs.Statuses.{statuses_of}
use Rattle.reo_command.proofs.ReadLemmas.{reading_at, same_stops}
use Rattle.reo_command.specs.top_base.Answered.{IsAnswered}
use Rattle.reo_command.specs.top_base.Owed.{owed_by}
use Rattle.reo_command.proofs.top_base.AnswerLemmas.{refused_answered, refused_status_in, made_answered, made_status_in}
use Rattle.reo_top.specs.tables.Listings.{ListsTables}
use Rattle.reo_top.proofs.tables.TableLemmas.{tables_status, tables_not_three, tables_reading}
use Rattle.reo_top.proofs.tables.listing.list_circuit.Goals as goal

-- What is read, as the code has it.
abbrev Reads : List Content → Flat → Type 0
Reads answers flat = ReadsCircuit answers (circuit_in flat)

pub returns-in-Ok-clause-answered : goal.returns-in-Ok-clause-answered
returns-in-Ok-clause-answered g c =
    let limits : Limits = c.usual_limits.result in
    let made = made_answered ReadsCircuit StopsCheck (ListsTables limits.budget) (statuses_of Tables) _ _ c.in-Ok.ensures.read.answers (reading_at tables_reading _) (circuit_in c.in-Ok.flat) c.in-Ok.ensures.read.read c.write_listing.ensures.cases c.write_listing.ensures.exact
    (tables_not_three limits.budget (circuit_in c.in-Ok.flat)) (Circuit ∷ []) (c.args.name.now ∷ []) _ c.in-Ok.ensures.read.fetched in
    subst
    (λ (l : Limits). IsAnswered false (owed_by ReadsCircuit StopsCheck (ListsTables l.budget)) (Circuit ∷ []) (c.args.name.now ∷ []) (files_change g.F.Files.told g.F.Files.failed g.F.Files.given g.F.Files.long g.F.Files.fetches c.args.files.now c.read_flat.new.files)
    (sink_change g.S.Sink.told g.S.Sink.faults c.args.out.now c.write_listing.new.out) c.write_listing.result.code) c.usual_limits.ensures made

pub returns-in-Ok-clause-status : goal.returns-in-Ok-clause-status
returns-in-Ok-clause-status g c =
    made_status_in ReadsCircuit StopsCheck (ListsTables c.usual_limits.result.budget) (statuses_of Tables) _ _ c.in-Ok.ensures.read.answers (reading_at tables_reading _) (circuit_in c.in-Ok.flat) c.in-Ok.ensures.read.read
    c.write_listing.ensures.cases (tables_status c.usual_limits.result.budget (circuit_in c.in-Ok.flat)) refl refl

pub returns-in-Err-clause-answered : goal.returns-in-Err-clause-answered
returns-in-Err-clause-answered g c =
    let stopped = same_stops Reads ReadsCircuit StopsCheck c.in-Err.ensures.read.answers c.in-Err.stop c.in-Err.ensures.read.read in
    refused_answered ReadsCircuit StopsCheck (ListsTables usual_limits.budget) (statuses_of Tables) _ _ c.in-Err.ensures.read.answers (reading_at tables_reading _) c.in-Err.stop stopped c.refuse.ensures.refused (Circuit ∷ []) (c.args.name.now ∷ []) _ c.in-Err.ensures.read.fetched

pub returns-in-Err-clause-status : goal.returns-in-Err-clause-status
returns-in-Err-clause-status g c =
    let stopped = same_stops Reads ReadsCircuit StopsCheck c.in-Err.ensures.read.answers c.in-Err.stop c.in-Err.ensures.read.read in
    refused_status_in ReadsCircuit StopsCheck (ListsTables usual_limits.budget) (statuses_of Tables) _ _ c.in-Err.ensures.read.answers (reading_at tables_reading _) c.in-Err.stop stopped c.refuse.ensures.refused refl refl
