use Rattle.std.proofs.Common.{List, refl}
use Rattle.reo_command.specs.declared.command.Command.TheVariants.{Live}
use Rattle.reo_flatten.specs.declared.last.Flat.{Flat}
use Rattle.reo_live.specs.closings.Sources.{state_of, untaken}
use Rattle.reo_command.specs.Fetched.{Content}
use Rattle.reo_command.specs.Readings.{ReadsCircuit, StopsCheck}
use Rattle.reo_command.specs.ReadSteps.{circuit_in}
use Rattle.reo_command.specs.Statuses.{statuses_of}
use Rattle.reo_command.proofs.ReadLemmas.{reading_at, same_stops}
use Rattle.reo_top.specs.Heard.{HearsCircuit}
use Rattle.reo_command.proofs.top_base.AnswerLemmas.{refused_status_in, made_status_in}
use Rattle.reo_top.proofs.ClosingStatuses.{heard_status, live_reading}
use Rattle.reo_top.proofs.OverLemmas.{heard_over, stopped_over}
use Rattle.reo_top.proofs.hearing.hear_events.Goals as goal

-- What is read, as the code has it.
abbrev Reads : List Content → Flat → Type 0
Reads answers flat = ReadsCircuit answers (circuit_in flat)

pub returns-in-Ok-clause-answered : goal.returns-in-Ok-clause-answered
returns-in-Ok-clause-answered g c =
    heard_over c.args.budget c.args.name.now _ _ _ c.in-Ok.ensures.read.answers c.in-Ok.ensures.read.fetched _ (circuit_in c.in-Ok.flat) c.in-Ok.ensures.read.read c.hear_source.ensures.heard

pub returns-in-Ok-clause-status : goal.returns-in-Ok-clause-status
returns-in-Ok-clause-status g c =
    let heard = c.hear_source.ensures.heard in
    made_status_in ReadsCircuit StopsCheck (HearsCircuit c.args.budget heard.events) (statuses_of Live) _ _ c.in-Ok.ensures.read.answers (reading_at live_reading _) (circuit_in c.in-Ok.flat) c.in-Ok.ensures.read.read heard.cases
    (heard_status c.args.budget heard.events (circuit_in c.in-Ok.flat)) refl refl

pub returns-in-Err-clause-answered : goal.returns-in-Err-clause-answered
returns-in-Err-clause-answered g c =
    let stopped = same_stops Reads ReadsCircuit StopsCheck c.in-Err.ensures.read.answers c.in-Err.stop c.in-Err.ensures.read.read in
    stopped_over c.args.budget c.args.name.now _ _ _ c.in-Err.ensures.read.answers c.in-Err.ensures.read.fetched g.R.Source.told g.R.Source.given g.R.Source.ends g.R.Source.faults c.args.source.now c.in-Err.stop stopped c.refuse.ensures.refused

pub returns-in-Err-clause-status : goal.returns-in-Err-clause-status
returns-in-Err-clause-status g c =
    let stopped = same_stops Reads ReadsCircuit StopsCheck c.in-Err.ensures.read.answers c.in-Err.stop c.in-Err.ensures.read.read in
    let none = untaken (state_of g.R.Source.told g.R.Source.given g.R.Source.ends g.R.Source.faults c.args.source.now) in
    refused_status_in ReadsCircuit StopsCheck (HearsCircuit c.args.budget none) (statuses_of Live) _ _ c.in-Err.ensures.read.answers (reading_at live_reading _) c.in-Err.stop stopped c.refuse.ensures.refused refl refl
