use Rattle.std.proofs.Common.{inr, arith}
use Rattle.reo_runs.proofs.at_ports.Begun.{just_ports}
use Rattle.reo_live.specs.closings.Sources.{followed, state_of, untaken, source_change}
use Rattle.reo_command.specs.ReadSteps.{circuit_in}
use Rattle.reo_command.specs.States.{SinkState}
use Rattle.reo_top.specs.Heard.{HearsCircuit}
use Rattle.reo_command.proofs.top_base.CaseLemmas.{no_memory_cases, no_memory_exact}
use Rattle.reo_top.proofs.HeardLemmas.{heard_on, heard_fair, heard_tells, heard_there}
use Rattle.reo_top.proofs.UntakenLemmas.{none_taken, none_taken_few}
use Rattle.reo_top.proofs.hearing.hear_source.Goals as goal

pub new-requires-clause-just : goal.new-requires-clause-just
new-requires-clause-just g c = just_ports _ _ c.args.flat.ports.list c.requires.ports.count c.requires.ports.has

pub new-requires-clause-names : goal.new-requires-clause-names
new-requires-clause-names g c = c.requires.ports.names.few

pub returns-in_default-clause-heard : goal.returns-in_default-clause-heard
returns-in_default-clause-heard g c =
    let none = untaken (state_of g.R.Source.told g.R.Source.given g.R.Source.ends g.R.Source.faults c.args.source.now) in
    record {
      events = none;
      taken = none_taken g.R.Source.told g.R.Source.given g.R.Source.ends g.R.Source.faults c.args.source.now;
      few = none_taken_few g.R.Source.told g.R.Source.given g.R.Source.ends g.R.Source.faults c.args.source.now _;
      cases = no_memory_cases _ _ (HearsCircuit c.args.budget none (circuit_in c.args.flat)) c.no_memory.ensures.says;
      misses = λ rose. absurd (omega (arith, rose));
      exact = no_memory_exact _ _ (HearsCircuit c.args.budget none (circuit_in c.args.flat)) c.no_memory.ensures.says;
      whatever = λ here. inr (λ more. record {
        cases = no_memory_cases _ _ (HearsCircuit c.args.budget (followed none more) (circuit_in c.args.flat)) c.no_memory.ensures.says;
        exact = no_memory_exact _ _ (HearsCircuit c.args.budget (followed none more) (circuit_in c.args.flat)) c.no_memory.ensures.says;
      });
    }

pub returns-clause-heard : goal.returns-clause-heard
returns-clause-heard g c =
    let old : SinkState = record { told = g.S.Sink.told c.args.out.now; faults = g.S.Sink.faults c.args.out.now } in
    let mid : SinkState = record { told = g.S.Sink.told c.hear-heard.new.out; faults = g.S.Sink.faults c.hear-heard.new.out } in
    let new : SinkState = record { told = g.S.Sink.told c.close.new.out; faults = g.S.Sink.faults c.close.new.out } in
    let source = source_change g.R.Source.told g.R.Source.given g.R.Source.ends g.R.Source.faults c.args.source.now c.hear-heard.new.source in
    let made = c.in-Ok.ensures in
    let from = heard_there _ _ c.in-Ok.live.live c.args.budget (circuit_in c.args.flat) _ _ source c.hear-heard.result made.ports made.budget made.live c.hear-heard.ensures.heard in
    heard_on c.args.budget (circuit_in c.args.flat) source old mid new _ c.hear-heard.result c.closing_is_one.ensures c.known_order.ensures c.hear-heard.ensures.later from c.hear-heard.ensures.cause c.hear-heard.ensures.missed_risen c.close.ensures.closed

pub returns-clause-fair : goal.returns-clause-fair
returns-clause-fair g c =
    let old : SinkState = record { told = g.S.Sink.told c.args.out.now; faults = g.S.Sink.faults c.args.out.now } in
    let mid : SinkState = record { told = g.S.Sink.told c.hear-heard.new.out; faults = g.S.Sink.faults c.hear-heard.new.out } in
    let new : SinkState = record { told = g.S.Sink.told c.close.new.out; faults = g.S.Sink.faults c.close.new.out } in
    let source = source_change g.R.Source.told g.R.Source.given g.R.Source.ends g.R.Source.faults c.args.source.now c.hear-heard.new.source in
    let made = c.in-Ok.ensures in
    let from = heard_there _ _ c.in-Ok.live.live c.args.budget (circuit_in c.args.flat) _ _ source c.hear-heard.result made.ports made.budget made.live c.hear-heard.ensures.heard in
    heard_fair old mid new _ c.hear-heard.ensures.later c.close.ensures.later c.args.budget (circuit_in c.args.flat) source c.hear-heard.result from c.hear-heard.ensures.cause c.close.ensures.closed

pub returns-clause-tells : goal.returns-clause-tells
returns-clause-tells g c =
    let old : SinkState = record { told = g.S.Sink.told c.args.out.now; faults = g.S.Sink.faults c.args.out.now } in
    let mid : SinkState = record { told = g.S.Sink.told c.hear-heard.new.out; faults = g.S.Sink.faults c.hear-heard.new.out } in
    let new : SinkState = record { told = g.S.Sink.told c.close.new.out; faults = g.S.Sink.faults c.close.new.out } in
    heard_tells old mid new _ c.hear-heard.ensures.later c.close.ensures.later c.hear-heard.result c.hear-heard.ensures.risen c.close.ensures.tells c.close.ensures.closed
