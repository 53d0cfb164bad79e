use Rattle.std.proofs.Common.{◌+◌, false}
use Rattle.reo_rounds.specs.Rules.{rules_of}
use Rattle.reo_live.specs.base.Hearing.{Judges}
use Rattle.reo_live.specs.talk.Talks.{stand_of}
use Rattle.reo_live.proofs.talk.AnswerLemmas.{responded}
use Rattle.reo_live.proofs.talk.closing.hear_last.Goals as goal

pub returns-clause-judged : goal.returns-clause-judged
returns-clause-judged g c =
    let r = rules_of g.P.Primitive.behaviour g.P.Primitive.settled g.P.Ported.port_state g.P.Ported.placed g.P.Ported.withdrawn in
    let ports = c.args.ports.now.list in
    let stand = stand_of c.args.engine.now c.args.lines false in
    let is = c.in_ok-reply.ensures.judges in
    responded (Judges r ports c.args.budget stand c.args.line.now) ports (g.S.Sink.told c.args.out.now) (g.S.Sink.told c.respond.new.out) c.judge_last.new.engine (c.args.lines + 1)
    is.0 is.2 c.respond.result (c.respond.ensures.responds is.0 is.1)
