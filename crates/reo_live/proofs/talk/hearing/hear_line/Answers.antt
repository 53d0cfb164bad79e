use Rattle.std.proofs.Common.{◌+◌, false, subst}
use Rattle.reo_rounds.specs.Rules.{rules_of}
use Rattle.reo_live.specs.base.Held.{Held, joined}
use Rattle.reo_live.specs.base.Hearing.{Judges, cleaned}
use Rattle.reo_live.specs.talk.Talks.{stand_of, told_by}
use Rattle.reo_live.proofs.talk.AnswerLemmas.{responded}
use Rattle.reo_live.proofs.talk.hearing.hear_line.Goals as goal

pub returns-clause-judged : goal.returns-clause-judged
returns-clause-judged g c =
    let r = rules_of g.P.Primitive.behaviour g.P.Primitive.settled g.P.Ported.port_state g.P.Ported.placed g.P.Ported.withdrawn in
    let ports = c.args.ports.now.list in
    let budget = c.args.budget in
    let stand = stand_of c.args.engine.now c.args.lines.now false in
    let is = c.in_ok-reply.ensures.judges in
    let told = told_by c.judge_ended.new.engine (c.args.lines.now + 1) is.0 in
    let judges = subst (λ (h : Held). Judges r ports budget stand (cleaned h) told) c.in_ok-join.ensures is.2 in
    responded (Judges r ports budget stand (cleaned (joined c.args.line.now c.args.bytes.now))) ports (g.S.Sink.told c.args.out.now) (g.S.Sink.told c.respond.new.out)
    c.judge_ended.new.engine (c.args.lines.now + 1) is.0 judges c.respond.result (c.respond.ensures.responds is.0 is.1)
