use Rattle.std.proofs.Common.{◌+◌, Option, Some, false, refl, rules}
use Rattle.reo_rounds.specs.Rules.{rules_of}
use Rattle.reo_live.specs.declared.base.answer.Answer.{Answer}
use Rattle.reo_live.specs.declared.base.answer.Answer.TheVariants.{Refused}
use Rattle.reo_live.specs.talk.Talks.{stand_of, told_by}
use Rattle.reo_live.proofs.talk.EventLemmas.{happened}
use Rattle.reo_live.proofs.talk.judging.judge.Goals as goal

pub returns-in-Ok-clause-judges : goal.returns-in-Ok-clause-judges
returns-in-Ok-clause-judges g c =
    let r = rules_of g.P.Primitive.behaviour g.P.Primitive.settled g.P.Ported.port_state g.P.Ported.placed g.P.Ported.withdrawn in
    happened r c.args.ports.now.list c.args.budget (stand_of c.args.engine.now c.args.lines false) c.args.line.now c.in-Ok.event
    (λ (answer : Option Answer). told_by c.happen.new.engine (c.args.lines + 1) answer) c.happen.result c.in-Ok.ensures.read c.happen.ensures.does

pub returns-in_ok-fault-in-Err-clause-judges : goal.returns-in_ok-fault-in-Err-clause-judges
returns-in_ok-fault-in-Err-clause-judges g c =
    let answer = Refused (c.args.lines + 1) c.in_ok-fault-in-Err.fault in
    (Some answer, (answer, refl, refl), search rules)
