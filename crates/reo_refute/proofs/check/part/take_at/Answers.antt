use Rattle.reo_refute.proofs.check.Taking.{at_none, at_other}
use Rattle.reo_refute.proofs.check.part.take_at.Goals as goal

pub returns-in-None : goal.returns-in-None
returns-in-None c = at_none c.args.number c.args.lines.now c.next.new.self c.in-None.ensures c.wrong.result c.wrong.ensures

pub returns-else-is_at : goal.returns-else-is_at
returns-else-is_at c =
    at_other c.args.number c.args.lines.now c.next.new.self c.in-Some.line c.in-Some.ensures (c.is_at.ensures.no c.if-is_at.false) c.wrong-else-is_at.result c.wrong-else-is_at.ensures
