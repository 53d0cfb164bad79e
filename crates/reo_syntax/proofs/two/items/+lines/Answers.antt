use Rattle.std.proofs.Common.{arith}
use Rattle.std.proofs.lemmas.Grind.{common_steps}
use Rattle.reo_syntax.proofs.two.Unfold.{text_loop}
use Rattle.reo_syntax.proofs.two.items.+lines.Goals as goal

pub append_form-returns-in_ok-append-in-Loop : goal.append_form-returns-in_ok-append-in-Loop
append_form-returns-in_ok-append-in-Loop t c = rw (c.in-Loop.is, text_loop c.args.indent.now c.in-Loop.variable c.in-Loop.low c.in-Loop.high c.in-Loop.items) (grind (arith, common_steps))
