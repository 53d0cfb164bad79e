use Rattle.std.proofs.Common.{arith}
use Rattle.reo_flags.proofs.Search.{next_flag, next_past}
use Rattle.reo_flags.proofs.flags.Flags.next.Goals as goal

pub returns-then-from-self : goal.returns-then-from-self
returns-then-from-self c =
    rw (← c.self.view_is, c.min.ensures)
    (next_flag c.args.value c.self.inside.words.items c.self.inside.count c.args.from c.next_bit.result (omega (arith, c.self.invariant.enough)) (rw c.deref.ensures.value at c.next_bit.ensures))

pub returns-else-from-self : goal.returns-else-from-self
returns-else-from-self c = rw (← c.self.view_is) (next_past c.args.value c.self.inside.words.items c.self.inside.count c.args.from (omega arith))
