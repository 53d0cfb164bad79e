use Rattle.reo_parser.proofs.two.Loops.{looped-here, looped-nowhere}
use Rattle.reo_parser.proofs.two.depth.LoopDepth.is_looped.Goals as goal

pub returns-then-self : goal.returns-then-self
returns-then-self c ts h = looped-here c.args.self ts h c.if-self.true

pub returns-else-self : goal.returns-else-self
returns-else-self c ts h = looped-nowhere c.args.self ts h c.if-self.false
