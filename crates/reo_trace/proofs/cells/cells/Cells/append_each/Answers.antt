use Rattle.std.proofs.Common.{arith}
use Rattle.reo_trace.proofs.cells.Laid.{bytes-length}
use Rattle.reo_trace.proofs.cells.cells.Cells.append_each.Goals as goal

pub returns-else-len : goal.returns-else-len
returns-else-len c = λ net are.
    let long = bytes-length net c.args.self.now are in
    absurd (omega (arith, long))
