use Rattle.std.proofs.Common.{arith}
use Rattle.reo_runner.proofs.CountLemmas.{both_ways}
use Rattle.reo_runner.proofs.outcome.Tally.after.Goals as goal

pub returns-clause-delivered : goal.returns-clause-delivered
returns-clause-delivered c = omega (arith, both_ways c.args.ports.now.list c.args.moves.now, c.count_in-written.ensures)
