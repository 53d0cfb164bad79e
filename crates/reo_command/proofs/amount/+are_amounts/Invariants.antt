use Rattle.std.proofs.Common.{length}
use Rattle.reo_command.proofs.amount.+are_amounts.Given as goal

abbrev pub decreases-are_amounts : goal.decreases-are_amounts
decreases-are_amounts l = length l.amounts.now
