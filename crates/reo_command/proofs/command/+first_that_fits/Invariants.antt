use Rattle.std.proofs.Common.{length}
use Rattle.reo_command.proofs.command.+first_that_fits.Given as goal

abbrev pub decreases-first_that_fits : goal.decreases-first_that_fits
decreases-first_that_fits l = length l.commands.now
