use Rattle.std.proofs.Common.{[]}
use Rattle.reo_io.proofs.given.GivenFiles.new.Given as goal

abbrev pub ghost-told : goal.ghost-told
ghost-told a = []
