use Rattle.std.proofs.Common.{[], ◌∷◌, ◌++◌}
use Rattle.reo_io.specs.Given.{files_given}
use Rattle.reo_io.proofs.given.GivenFiles.then.Given as goal

abbrev pub ghost-told : goal.ghost-told
ghost-told a = files_given a._shown.now.0.now ++ (a._shown.now.1.now, a._shown.now.2.now) ∷ []
