use Rattle.std.proofs.Common.{[], ◌∷◌, ◌++◌}
use Rattle.reo_trace_reader.specs.Given.{lines_given}
use Rattle.reo_trace_reader.proofs.given.GivenLines.then.Given as goal

abbrev pub ghost-told : goal.ghost-told
ghost-told a = lines_given a._shown.now.0.now ++ a._shown.now.1.now ∷ []
