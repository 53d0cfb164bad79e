use Rattle.std.proofs.Common.{drop}
use Rattle.reo_trace_reader.specs.Given.{lines_given}
use Rattle.reo_trace_reader.proofs.given.GivenLines.rest.Given as goal

abbrev pub ghost-told : goal.ghost-told
ghost-told a = drop 1 (lines_given a._shown.now)
