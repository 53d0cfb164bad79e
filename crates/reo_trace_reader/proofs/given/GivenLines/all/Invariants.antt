use Rattle.reo_trace_reader.specs.Given.{lines_given}
use Rattle.reo_trace_reader.proofs.given.GivenLines.all.Given as goal

abbrev pub ghost-told : goal.ghost-told
ghost-told a = lines_given a._shown.now
