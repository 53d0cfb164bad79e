use Rattle.std.proofs.Common.{sym, subst}
use Rattle.reo_trace_reader.specs.texts.Lines.{AreTold}
use Rattle.reo_outside_tests.proofs.Told.{are_told}
use Rattle.reo_outside_tests.proofs.reading.line_again.Goals as goal

pub read_line-requires : goal.read_line-requires
read_line-requires c = subst AreTold (sym c.in_ok-ports.ensures) are_told
