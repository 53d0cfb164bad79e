use Rattle.std.proofs.Common.{sym, subst}
use Rattle.reo_trace_reader.specs.texts.Lines.{AreTold}
use Rattle.reo_outside_tests.proofs.Told.{are_told}
use Rattle.reo_outside_tests.proofs.reading.rounds_of.Goals as goal

pub read_trace-requires : goal.read_trace-requires
read_trace-requires c = subst AreTold (sym c.in_ok-ports.ensures) are_told
