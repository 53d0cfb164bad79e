use Rattle.std.proofs.Common.{sym, subst}
use Rattle.reo_trace_reader.specs.texts.Lines.{AreTold}
use Rattle.reo_outside_tests.proofs.Told.{are_told}
use Rattle.reo_outside_tests.proofs.proof_texts.standing.Goals as goal

pub read_next-requires : goal.read_next-requires
read_next-requires c = subst AreTold (sym c.in_ok-ports.ensures) are_told
