use Rattle.std.proofs.Common.{length}
use Rattle.reo_proof_reader.proofs.LogLemmas.{LogSoFar}
use Rattle.reo_proof_reader.proofs.log.take_log.Given as goal

-- So many lines were taken, with so many bytes.
abbrev pub invariant-loop-line : goal.invariant-loop-line
invariant-loop-line l = LogSoFar l.whole l.reader l.lines l.size

abbrev pub decreases-loop-line : goal.decreases-loop-line
decreases-loop-line l = length l.reader
