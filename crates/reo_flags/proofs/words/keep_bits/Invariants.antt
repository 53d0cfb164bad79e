use Rattle.reo_flags.proofs.Keeping.{AreKeptSoFar}
use Rattle.reo_flags.proofs.words.keep_bits.Given as goal

-- The bits of the words so far stay where those of the marks have the value.
abbrev pub invariant-loop-place : goal.invariant-loop-place
invariant-loop-place l = AreKeptSoFar l.value l.marks l.place l.initial.words l.words
