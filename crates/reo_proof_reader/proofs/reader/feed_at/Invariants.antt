use Rattle.std.proofs.Common.{take}
use Rattle.std.specs.List.{All}
use Rattle.reo_proof_texts.specs.Cuts.{IsInLine}
use Rattle.reo_proof_reader.proofs.reader.feed_at.Given as goal

-- No line feed stands before.
abbrev pub invariant-loop-at : goal.invariant-loop-at
invariant-loop-at l = All IsInLine (take l.at l.text)
