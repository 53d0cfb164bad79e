use Rattle.std.proofs.Common.{◌≡◌, drop, false}
use Rattle.reo_lexer.specs.Skipping.{behind}
use Rattle.reo_lexer.proofs.parts.gap_length.Given as goal

abbrev pub invariant-loop-index : goal.invariant-loop-index
invariant-loop-index l = behind l.in_comment (drop l.index l.left) ≡ behind false l.left
