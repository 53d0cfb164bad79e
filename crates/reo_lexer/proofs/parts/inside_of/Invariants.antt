use Rattle.std.proofs.Common.{◌≡◌, drop, false}
use Rattle.reo_lexer.specs.Skipping.{inside}
use Rattle.reo_lexer.proofs.parts.inside_of.Given as goal

abbrev pub invariant-loop-index : goal.invariant-loop-index
invariant-loop-index l = inside l.escape (drop l.index l.left) ≡ inside false l.left
