use Rattle.std.proofs.Common.{◌≤◌, ◌+◌, ◌-◌, length}
use Rattle.reo_lexer.proofs.Reading.{SoFar}
use Rattle.reo_lexer.proofs.lexer.tokens_of.Given as goal

abbrev pub invariant-reading : goal.invariant-reading
invariant-reading l = SoFar l.text l.at l.line l.tokens × (l.at ≤ length l.text) × (l.line ≤ l.at + 1)

abbrev pub decreases-reading : goal.decreases-reading
decreases-reading l = length l.text - l.at
