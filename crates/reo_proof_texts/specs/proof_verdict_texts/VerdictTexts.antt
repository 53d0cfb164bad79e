-- The line of a verdict on a proof text.
use Rattle.std.specs.Prelude.{ℕ, List, [], ◌++◌, codes, Result, Ok, Err}
use Rattle.std.specs.Fmt.{decimal}
use Rattle.reo_proof_texts.specs.verdict_words.Words.{wrong_words, in_round}
use Rattle.reo_proof_texts.specs.declared.refusal.ProofRefusal.{ProofRefusal}
use Rattle.reo_proof_texts.specs.declared.refusal.ProofRefusal.TheVariants as refusals

-- Why a proof text is refused. That memory ran out is no verdict, and has no words.
abbrev pub refusal_words : ProofRefusal → List ℕ
refusal_words (refusals.Line line) = codes "line " ++ decimal line
refusal_words (refusals.Ended round) = in_round round (codes "ended")
refusal_words (refusals.Round round wrong node) = in_round round (wrong_words wrong node)
refusal_words (refusals.Moves round) = in_round round (codes "moves")
refusal_words (refusals.Wide round) = in_round round (codes "wide")
refusal_words (refusals.Log round line) = in_round round (codes "line " ++ decimal line)
refusal_words refusals.End = codes "end"
refusal_words refusals.NoMemory = []

-- The line of a verdict, its line feed included.
abbrev pub proof_verdict_line : Result ℕ ProofRefusal → List ℕ
proof_verdict_line (Ok rounds) = codes "proved " ++ decimal rounds ++ codes " rounds\n"
proof_verdict_line (Err refusal) = codes "proof refused: " ++ refusal_words refusal ++ codes "\n"
