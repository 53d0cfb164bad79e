-- The end of a proof text.
use Rattle.std.specs.Prelude.{ℕ, ◌+◌, ◌≡◌, Option, Result, Ok, Err}
use Rattle.reo_trace.specs.declared.line.Ending.{Ending}
use Rattle.reo_verify.specs.judging.Ends.{IsEndOf}
use Rattle.reo_proof_texts.specs.declared.refusal.ProofRefusal.{ProofRefusal}
use Rattle.reo_proof_texts.specs.declared.refusal.ProofRefusal.TheVariants as refusals

-- The verdict on a proof text with so many rounds, all accepted, of a run that is over so or not over.
abbrev pub IsVerdictAt : Option Ending → ℕ → Ending → Result ℕ ProofRefusal → Type 0
IsVerdictAt over made ending (Ok count) = IsEndOf over (made + 1) ending × (count ≡ made)
IsVerdictAt over made ending (Err refusal) =
    (IsEndOf over (made + 1) ending → ⊥) × (refusal ≡ refusals.End)
