-- Answers that are verdicts, if memory does not run out.
use Rattle.std.specs.Prelude.{ℕ, Result, Err}
use Rattle.reo_proof_texts.specs.declared.refusal.ProofRefusal.{ProofRefusal}
use Rattle.reo_proof_texts.specs.declared.refusal.ProofRefusal.TheVariants as refusals

-- This holds of the answer, or it is that memory ran out.
abbrev pub IfVerdict : Result ℕ ProofRefusal → (Result ℕ ProofRefusal → Type 0) → Type 0
IfVerdict (Err refusals.NoMemory) holds = Unit {0}
IfVerdict answer holds = holds answer
