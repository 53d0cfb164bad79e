-- Answers that are verdicts.
use Rattle.std.proofs.Common.{◌≢◌, ℕ, refl}
use Rattle.std.specs.Prelude.{Result, Ok, Err}
use Rattle.reo_proof_texts.specs.declared.refusal.ProofRefusal.{ProofRefusal}
use Rattle.reo_proof_texts.specs.declared.refusal.ProofRefusal.TheVariants as refusals
use Rattle.reo_verify_proof.specs.Answered.{IfVerdict}

-- What holds of an answer holds of it as a verdict.
pub if_verdict : (answer : Result ℕ ProofRefusal) (holds : Result ℕ ProofRefusal → Type 0) → holds answer → IfVerdict answer holds
if_verdict (Ok count) holds is = is
if_verdict (Err (refusals.Line line)) holds is = is
if_verdict (Err (refusals.Ended round)) holds is = is
if_verdict (Err (refusals.Round round wrong node)) holds is = is
if_verdict (Err (refusals.Moves round)) holds is = is
if_verdict (Err (refusals.Wide round)) holds is = is
if_verdict (Err (refusals.Log round line)) holds is = is
if_verdict (Err refusals.End) holds is = is
if_verdict (Err refusals.NoMemory) holds is = tt

-- What holds of a verdict holds of the answer, if memory did not run out.
pub is_verdict : (answer : Result ℕ ProofRefusal) (holds : Result ℕ ProofRefusal → Type 0) → answer ≢ Err refusals.NoMemory → IfVerdict answer holds → holds answer
is_verdict (Ok count) holds told is = is
is_verdict (Err (refusals.Line line)) holds told is = is
is_verdict (Err (refusals.Ended round)) holds told is = is
is_verdict (Err (refusals.Round round wrong node)) holds told is = is
is_verdict (Err (refusals.Moves round)) holds told is = is
is_verdict (Err (refusals.Wide round)) holds told is = is
is_verdict (Err (refusals.Log round line)) holds told is = is
is_verdict (Err refusals.End) holds told is = is
is_verdict (Err refusals.NoMemory) holds told is = absurd (told refl)

-- More holds of a verdict of which this holds.
pub verdict_then : (answer : Result ℕ ProofRefusal) (holds more : Result ℕ ProofRefusal → Type 0) → ((verdict : Result ℕ ProofRefusal) → holds verdict → more verdict) → IfVerdict answer holds → IfVerdict answer more
verdict_then (Ok count) holds more by is = by (Ok count) is
verdict_then (Err (refusals.Line line)) holds more by is = by (Err (refusals.Line line)) is
verdict_then (Err (refusals.Ended round)) holds more by is = by (Err (refusals.Ended round)) is
verdict_then (Err (refusals.Round round wrong node)) holds more by is = by (Err (refusals.Round round wrong node)) is
verdict_then (Err (refusals.Moves round)) holds more by is = by (Err (refusals.Moves round)) is
verdict_then (Err (refusals.Wide round)) holds more by is = by (Err (refusals.Wide round)) is
verdict_then (Err (refusals.Log round line)) holds more by is = by (Err (refusals.Log round line)) is
verdict_then (Err refusals.End) holds more by is = by (Err refusals.End) is
verdict_then (Err refusals.NoMemory) holds more by is = tt
