-- The status of the verdict on a proof.
use Rattle.std.specs.Prelude.{ℕ, Result, Ok, Err}
use Rattle.reo_proof_texts.specs.declared.refusal.ProofRefusal.{ProofRefusal}
use Rattle.reo_command.specs.Statuses.{done, proof_refused}

-- Its status. That memory ran out is no verdict.
abbrev pub proof_status : Result ℕ ProofRefusal → ℕ
proof_status (Ok rounds) = done
proof_status (Err refusal) = proof_refused
