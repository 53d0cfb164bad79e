-- Proofs that were written, and proofs that are verified.
use Rattle.std.specs.Prelude.{ℕ, ◌≡◌, ◌<◌, ◌^◌, ◌++◌, List, [], ◌∷◌, Ok, length, map}
use Rattle.reo_trace.specs.declared.line.Ending.{Ending}
use Rattle.reo_trace.specs.EndingText.{ending_text}
use Rattle.reo_runs.specs.Run.{IsRun, start_of}
use Rattle.reo_runs.specs.at_ports.Kinds.{kind_rules}
use Rattle.reo_proof_texts.specs.Cuts.{LoggedRound, all_logged}
use Rattle.reo_proof_texts.specs.Laws.{first_colourings}
use Rattle.reo_proof_texts.specs.proof_verdict_texts.VerdictTexts.{proof_verdict_line}
use Rattle.reo_command.specs.Claims.{Claimed, ReadsProof}
use Rattle.reo_command.specs.Fetched.{text}
use Rattle.reo_command.specs.Limits.{usual_limits}
use Rattle.reo_command.specs.Readings.{Runnable, ReadsRun}
use Rattle.reo_command.specs.Statuses.{done}
use Rattle.reo_top.specs.runs.ProvedRuns.{ProvesRun}
use Rattle.reo_top.specs.verdicts.Judged.{IsProofJudged, JudgesProof}

-- The files of a circuit, a script and a proof are read together, and the verdict is that the proof is verified.
pub record IsProofVerified (circuit script proof : List ℕ) (count : ℕ) : Type 0 where
  pub claimed : Claimed (List ℕ)
  pub reads : ReadsProof (text circuit ∷ text script ∷ text proof ∷ []) claimed
  pub judged : JudgesProof claimed (proof_verdict_line (Ok count)) done

-- So it is with each proved text of a run, whatever its ending and whichever logs stand in it. The circuit has fewer than 2^64
-- bytes, as each that a command reads.
abbrev pub WrittenProofsAreVerified : Type 0
WrittenProofsAreVerified =
    (circuit script proof : List ℕ) (r : Runnable) (code : ℕ)
    → length circuit < 2 ^ 64 → ReadsRun (text circuit ∷ text script ∷ []) r → (p : ProvesRun usual_limits r proof code)
    → IsProofVerified circuit script proof (length p.rounds)

-- The text is that of so many rounds with their logs, and these are rounds of a run in which each is the first colouring of what
-- the rounds before it have left.
pub record HasFirstRounds (r : Runnable) (proof : List ℕ) (count : ℕ) : Type 0 where
  pub rounds : List LoggedRound
  pub ending : Ending
  pub text_is : proof ≡ all_logged r.flat.ports rounds ++ ending_text ending
  pub run : IsRun first_colourings kind_rules (start_of r.flat.wiring r.script.components) (map (λ (x : LoggedRound). x.line) rounds) ending
  pub count_is : count ≡ length rounds

-- So it is with each proof that is verified, whoever wrote it.
abbrev pub VerifiedProofsAreFirst : Type 0
VerifiedProofsAreFirst =
    (circuit script proof : List ℕ) (c : Claimed (List ℕ)) (count : ℕ)
    → length circuit < 2 ^ 64 → ReadsProof (text circuit ∷ text script ∷ text proof ∷ []) c → IsProofJudged c (Ok count)
    → HasFirstRounds c.work proof count
