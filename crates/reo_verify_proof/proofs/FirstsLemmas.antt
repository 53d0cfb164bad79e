-- What is verified has first colourings alone.
use Rattle.std.proofs.Common.{ℕ, List}
use Rattle.std.specs.Prelude.{Result, Ok, Err, IfOk}
use Rattle.reo_net_base.specs.declared.port.Port.{Port}
use Rattle.reo_net_base.specs.Net.{net_of}
use Rattle.reo_rounds.specs.Order.{HasOrder}
use Rattle.reo_rounds.specs.Rules.{Rules}
use Rattle.reo_runs.specs.Run.{Place}
use Rattle.reo_proof_texts.specs.declared.refusal.ProofRefusal.{ProofRefusal}
use Rattle.reo_proof_texts.specs.Laws.{VerifiedRoundsAreFirst}
use Rattle.reo_proof_texts.specs.ProofVerdicts.{IsProofVerdict}
use Rattle.reo_verify_proof.specs.Answered.{IfVerdict}
use Rattle.reo_verify_proof.specs.Firsts.{AreFirsts}

pub firsts_by : {P : Type 0} (r : Rules P) (ports : List Port) (nodes : List (List ℕ)) (homes : List ℕ) (start : Place P) (text : List ℕ) → VerifiedRoundsAreFirst r → HasOrder (net_of r.behaviour start.state.circuit)
    → (answer : Result ℕ ProofRefusal) → IfVerdict answer (IsProofVerdict r ports nodes homes start text) → IfOk answer (AreFirsts r ports start text)
firsts_by r ports nodes homes start text law order (Ok count) is = record {
  rounds = is.rounds;
  ending = is.ending;
  text_is = is.proved.text_is;
  run = law ports start is.rounds is.ending text order is.proved;
  count_is = is.count_is;
}
firsts_by r ports nodes homes start text law order (Err refusal) is = tt
