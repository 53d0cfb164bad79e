-- The verdict by what the replay of a proof text comes to.
use Rattle.std.proofs.Common.{◌≡◌, ◌≢◌, ◌∙◌, inl, inr, ap, refl, sym, subst, ℕ, ◌+◌, List, ◌++◌, length}
use Rattle.std.specs.Prelude.{Option, None, Result, Ok, Err}
use Rattle.reo_net_base.specs.declared.port.Port.{Port}
use Rattle.reo_net_base.specs.Net.{Wiring}
use Rattle.reo_players.specs.Players.{Player}
use Rattle.reo_trace.specs.declared.line.RoundLine.{RoundLine}
use Rattle.reo_trace.specs.declared.line.Ending.{Ending}
use Rattle.reo_rounds.specs.Rules.{Rules}
use Rattle.reo_runs.specs.Round.{net_ready}
use Rattle.reo_runs.specs.Run.{Place, EndsAs}
use Rattle.reo_runs.specs.declared.verdicts.verdict.Refusal.{Refusal}
use Rattle.reo_runs.specs.declared.verdicts.verdict.Refusal.TheVariants as causes
use Rattle.reo_runs.specs.verdicts.Replays.{colourings}
use Rattle.reo_runs.specs.verdicts.Wrongs.{IsWrongRound}
use Rattle.reo_verify.proofs.judging.RefusalLemmas.{wrong_by}
use Rattle.reo_verify.specs.judging.Ends.{IsEndOf}
use Rattle.reo_refute_base.specs.declared.faults.fault.ProofFault.{ProofFault}
use Rattle.reo_refute_base.specs.declared.faults.fault.ProofFault.TheVariants as faults
use Rattle.reo_refute_base.specs.faults.Faults.{IsProofFault}
use Rattle.reo_proof_texts.specs.declared.refusal.ProofRefusal.{ProofRefusal}
use Rattle.reo_proof_texts.specs.declared.refusal.ProofRefusal.TheVariants as refusals
use Rattle.reo_proof_texts.specs.Cuts.{LoggedRound, all_logged, Next, IsNext}
use Rattle.reo_proof_texts.specs.ProofVerdicts.{FailsBy, IsWrongRoundBy, IsWrongNext, IsProofRefused, IsVerified, IsProofVerdict}
use Rattle.reo_proof_reader.specs.Found.{IsRoundFound}
use Rattle.reo_verify_proof.specs.declared.proof_rounds.stop.RoundStop.{RoundStop}
use Rattle.reo_verify_proof.specs.declared.proof_rounds.stop.RoundStop.TheVariants as stops
use Rattle.reo_verify_proof.specs.proof_rounds.Rounds.{IsLogRefused, IsNoProof}
use Rattle.reo_verify_proof.specs.Answered.{IfVerdict}
use Rattle.reo_verify_proof.specs.Ended.{IsVerdictAt}
use Rattle.reo_verify_proof.specs.Refusing.{of_cause, IsRoundRefusal}
use Rattle.reo_verify_proof.proofs.ReplayLemmas.{place_now}
use Rattle.reo_verify_proof.proofs.SoFar.{SoFar}
use Rattle.reo_verify_proof.proofs.Verdicts.{if_verdict}

module _ {P : Type 0} (r : Rules P) (ports : List Port) (nodes : List (List ℕ)) (homes : List ℕ) (start : Place P) (text left : List ℕ) (before made : ℕ) (w : Wiring P) (players : List Player) (over : Option Ending)
    (so_far : SoFar r ports start text left before made w players over) where
  abbrev place : Place P
  place = place_now r ports start text left before made w players over so_far

  -- What stands next is wrong.
  refused : (next : Next) (refusal : ProofRefusal) → IsNext ports (made + 1) left next → IsWrongNext r ports nodes homes before (made + 1) place next refusal
      → IfVerdict (Err refusal) (IsProofVerdict r ports nodes homes start text)
  refused next refusal is wrong =
      let whole : IsProofRefused r ports nodes homes start text refusal = record {
        right = so_far.rounds;
        left = left;
        last = place;
        next = next;
        cut = so_far.cut;
        logged = so_far.logged;
        proven = so_far.proven;
        next_is = subst (λ (n : ℕ). IsNext ports (n + 1) left next) so_far.count_is is;
        wrong = subst (λ (b : ℕ). IsWrongNext r ports nodes homes b (length so_far.rounds + 1) place next refusal) so_far.lines_are
            (subst (λ (n : ℕ). IsWrongNext r ports nodes homes before (n + 1) place next refusal) so_far.count_is wrong);
      } in
      if_verdict (Err refusal) (IsProofVerdict r ports nodes homes start text) whole

  verified : (ending : Ending) → IsNext ports (made + 1) left (Next.ending ending) → IsEndOf over (made + 1) ending → IsVerified r ports nodes homes start text made
  verified ending is ends = record {
    rounds = so_far.rounds;
    ending = ending;
    logged = so_far.logged;
    is_ending = is.0;
    proved = record {
      text_is = so_far.cut ∙ ap (λ (t : List ℕ). all_logged ports so_far.rounds ++ t) is.1;
      last = place;
      proven = so_far.proven;
      ends = subst (λ (n : ℕ). EndsAs colourings r (n + 1) place ending) so_far.count_is ends;
    };
    count_is = so_far.count_is;
  }

  -- The ending stands next.
  pub by_ending : (ending : Ending) (answer : Result ℕ ProofRefusal) → IsNext ports (made + 1) left (Next.ending ending) → IsVerdictAt over made ending answer → IfVerdict answer (IsProofVerdict r ports nodes homes start text)
  by_ending ending (Ok count) next is = subst (IsVerified r ports nodes homes start text) (sym is.1) (verified ending next is.0)
  by_ending ending (Err refusal) next is = refused (Next.ending ending) refusal next (is.1, is.0)

  -- A wrong line stands next.
  pub by_line : (line : ℕ) → IsNext ports (made + 1) left (Next.wrong line) → IfVerdict (Err (refusals.Line (before + line))) (IsProofVerdict r ports nodes homes start text)
  by_line line next = refused (Next.wrong line) (refusals.Line (before + line)) next refl

  module _ (new : List ℕ) (line : RoundLine) (log : List ℕ) (lines : ℕ) (found : IsRoundFound ports (made + 1) left new line log lines) where
    abbrev x : LoggedRound
    x = record { line = line; log = found.log }

    -- A round stands next, though the run is over.
    pub by_ended : over ≢ None → IfVerdict (Err (refusals.Ended (made + 1))) (IsProofVerdict r ports nodes homes start text)
    by_ended ended = refused (Next.round x new) (refusals.Ended (made + 1)) found.next_is (inl (ended, refl))

    by_cause : (cause : Refusal) → IsWrongRound nodes homes (net_ready r place.state) so_far.circuit.ports (made + 1) line cause → IsWrongRoundBy r ports nodes homes before (made + 1) place.state x (of_cause cause)
    by_cause (causes.Line number) is = is
    by_cause (causes.Ended round) is = is
    by_cause (causes.Round round wrong node) is = is
    by_cause (causes.Moves round) is = is
    by_cause causes.End is = is

    fails : (fault : ProofFault) → IsLogRefused r (made + 1) place.state line log fault → FailsBy r ports nodes homes (made + 1) place.state x fault
    fails fault why = record {
      next = why.next;
      round = why.round;
      fault_is = subst (λ (t : List ℕ). IsProofFault (net_ready r place.state) (made + 1) why.round.made.rows t fault) found.text_is why.fault_is;
    }

    -- A round stands next that is not accepted.
    pub by_round : over ≡ None → line.round ≡ made + 1 → (stop : RoundStop) (refusal : ProofRefusal) → IsNoProof r (made + 1) place.state line log stop → IsRoundRefusal nodes homes before (made + 1) stop refusal
        → IfVerdict (Err refusal) (IsProofVerdict r ports nodes homes start text)
    by_round on number (stops.Line stop) refusal why (inl none) = subst (λ (z : ProofRefusal). IfVerdict (Err z) (IsProofVerdict r ports nodes homes start text)) (sym none) tt
    by_round on number (stops.Line stop) refusal why (inr is) =
        let wrong = by_cause is.0 (wrong_by nodes homes (net_ready r place.state) so_far.circuit.ports (made + 1) line stop is.0 number why is.1) in
        subst (λ (z : ProofRefusal). IfVerdict (Err z) (IsProofVerdict r ports nodes homes start text)) (sym is.2) (refused (Next.round x new) (of_cause is.0) found.next_is (inr (on, wrong)))
    by_round on number (stops.Log (faults.Colouring wrong)) refusal why is = absurd is
    by_round on number (stops.Log faults.Wide) refusal why is =
        subst (λ (z : ProofRefusal). IfVerdict (Err z) (IsProofVerdict r ports nodes homes start text)) (sym is)
        (refused (Next.round x new) (refusals.Wide (made + 1)) found.next_is (inr (on, (refl, fails faults.Wide why))))
    by_round on number (stops.Log (faults.Line n)) refusal why is =
        subst (λ (z : ProofRefusal). IfVerdict (Err z) (IsProofVerdict r ports nodes homes start text)) (sym is)
        (refused (Next.round x new) (refusals.Log (made + 1) (before + 1 + n)) found.next_is (inr (on, (refl, n, fails (faults.Line n) why, refl))))
    by_round on number (stops.Log faults.NoMemory) refusal why is = subst (λ (z : ProofRefusal). IfVerdict (Err z) (IsProofVerdict r ports nodes homes start text)) (sym is) tt
