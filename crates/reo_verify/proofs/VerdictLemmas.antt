-- The verdict by what a replay comes to.
use Rattle.std.proofs.Common.{◌≡◌, ◌∙◌, ◌+◌, ℕ, List, [], ◌∷◌, length, sym, subst}
use Rattle.std.proofs.lemmas.List.{append-nil}
use Rattle.std.specs.Prelude.{Option, Result, Ok, Err, IfOk}
use Rattle.reo_trace.specs.declared.line.Ending.{Ending}
use Rattle.reo_trace_reader.specs.declared.texts.trace.Trace.{Trace}
use Rattle.reo_rounds.specs.Rules.{Rules}
use Rattle.reo_runs.specs.Run.{Place}
use Rattle.reo_runs.specs.declared.verdicts.verdict.Refusal.{Refusal}
use Rattle.reo_runs.specs.declared.verdicts.verdict.Verdict.{Verdict}
use Rattle.reo_runs.specs.declared.verdicts.verdict.Verdict.TheVariants.{Verified, Refused}
use Rattle.reo_runs.specs.verdicts.Verdicts.{IsRefused, IsVerdict}
use Rattle.reo_verify.specs.declared.outcome.Outcome.{Outcome}
use Rattle.reo_verify.specs.judging.Ends.{IsEndOf}
use Rattle.reo_verify.specs.Replayed.{IsVerdictAt, AreReplayed, IsCutOff}

module _ {P : Type 0} (r : Rules P) (nodes : List (List ℕ)) (homes : List ℕ) (start : Place P) (t : Trace) where
  -- All lines are rounds.
  pub verdict_by : (outcome : Outcome) (verdict : Verdict) → AreReplayed r start t.rounds outcome → IsVerdictAt outcome t.ending verdict → IsVerdict r nodes homes start t verdict
  verdict_by outcome (Verified rounds jams) are is = (
    record {
      last = are.last;
      rounds = are.rounds;
      ends = subst (λ (o : Option Ending). IsEndOf o (length t.rounds + 1) t.ending) (sym are.over_is) (subst (λ (n : ℕ). IsEndOf outcome.over (n + 1) t.ending) are.count is.0);
    },
    is.1 ∙ are.count,
    is.2 ∙ are.jams,
  )
  verdict_by outcome (Refused refusal) are is = record {
    right = t.rounds;
    left = [];
    last = are.last;
    cut = sym (append-nil t.rounds);
    rounds = are.rounds;
    wrong = (is.1, λ ends. is.0 (subst (λ (n : ℕ). IsEndOf outcome.over (n + 1) t.ending) (sym are.count) (subst (λ (o : Option Ending). IsEndOf o (length t.rounds + 1) t.ending) are.over_is ends)));
  }

  -- Some line is no round.
  pub refused_by : (refusal : Refusal) → IsCutOff r nodes homes start t.rounds refusal → IsRefused r nodes homes start t refusal
  refused_by refusal halted = record {
    right = halted.right;
    left = halted.line ∷ halted.left;
    last = halted.last;
    cut = halted.cut;
    rounds = halted.rounds;
    wrong = halted.wrong t.ending;
  }

-- What holds of an answer, and one thing alone.
pub only_by : {X E : Type 0} (answer : Result X E) (Q : X → Type 0) (x : X) → ((y : X) → Q y → y ≡ x) → IfOk answer Q → IfOk answer (λ y. y ≡ x)
only_by (Ok y) Q x one is = one y is
only_by (Err e) Q x one is = is
