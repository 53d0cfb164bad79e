-- The refusal of a line is what is wrong first with it.
use Rattle.std.proofs.Common.{◌≡◌, ◌≢◌, ℕ, List, refl, sym, subst}
use Rattle.reo_net_base.specs.Moves.{moves_of}
use Rattle.reo_net_base.specs.Net.{Net}
use Rattle.reo_trace.specs.declared.line.RoundLine.{RoundLine}
use Rattle.reo_trace.specs.Entries.{line_for}
use Rattle.reo_runs.specs.declared.verdicts.verdict.Refusal.{Refusal}
use Rattle.reo_runs.specs.verdicts.Wrongs.{IsWrongRound}
use Rattle.reo_verify.specs.declared.judging.judging.Stop.{Stop}
use Rattle.reo_verify.specs.declared.judging.judging.Stop.TheVariants as stops
use Rattle.reo_verify.specs.judging.Judged.{IsLineStop}
use Rattle.reo_verify.specs.judging.Refused.{IsRefusalBy}

module _ (nodes : List (List ℕ)) (homes : List ℕ) (net : Net) (ports turn : ℕ) (line : RoundLine) where
  pub wrong_by : (stop : Stop) (refusal : Refusal) → line.round ≡ turn → IsLineStop net ports line stop → IsRefusalBy nodes homes turn stop refusal → IsWrongRound nodes homes net ports turn line refusal
  wrong_by (stops.Wrong wrong) refusal number why is = subst (IsWrongRound nodes homes net ports turn line) (sym is) (refl, refl, why)
  wrong_by stops.Moves refusal number why is =
      subst (IsWrongRound nodes homes net ports turn line) (sym is) (
        refl,
        (why.0, why.1, why.2, why.3, subst (λ n. line ≢ line_for net n why.0 (moves_of net ports why.0 why.1)) number why.4),
      )
  wrong_by stops.NoMemory refusal number why is = absurd is
