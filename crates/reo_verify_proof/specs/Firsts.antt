-- Proof texts whose rounds are first colourings.
use Rattle.std.specs.Prelude.{ℕ, ◌≡◌, List, ◌++◌, length, map}
use Rattle.reo_net_base.specs.declared.port.Port.{Port}
use Rattle.reo_trace.specs.declared.line.Ending.{Ending}
use Rattle.reo_trace.specs.EndingText.{ending_text}
use Rattle.reo_rounds.specs.Rules.{Rules}
use Rattle.reo_runs.specs.Run.{Place, IsRun}
use Rattle.reo_proof_texts.specs.Cuts.{LoggedRound, all_logged}
use Rattle.reo_proof_texts.specs.Laws.{first_colourings}

-- The text has so many rounds, each with a log, and they are those of a run in which each round is the first colouring.
pub record AreFirsts {P : Type 0} (r : Rules P) (ports : List Port) (start : Place P) (text : List ℕ) (count : ℕ) : Type 0 where
  pub rounds : List LoggedRound
  pub ending : Ending
  pub text_is : text ≡ all_logged ports rounds ++ ending_text ending
  pub run : IsRun first_colourings r start (map (λ (x : LoggedRound). x.line) rounds) ending
  pub count_is : count ≡ length rounds
