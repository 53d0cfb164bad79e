-- Rounds with logs that show that they are first.
use Rattle.std.specs.Prelude.{ℕ, ◌+◌, ◌≡◌, None, List, [], ◌∷◌, ◌++◌, length}
use Rattle.reo_net_base.specs.declared.port.Port.{Port}
use Rattle.reo_trace.specs.declared.line.Ending.{Ending}
use Rattle.reo_trace.specs.EndingText.{ending_text}
use Rattle.reo_rounds.specs.Rules.{Rules}
use Rattle.reo_runs.specs.Round.{State, Choosing, RoundOf, net_ready}
use Rattle.reo_runs.specs.Run.{Place, EndsAs, place_after}
use Rattle.reo_refute_base.specs.faults.Faults.{IsProof}
use Rattle.reo_proof_texts.specs.Cuts.{LoggedRound, lines_text, all_logged}

module _ {P : Type 0} (C : Choosing) (r : Rules P) where
  -- A round whose log shows that no colouring stands before its rows.
  pub record IsProven (turn : ℕ) (a : State P) (x : LoggedRound) (b : State P) : Type 0 where
    pub round : RoundOf C r turn a x.line b
    pub proof : IsProof (net_ready r a) turn round.made.rows (lines_text x.log)

  -- From a place before the round of this number such rounds lead to another, and the run is over
  -- at none before it.
  abbrev pub AreProven : ℕ → Place P → List LoggedRound → Place P → Type 0
  AreProven turn p [] q = p ≡ q
  AreProven turn p (x ∷ xs) q = (p.over ≡ None) × (b : State P) × IsProven turn p.state x b
      × AreProven (turn + 1) (place_after turn x.line p.state b) xs q

  -- The proved text of a run: its text, with a log behind each round line that is right for it, and
  -- the line `proved` behind the log. Which right log stands there is free.
  pub record IsProved (ports : List Port) (start : Place P) (rounds : List LoggedRound)
      (ending : Ending) (text : List ℕ) : Type 0 where
    pub text_is : text ≡ all_logged ports rounds ++ ending_text ending
    pub last : Place P
    pub proven : AreProven 1 start rounds last
    pub ends : EndsAs C r (length rounds + 1) last ending
