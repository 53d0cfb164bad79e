-- Whole runs: there is exactly one from each start.
use Rattle.std.specs.Prelude.{ℕ, ◌+◌, ◌≡◌, List, [], ◌∷◌, ◌++◌, length}
use Rattle.reo_net_base.specs.Net.{net_of}
use Rattle.reo_trace.specs.declared.line.RoundLine.{RoundLine}
use Rattle.reo_trace.specs.declared.line.Ending.{Ending}
use Rattle.reo_rounds.specs.Order.{HasOrder}
use Rattle.reo_rounds.specs.Rules.{Rules}
use Rattle.reo_runs.specs.Round.{State, Choosing, RoundOf}
use Rattle.reo_runs.specs.Run.{Place, IsRun, HasBegun, firsts}

module _ {P : Type 0} (C : Choosing) (r : Rules P) (start : Place P) where
  -- A whole run whose first round lines are these: the lines that follow, and the ending.
  pub record GoesOn (lines : List RoundLine) : Type 0 where
    pub rest : List RoundLine
    pub ending : Ending
    pub run : IsRun C r start (lines ++ rest) ending

  -- There is a whole run, and what has begun goes on to one, also with a round more.
  pub record HasRun : Type 0 where
    pub whole : GoesOn []
    pub after : (lines : List RoundLine) (state : State P) → HasBegun C r start lines state → GoesOn lines
    pub after_next : (lines : List RoundLine) (state : State P) (line : RoundLine) (next : State P) → HasBegun C r start lines state
        → RoundOf C r (length lines + 1) state line next → GoesOn (lines ++ line ∷ [])

  -- Two runs have the same lines and the same ending.
  abbrev pub HasOneRun : Type 0
  HasOneRun = (lines others : List RoundLine) (ending other : Ending) → IsRun C r start lines ending → IsRun C r start others other
      → (lines ≡ others) × (ending ≡ other)

-- Where the joints have an order, there is a run, and what has begun goes on to one.
abbrev pub RunExists : {P : Type 0} → Rules P → Type 0
RunExists r = (budget limit : ℕ) (start : Place _) → HasOrder (net_of r.behaviour start.state.circuit) → HasRun (firsts budget limit) r start

-- Where the joints have an order, there is one run and no other.
abbrev pub RunIsOne : {P : Type 0} → Rules P → Type 0
RunIsOne r = (budget limit : ℕ) (start : Place _) → HasOrder (net_of r.behaviour start.state.circuit) → HasOneRun (firsts budget limit) r start
