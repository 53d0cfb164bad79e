-- Runs in which each round is some colouring.
use Rattle.std.specs.Prelude.{ℕ, ◌+◌, ◌<◌, ◌^◌, ◌≡◌, List, length}
use Rattle.reo_net_base.specs.declared.port.Port.{Port}
use Rattle.reo_net_base.specs.Colouring.{IsColouring}
use Rattle.reo_trace.specs.declared.line.Ending.{Ending}
use Rattle.reo_trace.specs.declared.line.Ending.TheVariants as endings
use Rattle.reo_trace_reader.specs.declared.texts.trace.Trace.{Trace}
use Rattle.reo_trace_reader.specs.texts.Texts.{IsTraceText}
use Rattle.reo_runs.specs.Round.{Choosing}

-- The endings that may stand in place of the round of a number: the limit after the rounds before it, or that it cannot be
-- planned, whatever the part, its weight and the budget.
abbrev pub MayStop : ℕ → Ending → Type 0
MayStop turn (endings.Done rounds) = ⊥
MayStop turn (endings.Stuck rounds) = ⊥
MayStop turn (endings.Limit rounds) = rounds + 1 ≡ turn
MayStop turn (endings.Spent round knot weight budget) = round ≡ turn
MayStop turn (endings.Wide round knot) = round ≡ turn

-- The choice of a replay: in each round any colouring, and any such ending.
abbrev pub colourings : Choosing
colourings = record {
  suits = λ net turn rows items. IsColouring net rows items;
  stops = λ net turn ending. MayStop turn ending;
}

-- The trace is one that a text says.
pub record HasText (ports : List Port) (t : Trace) : Type 0 where
  pub text : List ℕ
  pub short : length text < 2 ^ 63
  pub is_text : IsTraceText ports text t
