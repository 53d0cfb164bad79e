-- A round that is drawn while a trace is replayed.
use Rattle.std.specs.Prelude.{ℕ, ◌≡◌, ◌+◌, ◌<◌, ◌≤◌, Bool, true, false, Option, Some, None, List, length}
use Rattle.reo_net_base.specs.declared.colouring.Colouring.{Colouring}
use Rattle.reo_net_base.specs.declared.port.Port.{Port}
use Rattle.reo_net_base.specs.Net.{Wiring, net_of}
use Rattle.reo_kinds.specs.declared.kind.Kind.{Kind}
use Rattle.reo_trace.specs.declared.line.RoundLine.{RoundLine}
use Rattle.reo_trace.specs.declared.line.Ending.{Ending}
use Rattle.reo_runs.specs.Run.{Place}
use Rattle.reo_runs.specs.at_ports.Kinds.{kind_rules}
use Rattle.reo_runs.specs.declared.verdicts.verdict.Refusal.TheVariants as refusals
use Rattle.reo_verify.specs.declared.outcome.Outcome.{Outcome}
use Rattle.reo_verify.specs.judging.Ends.{IsEndOf}
use Rattle.reo_verify.specs.judging.Judged.{IsColouringSaid}
use Rattle.reo_draw_rounds.specs.Rounds.{round_picture}
use Rattle.reo_draw_replay.specs.declared.drawing.Pictured.{Pictured}
use Rattle.reo_draw_replay.specs.declared.showing.Shown.{Shown}
use Rattle.reo_draw_replay.specs.declared.showing.Shown.TheVariants as shown
use Rattle.reo_draw_replay.specs.Drawn.{IsDrawn}

module _ (ports : List Port) (nodes : List (List ℕ)) (homes : List ℕ) where
  -- The picture of a line is made where it is asked for, and else what there was stays.
  abbrev pub IsDrawnIf : Bool → Wiring Kind → RoundLine → Option (List ℕ) → Option (List ℕ) → Type 0
  IsDrawnIf true w line before after =
      (colouring : Colouring) × IsColouringSaid (net_of kind_rules.behaviour w) line.entries colouring
      × (after ≡ Some (round_picture w ports homes nodes line colouring))
  IsDrawnIf false w line before after = after ≡ before

  -- The picture of the round of a number, or none where the first so many lines have no such round.
  abbrev pub IsDrawnWithin : Place Kind → List RoundLine → (count number : ℕ) → Option (List ℕ) → Type 0
  IsDrawnWithin start lines count number None = 1 ≤ number → count < number
  IsDrawnWithin start lines count number (Some picture) = IsDrawn ports nodes homes start lines number picture

-- The picture of the round that was asked for, by the rounds that lines show from a start, or none where they have no such round; what is asked for stays.
pub record HasDrawn (first : Pictured) (start : Place Kind) (lines : List RoundLine) (now : Pictured) : Type 0 where
  pub ports : now.ports.now ≡ first.ports.now
  pub nodes : now.nodes.now ≡ first.nodes.now
  pub homes : now.homes.now ≡ first.homes.now
  pub number : now.number ≡ first.number
  pub drawn : IsDrawnWithin now.ports.now.list now.nodes.now now.homes.now start lines (length lines) now.number now.picture

-- What there is to show of a trace of an ending, all of whose lines are rounds of a run, and come to this.
abbrev pub IsShownAt : Outcome → Option (List ℕ) → Ending → Shown → Type 0
IsShownAt outcome picture ending (shown.Picture p) = IsEndOf outcome.over (outcome.rounds + 1) ending × (picture ≡ Some p)
IsShownAt outcome picture ending shown.NoRound = IsEndOf outcome.over (outcome.rounds + 1) ending × (picture ≡ None)
IsShownAt outcome picture ending (shown.Refused refusal) = (IsEndOf outcome.over (outcome.rounds + 1) ending → ⊥) × (refusal ≡ refusals.End)
