-- What there is to show of a trace.
use Rattle.std.specs.Prelude.{ℕ, ◌<◌, ◌≤◌, List, length}
use Rattle.reo_net_base.specs.declared.port.Port.{Port}
use Rattle.reo_kinds.specs.declared.kind.Kind.{Kind}
use Rattle.reo_trace_reader.specs.declared.texts.trace.Trace.{Trace}
use Rattle.reo_runs.specs.Run.{Place, IsRun}
use Rattle.reo_runs.specs.at_ports.Kinds.{kind_rules}
use Rattle.reo_runs.specs.verdicts.Replays.{colourings}
use Rattle.reo_runs.specs.verdicts.Verdicts.{IsRefused}
use Rattle.reo_draw_replay.specs.declared.showing.Shown.{Shown}
use Rattle.reo_draw_replay.specs.declared.showing.Shown.TheVariants.{Picture, NoRound, Refused}
use Rattle.reo_draw_replay.specs.Drawn.{IsDrawn}

-- Of a trace that is a run in which each round is some colouring the picture of the round of a number, or that it has no such
-- round; of any other the first that is wrong with it.
abbrev pub IsShown : List Port → List (List ℕ) → List ℕ → Place Kind → Trace → ℕ → Shown → Type 0
IsShown ports nodes homes start t number (Picture picture) = IsRun colourings kind_rules start t.rounds t.ending × IsDrawn ports nodes homes start t.rounds number picture
IsShown ports nodes homes start t number NoRound = IsRun colourings kind_rules start t.rounds t.ending × (1 ≤ number → length t.rounds < number)
IsShown ports nodes homes start t number (Refused refusal) = IsRefused kind_rules nodes homes start t refusal
