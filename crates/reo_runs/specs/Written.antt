-- What a run has written and counted.
use Rattle.std.specs.Prelude.{ℕ, Bool, true, false, Option, List, [], ◌∷◌, ◌++◌, slice_get}
use Rattle.std.specs.Option.{option_map_or}
use Rattle.std.specs.List.{count_by, flat_map}
use Rattle.reo_io.specs.Sinks.{Appended, TookPart}
use Rattle.reo_net_base.specs.declared.colouring.Move.{Move}
use Rattle.reo_net_base.specs.declared.port.Way.{Way}
use Rattle.reo_net_base.specs.declared.port.Way.TheVariants.{In, Out}
use Rattle.reo_net_base.specs.declared.port.Port.{Port}
use Rattle.reo_trace.specs.declared.line.RoundLine.{RoundLine}
use Rattle.reo_trace.specs.declared.line.Ending.{Ending}
use Rattle.reo_trace.specs.RoundText.{round_text}
use Rattle.reo_trace.specs.EndingText.{ending_text}
use Rattle.reo_trace.specs.TraceText.{rounds_text, trace_text}
use Rattle.reo_rounds.specs.Rules.{Rules}
use Rattle.reo_runs.specs.Round.{Choosing}
use Rattle.reo_runs.specs.Run.{Place, IsRun}
use Rattle.reo_runs.specs.Whole.{GoesOn}

-- Whether items go into the circuit at a port of this way.
abbrev pub is_in : Way → Bool
is_in In = true
is_in Out = false

-- Whether items go out of the circuit at a port of this way.
abbrev pub is_out : Way → Bool
is_out In = false
is_out Out = true

-- The way of a port, by its number.
abbrev pub way_at : List Port → ℕ → Way
way_at ports port = option_map_or (λ (p : Port). p.way) (slice_get ports port) In

-- Whether an item moved at a port of a way.
abbrev pub goes : (Way → Bool) → List Port → Move → Bool
goes is ports m = is (way_at ports m.port)

-- How many items moved at ports of a way, in some rounds.
abbrev pub moved : (Way → Bool) → List Port → List RoundLine → ℕ
moved is ports lines = count_by (goes is ports) (flat_map (λ (line : RoundLine). line.moves) lines)

-- The line that stands next in a trace.
abbrev pub next_text : List Port → List RoundLine → Ending → List ℕ
next_text ports [] ending = ending_text ending
next_text ports (line ∷ rest) ending = round_text ports line

module _ {P : Type 0} (C : Choosing) (r : Rules P) (ports : List Port) (start : Place P) where
  -- The whole trace was written.
  pub record Ran (lines : List RoundLine) (ending : Ending) (before now : Option (List ℕ)) : Type 0 where
    pub run : IsRun C r start lines ending
    pub text : Appended before now (trace_text ports lines ending)

  -- The sink has got a front of the trace, and not the whole: these round lines, and of the next line a part.
  pub record Cut (lines : List RoundLine) (before now : Option (List ℕ)) : Type 0 where
    pub whole : GoesOn C r start lines
    pub front : TookPart before now (trace_text ports (lines ++ whole.rest) whole.ending)
    pub between : Option (List ℕ)
    pub text : Appended before between (rounds_text ports lines)
    pub part : TookPart between now (next_text ports whole.rest whole.ending)

  -- The sink has got whole lines of the trace, in order and none skipped.
  pub record Kept (lines : List RoundLine) (before now : Option (List ℕ)) : Type 0 where
    pub whole : GoesOn C r start lines
    pub text : Appended before now (rounds_text ports lines)
