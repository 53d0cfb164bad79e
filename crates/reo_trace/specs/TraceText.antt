-- The text of a whole trace.
use Rattle.std.specs.Prelude.{ℕ, List, ◌++◌}
use Rattle.std.specs.List.{flat_map}
use Rattle.reo_net_base.specs.declared.port.Port.{Port}
use Rattle.reo_trace.specs.declared.line.Ending.{Ending}
use Rattle.reo_trace.specs.declared.line.RoundLine.{RoundLine}
use Rattle.reo_trace.specs.EndingText.{ending_text}
use Rattle.reo_trace.specs.RoundText.{round_text}

-- All round lines in order.
abbrev pub rounds_text : List Port → List RoundLine → List ℕ
rounds_text ports rounds = flat_map (round_text ports) rounds

-- All round lines, and then the ending.
abbrev pub trace_text : List Port → List RoundLine → Ending → List ℕ
trace_text ports rounds ending = rounds_text ports rounds ++ ending_text ending
