use Rattle.std.proofs.Common.{◌≡◌, ◌++◌, take}
use Rattle.reo_trace.specs.RoundText.{move_text}
use Rattle.reo_trace.specs.Spaced.{spaced}
use Rattle.reo_trace.proofs.text.append_flows.Given as goal

abbrev pub invariant-loop-place : goal.invariant-loop-place
invariant-loop-place l = l.text ≡ l.initial.text ++ spaced (move_text l.ports.list) (take l.place l.moves)
