use Rattle.std.proofs.Common.{◌≡◌, ◌≤◌, ◌-◌, length}
use Rattle.reo_trace_reader.proofs.PortTexts.{NoneBefore}
use Rattle.reo_trace_reader.proofs.moves.port.Given as goal

abbrev pub invariant-loop-number : goal.invariant-loop-number
invariant-loop-number l = (l.from ≤ l.number) × (l.reader ≡ l.initial.reader) × NoneBefore l.ports.list l.from l.number l.initial.reader

abbrev pub decreases-loop-number : goal.decreases-loop-number
decreases-loop-number l = length l.ports.list - l.number
