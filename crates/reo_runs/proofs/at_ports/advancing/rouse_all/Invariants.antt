use Rattle.reo_runs.specs.at_ports.Parts.{AreRoused}
use Rattle.reo_runs.proofs.at_ports.advancing.rouse_all.Given as goal

-- So it is at the ports of the moves so far.
abbrev pub invariant-loop-flow : goal.invariant-loop-flow
invariant-loop-flow l = AreRoused l.moves l.flow-index l.initial.players l.players
