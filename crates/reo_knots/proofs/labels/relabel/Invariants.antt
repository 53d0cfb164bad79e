use Rattle.std.proofs.Common.{take}
use Rattle.reo_net_laws.specs.KnotLabels.{IsWritten}
use Rattle.reo_knots.proofs.labels.relabel.Given as goal

-- The sides so far have the label.
abbrev pub invariant-loop-side : goal.invariant-loop-side
invariant-loop-side l = IsWritten l.initial.labels.items l.labels.items (take l.side-index l.sides) l.label
