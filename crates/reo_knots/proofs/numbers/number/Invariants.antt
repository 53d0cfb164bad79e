use Rattle.std.proofs.Common.{◌≤◌}
use Rattle.reo_net_laws.specs.Knots.{AreNumbers}
use Rattle.reo_net_laws.specs.KnotLabels.{same_label}
use Rattle.reo_net_laws.proofs.KnotNumbers.{AreKnown}
use Rattle.reo_knots.proofs.numbers.number.Given as goal

-- The sides so far are numbered, and what is known of labels are these numbers.
abbrev pub invariant-loop-side : goal.invariant-loop-side
invariant-loop-side l = record {
  numbered : AreNumbers (same_label l.labels) l.side l.numbers l.count;
  known : AreKnown l.labels l.numbers l.side l.known.items;
  few : l.count ≤ l.side;
}
