use Rattle.std.proofs.Common.{◌≡◌}
use Rattle.reo_net_base.specs.Net.{net_of}
use Rattle.reo_rows.specs.Rows.{AreTables}
use Rattle.reo_rows.specs.Seeing.{AreSeen, Below, LiveRowUse}
use Rattle.reo_rows.specs.Sets.{family_of, names_of}
use Rattle.reo_rows.proofs.seeing.see.Given as goal

abbrev pub invariant-loop-row : goal.invariant-loop-row
invariant-loop-row g l = record {
  tables : AreTables (net_of g.P.Primitive.behaviour l.basis.circuit.now) l.basis.items.now l.rows;
  live : l.rows.live ≡ l.initial.rows.live;
  notes : l.rows.notes ≡ l.initial.rows.notes;
  seen : AreSeen (Below (LiveRowUse (net_of g.P.Primitive.behaviour l.basis.circuit.now) (names_of l.basis.items.now) (family_of l.alive) l.rows.live l.side) l.row) l.initial.rows.seen l.rows.seen;
}
