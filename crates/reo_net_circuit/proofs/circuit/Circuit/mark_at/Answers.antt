-- The row is in the table of the side of the end.
use Rattle.reo_net_circuit.proofs.circuit.Circuit.mark_at.Goals as goal

pub mark-requires-clause-row : goal.mark-requires-clause-row
mark-requires-clause-row g c = rw (c.side_of.ensures, c.primitive-primitive.ensures.behaviour) c.row_at-row.ensures.in_table
