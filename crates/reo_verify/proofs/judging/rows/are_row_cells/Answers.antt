use Rattle.std.proofs.Common.{ap}
use Rattle.std.specs.Prelude.{slice_get}
use Rattle.reo_runs.specs.verdicts.Said.{cells_of}
use Rattle.reo_verify.proofs.judging.RowLemmas.{no_cell}
use Rattle.reo_verify.proofs.judging.rows.are_row_cells.Goals as goal

pub returns-in-One-clause-are_not : goal.returns-in-One-clause-are_not
returns-in-One-clause-are_not g c = λ off.
    no_cell (g.P.Primitive.behaviour c.args.primitive.now) c.args.entry 0 c.in-One.cell (ap (λ e. slice_get (cells_of e) 0) c.in-One.is)
    (λ fits. let yes = c.is_row.ensures.1 (rw c.rows.ensures fits) in absurd (cc))

pub returns-then-is_row-clause-are_not : goal.returns-then-is_row-clause-are_not
returns-then-is_row-clause-are_not g c = λ off.
    no_cell (g.P.Primitive.behaviour c.args.primitive.now) c.args.entry 1 c.in-Two.tail (ap (λ e. slice_get (cells_of e) 1) c.in-Two.is)
    (λ fits. let yes = c.is_row-then-is_row.ensures.1 (rw c.rows-then-is_row.ensures fits) in absurd (cc))

pub returns-else-is_row-clause-are_not : goal.returns-else-is_row-clause-are_not
returns-else-is_row-clause-are_not g c = λ off.
    no_cell (g.P.Primitive.behaviour c.args.primitive.now) c.args.entry 0 c.in-Two.mouth (ap (λ e. slice_get (cells_of e) 0) c.in-Two.is)
    (λ fits. let yes = c.is_row-in-Two.ensures.1 (rw c.rows-in-Two.ensures fits) in absurd (cc))
