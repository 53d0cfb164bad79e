-- The cell of the table.
use Rattle.std.proofs.Common.{◌≡◌, Some, slice_get, sym, subst}
use Rattle.reo_rules_types.specs.Cells.{kindred_of}
use Rattle.reo_rules_types.proofs.types.TypeStore.cell.Goals as goal

pub returns-clause-fits : goal.returns-clause-fits
returns-clause-fits c = (c.self.invariant.each c.args.number c.in-Some.cell.now c.in-Some.field-0-1.now (sym c.in-Some.ensures.entry)).fits

pub returns-clause-is : goal.returns-clause-is
returns-clause-is c =
    subst (λ types. slice_get types c.args.number ≡ Some (kindred_of types c.in-Some.cell.now)) c.self.view_is
    (c.self.invariant.each c.args.number c.in-Some.cell.now c.in-Some.field-0-1.now (sym c.in-Some.ensures.entry)).is
