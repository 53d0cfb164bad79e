use Rattle.std.proofs.Common.{refl}
use Rattle.std.proofs.lemmas.Result.{err_from_is_err_and}
use Rattle.reo_trees.specs.Indexes.{unit_form, further_units}
use Rattle.reo_parser.proofs.items_two.Grown.{index-got, index-stops}
use Rattle.reo_parser.proofs.items_two.indexes.index.Goals as goal

pub returns-in_err-units : goal.returns-in_err-units
returns-in_err-units c =
    let p = err_from_is_err_and c.from_residual-in_err-units.result c.from_residual-in_err-units.ensures.1 in
    rw (p.1, p.2)
    (index-stops unit_form (further_units 7) c.args.cursor.now c.unit.new.cursor c.in_ok-unit.unit c.push.new.self c.in_ok-unit.ensures (rw (c.in_ok-push.ensures.ok, c.new-units.ensures) refl)
    c.in_err-units.field-0.0 c.further_units.new.cursor c.in_err-units.ensures)

pub returns : goal.returns
returns c =
    index-got unit_form (further_units 7) c.args.cursor.now c.unit.new.cursor c.in_ok-unit.unit c.push.new.self c.in_ok-unit.ensures (rw (c.in_ok-push.ensures.ok, c.new-units.ensures) refl)
    c.in_ok-units.units c.further_units.new.cursor c.in_ok-units.ensures
