use Rattle.std.proofs.Common.{arith, ◌∙◌, ◌++◌, ap}
use Rattle.std.proofs.lemmas.Int.{ints}
use Rattle.reo_trees.specs.declared.indexes.SignedUnit.{SignedUnit}
use Rattle.reo_expand.specs.base.Indexed.{unbound_unit}
use Rattle.reo_expand.specs.base.Steps.{unbound_steps}
use Rattle.reo_expand.specs.base.Judged.{IsHalted}
use Rattle.reo_expand.proofs.base.Walking.{passed}
use Rattle.reo_expand.proofs.base.Turning.{next_of}
use Rattle.reo_expand.proofs.parts.Units.{units_more, unit_halted}
use Rattle.reo_expand.proofs.parts.values.sum_of.Goals as goal

pub returns-in_err-value : goal.returns-in_err-value
returns-in_err-value c =
    passed _ (IsHalted (unbound_steps c.args.bound.now c.args.line (record { units = c.args.units.now }))) c.from_residual.result c.in_err-value.field-0.0 c.from_residual.ensures
    (unit_halted c.args.bound.now c.args.line c.args.units.now c.loop-unit.unit-index c.unit-item.result c.in_err-value.field-0.0
    c.loop-unit-test.true c.unit-item.is c.loop-unit.invariant.known c.in_err-value.ensures)

pub loop-unit-preserved : goal.loop-unit-preserved
loop-unit-preserved c =
    let more = units_more c.args.bound.now c.args.units.now c.loop-unit.unit-index c.unit-item.result c.loop-unit-test.true c.unit-item.is in
    let same = c.in_ok-total.ensures.same in
    let near = c.in_ok-total.ensures.near in
    let here = c.loop-unit.invariant.is in
    let value = c.in_ok-value.ensures.1 in
    record {
      known = next_of (λ (u : SignedUnit). unbound_unit c.args.bound.now u.unit) c.args.units.now c.loop-unit.unit-index c.unit-item.result c.loop-unit-test.true c.unit-item.is
          ∙ ap (λ l. l ++ unbound_unit c.args.bound.now c.unit-item.result.unit) c.loop-unit.invariant.known
          ∙ c.in_ok-value.ensures.0;
      is = first_of (omega (arith, ints, more, same, here, value), grind (arith, ints, more, same, here, value));
      near = (first_of (omega (arith, ints, near.0, near.1), grind (arith, ints, near.0, near.1)), first_of (omega (arith, ints, near.0, near.1), grind (arith, ints, near.0, near.1)));
    }
