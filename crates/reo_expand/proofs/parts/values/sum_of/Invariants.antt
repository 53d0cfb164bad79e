use Rattle.std.proofs.Common.{◌≡◌, [], take}
use Rattle.std.specs.List.{flat_map}
use Rattle.reo_trees.specs.declared.indexes.SignedUnit.{SignedUnit}
use Rattle.reo_expand.specs.base.Indexed.{unbound_unit, units_value}
use Rattle.reo_expand.specs.base.Judged.{IsNear}
use Rattle.reo_expand.proofs.parts.values.sum_of.Given as goal

abbrev pub invariant-loop-unit : goal.invariant-loop-unit
invariant-loop-unit l = record {
  known : flat_map (λ (u : SignedUnit). unbound_unit l.bound u.unit) (take l.unit-index l.units) ≡ [];
  is : l.total ≡ units_value l.bound (take l.unit-index l.units);
  near : IsNear l.total;
}
