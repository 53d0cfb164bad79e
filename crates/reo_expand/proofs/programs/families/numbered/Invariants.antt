use Rattle.std.proofs.Common.{◌≡◌, ◌≤◌, ◌++◌, Ok, map, take}
use Rattle.std.specs.List.{flat_map}
use Rattle.reo_trees.specs.declared.programs.Declaration.TheVariants as declarations
use Rattle.reo_expand.specs.base.Expansion.{connector_for}
use Rattle.reo_expand.specs.base.Steps.{steps_in, two_in, walked}
use Rattle.reo_expand.specs.programs.Noted.{bound_number, instance_for}
use Rattle.reo_expand.proofs.programs.families.numbered.Given as goal

abbrev pub invariant-loop-value : goal.invariant-loop-value
invariant-loop-value l = record {
  walked : walked l.initial.walk.count (flat_map (λ k. steps_in (flat_map two_in l.before) (bound_number l.number k) l.connector.items) (take l.value-index l.values)) ≡ Ok l.walk.count;
  made : l.out ≡ l.initial.out ++ map (λ k. declarations.Made (connector_for l.connector (instance_for l.connector.name l.number k))) (take l.value-index l.values);
  small : l.walk.count ≤ 65536;
}
