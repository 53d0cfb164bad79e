use Rattle.std.proofs.Common.{◌≡◌, [], take, map}
use Rattle.std.specs.List.{flat_map}
use Rattle.reo_expand.specs.base.Expansion.{ref_name}
use Rattle.reo_expand.specs.base.Steps.{ref_steps}
use Rattle.reo_expand.proofs.parts.refs.node_names.Given as goal

abbrev pub invariant-loop-node : goal.invariant-loop-node
invariant-loop-node l = record {
  known : flat_map (ref_steps l.bound l.line) (take l.node-index l.nodes) ≡ [];
  made : l.names ≡ map (ref_name l.bound) (take l.node-index l.nodes);
}
