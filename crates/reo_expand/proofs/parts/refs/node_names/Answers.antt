use Rattle.std.proofs.Common.{◌∙◌, ◌++◌, ◌∷◌, [], map, take, ap, sym}
use Rattle.std.specs.List.{flat_map}
use Rattle.reo_expand.specs.base.Expansion.{ref_name}
use Rattle.reo_expand.specs.base.Steps.{ref_steps}
use Rattle.reo_expand.specs.base.Judged.{IsHalted}
use Rattle.reo_expand.proofs.base.Walking.{passed}
use Rattle.reo_expand.proofs.base.Turning.{next_of, part_halted, more_mapped}
use Rattle.reo_expand.proofs.parts.refs.node_names.Goals as goal

pub returns-in_err-name : goal.returns-in_err-name
returns-in_err-name c =
    passed _ (IsHalted (flat_map (ref_steps c.args.bound.now c.args.line) c.args.nodes.now)) c.from_residual.result c.in_err-name.field-0.0 c.from_residual.ensures
    (part_halted (ref_steps c.args.bound.now c.args.line) c.args.nodes.now c.loop-node.node-index c.node-item.result c.in_err-name.field-0.0
    c.loop-node-test.true c.node-item.is c.loop-node.invariant.known c.in_err-name.ensures)

pub loop-node-preserved : goal.loop-node-preserved
loop-node-preserved c =
    let S = ref_steps c.args.bound.now c.args.line in
    let N = ref_name c.args.bound.now in
    record {
      known = next_of S c.args.nodes.now c.loop-node.node-index c.node-item.result c.loop-node-test.true c.node-item.is
          ∙ ap (λ l. l ++ S c.node-item.result) c.loop-node.invariant.known
          ∙ c.in_ok-name.ensures.0;
      made = c.in_ok-push.ensures.ok
          ∙ ap (λ l. l ++ c.in_ok-name.name ∷ []) c.loop-node.invariant.made
          ∙ ap (λ b. map N (take c.loop-node.node-index c.args.nodes.now) ++ b ∷ []) c.in_ok-name.ensures.1
          ∙ sym (more_mapped N c.args.nodes.now c.loop-node.node-index c.node-item.result c.loop-node-test.true c.node-item.is);
    }
