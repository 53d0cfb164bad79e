-- One name more.
use Rattle.std.proofs.Common.{◌≡◌, ◌∙◌, ap, false}
use Rattle.reo_rules.specs.Lists.{has_name}
use Rattle.reo_rules.specs.Names.{with_name}
use Rattle.reo_rules.proofs.AfterLemmas.{more_seen}
use Rattle.reo_rules.proofs.Distinct.{noted_new}
use Rattle.reo_flatten.proofs.EndLemmas.{new_name}
use Rattle.reo_flatten.proofs.unfolded.numbers_of.Goals as goal

pub loop-node-preserved : goal.loop-node-preserved
loop-node-preserved c =
    let i = c.loop-node.node-index in
    let node = c.node-item.result in
    let new : has_name c.loop-node.names node ≡ false = ap (λ ns. has_name ns node) c.loop-node.invariant ∙ new_name c.args.nodes.now i node c.requires c.loop-node-test.true c.node-item.is in
    more_seen c.args.nodes.now i node c.loop-node-test.true c.node-item.is c.loop-node.invariant
    (c.in_ok-note.ensures.names ∙ ap (with_name c.loop-node.names) c.as_slice.ensures ∙ noted_new c.loop-node.names node new)
