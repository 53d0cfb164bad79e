-- One node more.
use Rattle.std.proofs.Common.{arith, ◌≤◌, ◌<◌, ◌∙◌, ◌++◌, [], length, ap, take}
use Rattle.std.specs.List.{flat_map}
use Rattle.std.proofs.lemmas.List.{append_assoc, take_all, get_or_default}
use Rattle.reo_rules.proofs.AfterLemmas.{more_flat}
use Rattle.reo_flat.specs.Flat.{own_kinds}
use Rattle.reo_flatten.specs.NodeParts.{own}
use Rattle.reo_flatten.specs.NodeEnds.{name_at}
use Rattle.reo_flatten.proofs.nodes.all_own.Goals as goal

pub loop-node-preserved : goal.loop-node-preserved
loop-node-preserved c names placed are =
    let i = c.loop-node.node in
    let n = name_at names i in
    let test = c.loop-node-test.true in
    let count = c.len-node-end.ensures in
    let many = are.many_ins in
    let within : i < length names = omega arith in
    let ins = c.as_slice.ensures ∙ c.at-ins.ensures ∙ are.ins i c.at-ins.result.now within in
    let outs = c.as_slice-in-loop-node.ensures ∙ c.at-outs.ensures ∙ are.outs i c.at-outs.result.now within in
    c.in_ok-own_kinds.ensures ∙ (λ k. c.loop-node.invariant names placed are k ++ own (ins k) (outs k))
    ∙ append_assoc c.args.kinds.now (flat_map (own_kinds placed) (take i names)) (own_kinds placed n)
    ∙ ap (λ ks. c.args.kinds.now ++ ks) (more_flat (own_kinds placed) names i n within (get_or_default names i [] n within))

pub returns : goal.returns
returns c names placed are =
    let test = c.loop-node-test.false in
    let count = c.len-node-end.ensures in
    let many = are.many_ins in
    let late : length names ≤ c.loop-node.node = omega arith in
    c.loop-node.invariant names placed are ∙ ap (λ ns. c.args.kinds.now ++ flat_map (own_kinds placed) ns) (take_all c.loop-node.node names late)
