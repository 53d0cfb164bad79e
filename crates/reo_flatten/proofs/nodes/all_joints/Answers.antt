-- One node more.
use Rattle.std.proofs.Common.{arith, ◌≡◌, ◌≤◌, ◌<◌, ◌∙◌, ◌+◌, ◌++◌, Bool, true, false, cond, [], List, ℕ, length, replicate, sym, ap}
use Rattle.std.proofs.lemmas.List.{take_all, get_or_default}
use Rattle.reo_flat.specs.Unfolding.{Placed}
use Rattle.reo_flat.specs.Joints.{is_many, many, joints_of}
use Rattle.reo_flat.specs.Flat.{joints_at, homes_at}
use Rattle.reo_flatten.specs.NodeEnds.{name_at, AreEnds}
use Rattle.reo_flatten.proofs.WiringLemmas.{after-more, joints-more, homes-more}
use Rattle.reo_flatten.proofs.nodes.all_joints.Goals as goal

one_most : (b : Bool) → cond b 1 0 ≤ 1
one_most true = omega arith
one_most false = omega arith

pub loop-node-preserved : goal.loop-node-preserved
loop-node-preserved c =
    let i = c.loop-node.node in
    let inv = c.loop-node.invariant in
    let test = c.loop-node-test.true in
    let count = c.len-node-end.ensures in
    let ins_are = c.as_slice-ins.ensures ∙ c.at.ensures in
    let outs_are = c.as_slice-outs.ensures ∙ c.at-in-loop-node.ensures in
    let one = one_most (is_many c.as_slice-ins.result.now) in
    let two = one_most (is_many c.as_slice-outs.result.now) in
    let few_ins = c.many.ensures in
    let few_outs = c.many-in-loop-node.ensures in
    let bound = inv.bound in
    record {
      bound = omega arith;
      at = λ names placed are.
          let within = inside names placed are i c.len-node-end.result test count in
          (λ k. inv.at names placed are k + ((few_ins ∙ ap many (ins_are ∙ are.ins i c.at.result.now within)) k + (few_outs ∙ ap many (outs_are ∙ are.outs i c.at-in-loop-node.result.now within)) k))
          ∙ sym (after-more placed names i c.args.first (name_at names i) within (get_or_default names i [] _ within));
      joints = λ names placed are.
          let within = inside names placed are i c.len-node-end.result test count in
          c.in_ok-add.ensures.joints
          ∙ (λ k. inv.joints names placed are k ++ joints_of ((ins_are ∙ are.ins i c.at.result.now within) k) ((outs_are ∙ are.outs i c.at-in-loop-node.result.now within) k) (inv.at names placed are k))
          ∙ sym (joints-more placed names i c.args.first (name_at names i) within (get_or_default names i [] _ within));
      homes = λ names placed are.
          let within = inside names placed are i c.len-node-end.result test count in
          c.in_ok-add.ensures.homes
          ∙ (λ k. inv.homes names placed are k ++ replicate (length (joints_of ((ins_are ∙ are.ins i c.at.result.now within) k) ((outs_are ∙ are.outs i c.at-in-loop-node.result.now within) k) (inv.at names placed are k))) i)
          ∙ sym (homes-more placed names i c.args.first (name_at names i) within (get_or_default names i [] _ within));
    } where
      inside : (names : List (List ℕ)) (placed : List Placed) → AreEnds names placed c.args.ends.now → (i end : ℕ) → i < end → end ≡ length c.args.ends.now.ins → i < length names
      inside names placed are i end below count =
          let many = are.many_ins in
          omega arith

pub returns-clause-joints : goal.returns-clause-joints
returns-clause-joints c names placed are =
    let test = c.loop-node-test.false in
    let count = c.len-node-end.ensures in
    let many = are.many_ins in
    let late : length names ≤ c.loop-node.node = omega arith in
    c.loop-node.invariant.joints names placed are ∙ ap (joints_at placed c.args.first) (take_all c.loop-node.node names late)

pub returns-clause-homes : goal.returns-clause-homes
returns-clause-homes c names placed are =
    let test = c.loop-node-test.false in
    let count = c.len-node-end.ensures in
    let many = are.many_ins in
    let late : length names ≤ c.loop-node.node = omega arith in
    c.loop-node.invariant.homes names placed are ∙ ap (homes_at placed 0 c.args.first) (take_all c.loop-node.node names late)
