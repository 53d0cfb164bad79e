use Rattle.std.proofs.Common.{◌≡◌, ◌∙◌, ◌<◌, ◌≤◌, ◌+◌, ℕ, Bool, true, List, get_or, length, sym, arith}
use Rattle.std.proofs.lemmas.Bool.{both_ways}
use Rattle.std.proofs.lemmas.List.{get_or_default}
use Rattle.reo_net_base.specs.Net.{Net, net_of}
use Rattle.reo_joint_values.specs.declared.value.JointValue.{JointValue}
use Rattle.reo_side_tables.specs.Flowing.{gives_at}
use Rattle.reo_propagate.specs.ListedSets.{HaveSome}
use Rattle.reo_propagate.proofs.Kept.{at_first, at_one, first_more, first_all, kept_more, some_more, some_less, kept_as, some_as}
use Rattle.reo_propagate.proofs.sets.keep_given.Goals.{then-not-keep_joint, else-not-keep_joint}
use Rattle.reo_propagate.proofs.sets.keep_given.Goals as goal

pub loop-index-preserved : goal.loop-index-preserved
loop-index-preserved g c =
    let net : Net = net_of g.P.Primitive.behaviour c.args.circuit.now in
    let side : ℕ = c.args.side in
    let joints : List ℕ = c.args.board.now.joints in
    let index : ℕ = c.loop-index.index in
    let joint : ℕ = c.at.result.now in
    let alive : List (List Bool) = c.args.alive.now in
    let old : List (List JointValue) = c.args.sets.now.values in
    let mid : List (List JointValue) = c.loop-index.sets.values in
    let new : List (List JointValue) = c.keep_joint.new.sets.values in
    let lt : index < length joints = omega (arith, c.loop-index-test.true, c.len-index-end.ensures) in
    let is : joint ≡ get_or joints index 0 = c.at.ensures ∙ get_or_default joints index joint 0 lt in
    let now : ℕ → Bool = at_first net side joints index in
    let next : ℕ → Bool = at_first net side joints (index + 1) in
    let both = first_more net side joints index joint lt is in
    record {
      kept = kept_more now (at_one net side joint) next alive old mid new c.loop-index.invariant.kept c.keep_joint.ensures.kept both;
      some = elim c.if-not-keep_joint.branch [
        | then-not-keep_joint w ↦
            let none : HaveSome (at_one net side joint) new → ⊥ = λ all. both_ways c.keep_joint.result w.if-not-keep_joint.true (c.keep_joint.ensures.some.1 all) in (
              λ t. absurd {A = HaveSome next new} (both_ways c.if-not-keep_joint.full w.full-is t),
              λ all. absurd {A = c.if-not-keep_joint.full ≡ true} (some_less now (at_one net side joint) next alive old mid new c.loop-index.invariant.kept c.keep_joint.ensures.kept both none all),
            )
        | else-not-keep_joint w ↦
            let here : HaveSome (at_one net side joint) new = c.keep_joint.ensures.some.0 w.if-not-keep_joint.false in
            let more = some_more now (at_one net side joint) next alive old mid new c.loop-index.invariant.kept c.keep_joint.ensures.kept both here in (
              λ t. more.0 (c.loop-index.invariant.some.0 (sym w.full-is ∙ t)),
              λ all. w.full-is ∙ c.loop-index.invariant.some.1 (more.1 all),
            )
      ];
    }

pub returns-clause-kept : goal.returns-clause-kept
returns-clause-kept g c =
    let net : Net = net_of g.P.Primitive.behaviour c.args.circuit.now in
    let all : length c.args.board.now.joints ≤ c.loop-index.index = omega (arith, c.loop-index-test.false, c.len-index-end.ensures) in
    kept_as (at_first net c.args.side c.args.board.now.joints c.loop-index.index) (gives_at net c.args.side) c.args.alive.now c.args.sets.now.values c.loop-index.sets.values
    (λ j lt. first_all net c.args.side c.args.board.now.joints c.loop-index.index all c.requires.board.joints j (omega (arith, lt, c.requires.one_each))) c.loop-index.invariant.kept

pub returns-clause-some : goal.returns-clause-some
returns-clause-some g c =
    let net : Net = net_of g.P.Primitive.behaviour c.args.circuit.now in
    let all : length c.args.board.now.joints ≤ c.loop-index.index = omega (arith, c.loop-index-test.false, c.len-index-end.ensures) in
    let same = some_as (at_first net c.args.side c.args.board.now.joints c.loop-index.index) (gives_at net c.args.side) c.loop-index.sets.values
    (λ j lt. first_all net c.args.side c.args.board.now.joints c.loop-index.index all c.requires.board.joints j (omega (arith, lt, c.requires.one_each, c.loop-index.invariant.kept.one_each))) in
    (λ t. same.0 (c.loop-index.invariant.some.0 t), λ h. c.loop-index.invariant.some.1 (same.1 h))
