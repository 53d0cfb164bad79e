-- One joint more.
use Rattle.std.proofs.Common.{arith, ◌≡◌, ◌∙◌, ◌++◌, ◌∷◌, [], ◌+◌, sym, ap, get_or}
use Rattle.std.proofs.lemmas.List.{append_assoc, get_or_default}
use Rattle.reo_net_base.specs.declared.joint.End.{End}
use Rattle.reo_net_base.specs.declared.joint.Joint.{Joint}
use Rattle.reo_flatten.proofs.JointLemmas.{pairs-from}
use Rattle.reo_flatten.proofs.joints.out_of_replicator.Goals as goal

pub loop-end-preserved : goal.loop-end-preserved
loop-end-preserved c =
    let i = c.loop-end.end in
    let place : 1 + i ≡ i + 1 = omega arith in
    let none : End = record { primitive = 0; end = 0 } in
    let here = get_or c.args.outs.now i none in
    let joint : Joint = record { giver = record { primitive = c.args.replicator; end = i + 1 }; taker = here } in
    c.in_ok-push.ensures.ok ∙ ap (λ js. js ++ joint ∷ []) c.loop-end.invariant ∙ append_assoc c.args.joints.now _ (joint ∷ [])
    ∙ ap (λ js. c.args.joints.now ++ js) (sym (pairs-from c.args.outs.now c.args.replicator 1 i (i + 1) here place c.loop-end-test.true (get_or_default c.args.outs.now i none here c.loop-end-test.true)))
