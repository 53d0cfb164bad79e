use Rattle.std.proofs.Common.{◌≡◌, ◌∙◌, ◌<◌, ◌≤◌, ◌&&◌, not, true, length, inl, inr, sym, subst, arith}
use Rattle.std.proofs.lemmas.Bool.{cases_Bool}
use Rattle.reo_joint_values.specs.Values.{value_eq}
use Rattle.reo_refute_live.specs.support.Families.{family_of}
use Rattle.reo_refute_live.proofs.HoldLemmas.{is_among, live_among, held_gone, held_stays, held_all}
use Rattle.reo_refute_live.proofs.TrailLemmas.{lost_more}
use Rattle.reo_refute_live.proofs.trail.hold.Goals as goal

pub loop-index-preserved : goal.loop-index-preserved
loop-index-preserved c =
    let live = family_of c.args.table.now in
    let now = family_of c.loop-index.table in
    let value = c.at-value.result.now in
    let held_is = c.loop-index.invariant.held_is in
    let lt : c.loop-index.index < length c.args.values.now = omega (arith, c.loop-index-test.true, c.len-index-end.ensures) in
    record {
      kept = c.in_ok-pass.ensures.kept;
      lost = lost_more live now (family_of c.pass.new.table) c.args.gone.now c.loop-index.gone c.pass.new.gone c.loop-index.invariant.lost c.in_ok-pass.ensures.lost;
      held_is = elim (cases_Bool (now c.args.joint value && not (value_eq value c.args.keep))) [
        | inl on ↦ held_gone live c.args.joint c.args.keep c.args.values.now c.loop-index.index value lt c.at-value.ensures now held_is on (family_of c.pass.new.table) (c.in_ok-pass.ensures.gone on)
        | inr off ↦ c.in_ok-pass.ensures.stays off ∙ held_stays live c.args.joint c.args.keep c.args.values.now c.loop-index.index value lt c.at-value.ensures now held_is off
      ];
    }

pub returns-clause-alone : goal.returns-clause-alone
returns-clause-alone c =
    let live = family_of c.args.table.now in
    let le : length c.args.values.now ≤ c.loop-index.index = omega (arith, c.loop-index-test.false, c.len-index-end.ensures) in
    c.loop-index.invariant.held_is
    ∙ held_all live c.args.joint c.args.keep c.args.values.now c.loop-index.index le
    (λ w on. subst (λ vs. is_among w vs ≡ true) (sym c.requires.values) (live_among c.args.lists.now c.args.joint c.args.table.now c.requires.kept.live w on))
