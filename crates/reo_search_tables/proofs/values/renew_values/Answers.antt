use Rattle.std.proofs.Common.{◌≡◌, ◌∙◌, ℕ, ◌+◌, ◌<◌, Bool, List, length, get_or, ap, arith}
use Rattle.reo_reach.specs.Supplied.{items_at}
use Rattle.reo_search_tables.proofs.Among.{among_at}
use Rattle.reo_search_tables.proofs.Renewed.{IsPut, row_put, row_length, stays_more, right_more}
use Rattle.reo_search_tables.proofs.values.renew_values.Goals as goal

pub items-requires : goal.items-requires
items-requires c = c.requires.joints (get_or c.args.joints.now c.loop-joint.joint-index 0) (among_at c.args.joints.now c.loop-joint.joint-index c.loop-joint-test.true)

pub renew-requires : goal.renew-requires
renew-requires c =
    let lt = c.requires.joints (get_or c.args.joints.now c.loop-joint.joint-index 0) (among_at c.args.joints.now c.loop-joint.joint-index c.loop-joint-test.true) in
    omega (arith, lt, c.requires.one_each, c.loop-joint.invariant.stays.one_each)

pub loop-joint-preserved : goal.loop-joint-preserved
loop-joint-preserved c =
    let joints : List ℕ = c.args.joints.now in
    let n : ℕ = c.loop-joint.joint-index in
    let joint : ℕ = get_or c.args.joints.now c.loop-joint.joint-index 0 in
    let now : List (List Bool) = c.loop-joint.flags in
    let next : List (List Bool) = c.renew.new.self in
    let same = c.loop-joint.invariant.stays.one_each in
    let joint_lt = c.requires.joints joint (among_at joints n c.loop-joint-test.true) in
    let joint_in : joint < length next = omega (arith, joint_lt, c.requires.one_each, same, c.renew.ensures.one_each) in
    let put : IsPut joint now next = row_put joint now next c.renew.ensures.one_each c.renew.ensures.other in
    let count : c.len-count.result ≡ length (items_at c.args.supply.now joint) = c.len-count.ensures ∙ ap length c.items.ensures in
    record {
      stays = stays_more joints n c.args.flags.now now next c.loop-joint-test.true c.loop-joint.invariant.stays put;
      right = right_more joints n (λ j row. length row ≡ length (items_at c.args.supply.now j) + 4) now next (λ s h. let s_lt = c.requires.joints s h in omega (arith, s_lt, c.requires.one_each, same)) c.loop-joint-test.true
          c.loop-joint.invariant.right put (λ d. row_length joint (c.len-count.result + 4) c.args.value next joint_in c.in_ok-renew.ensures.here d ∙ ap (λ (k : ℕ). k + 4) count);
    }
