use Rattle.std.proofs.Common.{◌≡◌, ◌∙◌, ℕ, ◌<◌, Bool, true, List, length, get_or, arith}
use Rattle.reo_net_base.specs.Net.{Net, net_of, no_side, row_count}
use Rattle.reo_side_tables.specs.Marks.{side_in}
use Rattle.reo_search_tables.proofs.Among.{among_at}
use Rattle.reo_search_tables.proofs.Renewed.{IsPut, row_put, row_length, stays_more, right_more}
use Rattle.reo_search_tables.proofs.notes.renew_live.Goals as goal

pub rows-requires : goal.rows-requires
rows-requires g c = c.requires.sides (get_or c.args.sides.now c.loop-side.side-index 0) (among_at c.args.sides.now c.loop-side.side-index c.loop-side-test.true)

pub renew-requires : goal.renew-requires
renew-requires g c =
    let lt = c.requires.sides (get_or c.args.sides.now c.loop-side.side-index 0) (among_at c.args.sides.now c.loop-side.side-index c.loop-side-test.true) in
    omega (arith, lt, c.requires.one_each, c.loop-side.invariant.stays.one_each)

pub loop-side-preserved : goal.loop-side-preserved
loop-side-preserved g c =
    let net : Net = net_of g.P.Primitive.behaviour c.args.circuit.now in
    let sides : List ℕ = c.args.sides.now in
    let n : ℕ = c.loop-side.side-index in
    let side : ℕ = get_or c.args.sides.now c.loop-side.side-index 0 in
    let now : List (List Bool) = c.loop-side.live in
    let next : List (List Bool) = c.renew.new.self in
    let same = c.loop-side.invariant.stays.one_each in
    let side_lt = c.requires.sides side (among_at sides n c.loop-side-test.true) in
    let place : side < length next = omega (arith, side_lt, c.requires.one_each, same, c.renew.ensures.one_each) in
    let put : IsPut side now next = row_put side now next c.renew.ensures.one_each c.renew.ensures.other in
    record {
      stays = stays_more sides n c.args.live.now now next c.loop-side-test.true c.loop-side.invariant.stays put;
      right = right_more sides n (λ s row. length row ≡ row_count (side_in net s)) now next (λ s h. let s_lt = c.requires.sides s h in omega (arith, s_lt, c.requires.one_each, same)) c.loop-side-test.true
          c.loop-side.invariant.right put (λ d. row_length side c.rows.result true next place c.in_ok-renew.ensures.here d ∙ c.rows.ensures.count no_side);
    }
