use Rattle.std.proofs.Common.{◌≡◌, ◌∙◌, ℕ, ◌<◌, List, length, get_or, set, ap, arith}
use Rattle.reo_net_base.specs.Net.{Net, net_of, no_side}
use Rattle.reo_side_tables.specs.Marks.{groups_in}
use Rattle.reo_search_tables.proofs.Among.{among_at}
use Rattle.reo_rows.specs.declared.groups.Group.{Group}
use Rattle.reo_search_tables.proofs.Renewed.{IsPut, set_put, set_here, stays_more, right_more}
use Rattle.reo_search_tables.proofs.notes.renew_notes.Goals as goal

pub groups-requires : goal.groups-requires
groups-requires g c = c.requires.sides (get_or c.args.sides.now c.loop-side.side-index 0) (among_at c.args.sides.now c.loop-side.side-index c.loop-side-test.true)

pub at_mut-requires : goal.at_mut-requires
at_mut-requires g c =
    let lt = c.requires.sides (get_or c.args.sides.now c.loop-side.side-index 0) (among_at c.args.sides.now c.loop-side.side-index c.loop-side-test.true) in
    omega (arith, lt, c.requires.one_each, c.loop-side.invariant.stays.one_each)

pub loop-side-preserved : goal.loop-side-preserved
loop-side-preserved g c =
    let net : Net = net_of g.P.Primitive.behaviour c.args.circuit.now in
    let sides : List ℕ = c.args.sides.now in
    let n : ℕ = c.loop-side.side-index in
    let side : ℕ = get_or c.args.sides.now c.loop-side.side-index 0 in
    let now : List (List Group) = c.loop-side.notes in
    let blank : List Group = c.in_ok-blank.blank in
    let same = c.loop-side.invariant.stays.one_each in
    let side_lt = c.requires.sides side (among_at sides n c.loop-side-test.true) in
    let side_in : side < length now = omega (arith, side_lt, c.requires.one_each, same) in
    let put : IsPut side now (set now side blank) = set_put side blank now in
    let groups : c.groups.result ≡ groups_in net side = c.groups.ensures no_side in
    let count : length blank ≡ groups_in net side = c.in_ok-blank.ensures ∙ groups in
    record {
      stays = stays_more sides n c.args.notes.now now (set now side blank) c.loop-side-test.true c.loop-side.invariant.stays put;
      right = right_more sides n (λ s list. length list ≡ groups_in net s) now (set now side blank) (λ s h. let s_lt = c.requires.sides s h in omega (arith, s_lt, c.requires.one_each, same)) c.loop-side-test.true
          c.loop-side.invariant.right put (λ d. ap length (set_here side blank now side_in d) ∙ count);
    }
