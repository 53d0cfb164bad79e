use Rattle.std.proofs.Common.{◌∙◌, ◌<◌, ℕ, List, length, ap, arith}
use Rattle.reo_net_base.specs.Net.{Net, net_of}
use Rattle.reo_mark_search.specs.Searched.{in_part, part_sides}
use Rattle.reo_mark_search.proofs.Steps.{row_next}
use Rattle.reo_mark_search.proofs.walking.row_all.Goals as goal

pub loop-index-preserved : goal.loop-index-preserved
loop-index-preserved g c =
    let net : Net = net_of g.P.Primitive.behaviour c.args.searched.now.circuit.now in
    let inside = in_part c.args.searched.now in
    let sides : List ℕ = part_sides c.args.searched.now in
    let n : ℕ = c.loop-index.index in
    let inv = c.loop-index.invariant in
    let count = ap (λ (xs : List ℕ). length xs) c.sides-index-end.ensures in
    let lt : n < length sides = omega (arith, count) in
    record {
      one_each = c.row_at.ensures.one_each ∙ inv.one_each;
      goes_on = row_next net 0 inside sides n lt c.args.sets.now c.loop-index.sets c.row_at.new.sets inv.goes_on c.row_at.ensures.goes_on;
      pinned = c.row_at.ensures.pinned inv.pinned;
      elsewhere = record {
        one_each = c.row_at.ensures.count ∙ inv.elsewhere.one_each;
        others = λ s away. c.row_at.ensures.others s away ∙ inv.elsewhere.others s away;
      };
    }
