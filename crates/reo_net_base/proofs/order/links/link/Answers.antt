use Rattle.std.proofs.Common.{◌≡◌, ◌<◌, ℕ, get_or, length, arith, ◌∙◌}
use Rattle.std.proofs.lemmas.List.{get_or_default}
use Rattle.reo_net_base.proofs.order.LinkLemmas.{link_more, links_done, linking_none}
use Rattle.reo_net_base.proofs.order.links.link.Goals as goal

pub loop-arrow-init : goal.loop-arrow-init
loop-arrow-init c = rw (c.in_ok-first.ensures.items_if_clones_equal (λ y h. h), c.new-next.ensures.items) (linking_none c.args.ends.now c.args.sides)

pub loop-arrow-preserved : goal.loop-arrow-preserved
loop-arrow-preserved c =
    let n : ℕ = c.loop-arrow.arrow in
    let lt : n < length c.args.ends.now = omega arith in
    let in_sides = c.requires n lt in
    let in_first : get_or c.args.ends.now n 0 < length c.loop-arrow.first.items = omega (arith, c.loop-arrow.invariant.first_length) in
    let first = c.index.ensures ∙ get_or_default c.loop-arrow.first.items (get_or c.args.ends.now n 0) c.index.result.now 0 in_first in
    rw (c.in_ok-push.ensures.items, first) (link_more c.args.ends.now c.loop-arrow.first.items c.loop-arrow.next.items c.args.sides n c.loop-arrow.invariant in_sides)

pub invariant_of-result : goal.invariant_of-result
invariant_of-result c =
    let n : c.loop-arrow.arrow ≡ length c.args.ends.now = omega arith in
    let done = links_done c.args.ends.now c.loop-arrow.first.items c.loop-arrow.next.items c.args.sides c.requires (rw n at c.loop-arrow.invariant) in
    record { are = rw c.in_ok-ends.ensures done }
