use Rattle.std.proofs.Common.{◌≡◌, ◌<◌, ◌+◌, ◌-◌, ◌++◌, ◌∷◌, [], set, get_or-set_same, ℕ, true, false, length, get_or, arith, ◌∙◌, sym}
use Rattle.std.proofs.lemmas.List.{get_or_default}
use Rattle.reo_net_base.specs.order.Links.{IsLast}
use Rattle.reo_net_base.proofs.order.QueueLemmas.{pushing_none, pushing_done, pushing_past, pushing_push}
use Rattle.reo_net_base.proofs.order.queue.push_all.Goals as goal
use Rattle.reo_net_base.proofs.order.queue.push_all.Goals.{then-not-index+in_ok-push, else-not-index}

pub loop-at-init : goal.loop-at-init
loop-at-init c =
    let first = c.index-at.ensures ∙ get_or_default c.args.links.now.first.items c.args.side c.index-at.result.now 0 c.requires.side in
    rw first (pushing_none c.args.links.now.ends.items c.args.side c.args.queue.now.order.items c.args.queue.now.placed.items (get_or c.args.links.now.first.items c.args.side 0) c.requires.queue (c.args.links.now.are.firsts c.args.side c.requires.side))

pub loop-at-preserved : goal.loop-at-preserved
loop-at-preserved c =
    let inv = c.loop-at.invariant in
    let within = inv.within in
    let j : ℕ = c.loop-at.at - 1 in
    let at : c.loop-at.at ≡ j + 1 = omega arith in
    let lt : j < length c.args.links.now.ends.items = omega arith in
    let same = rw at at inv in
    let next = c.index-at-in-loop-at.ensures ∙ get_or_default c.args.links.now.next.items j c.index-at-in-loop-at.result.now 0 (omega (arith, c.args.links.now.are.next_length)) in
    let last : IsLast c.args.links.now.ends.items (get_or c.args.links.now.ends.items j 0) j c.index-at-in-loop-at.result.now = rw next (c.args.links.now.are.nexts j lt) in
    let in_flags : j < length c.loop-at.queue.placed.items = omega (arith, inv.queue.flags) in
    let flag = sym (c.index.ensures ∙ get_or_default c.loop-at.queue.placed.items j c.index.result.now false in_flags) in
    elim c.if-not-index.branch [
      | then-not-index+in_ok-push w ↦
          let ends = c.args.links.now.ends.items in
          let new = c.loop-at.queue.order.items ++ j ∷ [] in
          let flags = set c.loop-at.queue.placed.items j true in
          let more = pushing_push ends c.args.side c.args.queue.now.order.items c.loop-at.queue.order.items c.loop-at.queue.placed.items j same (flag ∙ w.if-not-index.true) in
          rw (w.queue-is, w.in_ok-push.ensures.items) (pushing_past ends c.args.side c.args.queue.now.order.items new flags j c.index-at-in-loop-at.result.now more last (get_or-set_same c.loop-at.queue.placed.items j true false in_flags))
      | else-not-index w ↦
          rw w.queue-is (pushing_past c.args.links.now.ends.items c.args.side c.args.queue.now.order.items c.loop-at.queue.order.items c.loop-at.queue.placed.items j c.index-at-in-loop-at.result.now same last (flag ∙ w.if-not-index.false))
    ]

pub returns : goal.returns
returns c =
    let zero : c.loop-at.at ≡ 0 = omega arith in
    pushing_done c.args.links.now.ends.items c.args.side c.args.queue.now.order.items c.loop-at.queue.order.items c.loop-at.queue.placed.items (rw zero at c.loop-at.invariant)
