use Rattle.std.proofs.Common.{◌≡◌, ◌<◌, ℕ, List, false, length, get_or, arith, ◌∙◌, sym}
use Rattle.std.proofs.lemmas.List.{get_or_default}
use Rattle.reo_net_base.proofs.order.ReachLemmas.{reaching_more, reaching_found, reaching_all}
use Rattle.reo_net_base.proofs.order.cycle.is_on_cycle.Goals as goal

pub loop-at-preserved : goal.loop-at-preserved
loop-at-preserved c =
    let from : List ℕ = c.args.outs.now.ends.items in
    let to : List ℕ = c.args.ins.now.ends.items in
    let order : List ℕ = c.loop-at.queue.order.items in
    let at : ℕ = c.loop-at.at in
    let lt : at < length order = omega arith in
    let arrow = c.index-in-loop-at.ensures ∙ get_or_default order at c.index-in-loop-at.result.now 0 lt in
    let in_range = c.loop-at.invariant.queue.in_range at lt in
    let in_to : get_or order at 0 < length to = omega (arith, c.requires.arrows) in
    let read = rw arrow at c.index-side.ensures in
    let side = read ∙ get_or_default to (get_or order at 0) c.index-side.result.now 0 in_to in
    reaching_more from to c.args.arrow order c.push_all-in-loop-at.new.queue.order.items c.loop-at.queue.placed.items c.push_all-in-loop-at.new.queue.placed.items at c.loop-at.invariant lt (rw side at c.in_ok-push_all-2.ensures)

pub clear-requires : goal.clear-requires
clear-requires c =
    let q = c.loop-at.invariant.queue in
    rw (sym q.flags) at q

pub returns-clause-answer : goal.returns-clause-answer
returns-clause-answer c =
    let from : List ℕ = c.args.outs.now.ends.items in
    let to : List ℕ = c.args.ins.now.ends.items in
    let order : List ℕ = c.loop-at.queue.order.items in
    let placed = c.loop-at.queue.placed.items in
    let r = c.loop-at.invariant in
    let within = r.within in
    let end : c.loop-at.at ≡ length order = omega arith in
    let in_flags : c.args.arrow < length placed = omega (arith, r.queue.flags, c.requires.arrow) in
    let flag = c.index-found.ensures ∙ get_or_default placed c.args.arrow c.index-found.result.now false in_flags in (
      λ is. (c.requires.arrow, reaching_found from to c.args.arrow order placed c.loop-at.at r (sym flag ∙ is)),
      λ on. flag ∙ reaching_all from to c.args.arrow order placed (rw end at r) on,
    )

pub returns-clause-queue : goal.returns-clause-queue
returns-clause-queue c = rw c.loop-at.invariant.queue.flags at c.clear.ensures
