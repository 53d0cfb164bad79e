use Rattle.std.proofs.Common.{◌≡◌, ◌<◌, ◌+◌, ℕ, List, Bool, true, false, length, get_or, set, arith, ◌∙◌, sym, get_or-set_same, get_or-set_other, below_more}
use Rattle.std.proofs.lemmas.List.{get_or_default, length-set}
use Rattle.reo_net_base.specs.order.Queue.{Pushed}
use Rattle.reo_net_base.proofs.order.SortLemmas.{sorting_push, ready_push, sorting_past, sorting_skip, sorting_done, ready_skip}
use Rattle.reo_net_base.proofs.order.sort.sort.Goals as goal
use Rattle.reo_net_base.proofs.order.sort.sort.Goals.{then-index-eq0+in_ok-push_all, else-index-eq0, then-old-gt0+then-wait-eq0+in_ok-push_all-2, then-old-gt0+else-wait-eq0, else-old-gt0}

pub loop-start-preserved : goal.loop-start-preserved
loop-start-preserved c =
    let from : List ℕ = c.args.outs.now.ends.items in
    let to : List ℕ = c.args.ins.now.ends.items in
    let order : List ℕ = c.loop-start.queue.order.items in
    let placed : List Bool = c.loop-start.queue.placed.items in
    let waits : List ℕ = c.in_ok-waits.waits.items in
    let s : ℕ = c.loop-start.start in
    let lt : s < length waits = omega arith in
    let wait = sym (c.index.ensures ∙ get_or_default waits s c.index.result.now 0 lt) in
    let inv = c.loop-start.invariant in
    elim c.if-index-eq0.branch [
      | then-index-eq0+in_ok-push_all w ↦
          let p : Pushed from s order w.push_all.new.queue.order.items w.push_all.new.queue.placed.items = w.in_ok-push_all.ensures in
          let none = wait ∙ w.if-index-eq0.true in
          rw w.queue-is record {
            sorting = sorting_push from to c.requires.arrows order w.push_all.new.queue.order.items placed w.push_all.new.queue.placed.items inv.sorting.queue s p waits 0 inv.sorting lt none;
            ready = ready_push from to c.requires.arrows order w.push_all.new.queue.order.items placed w.push_all.new.queue.placed.items inv.sorting.queue s p waits (s + 1) (λ t t_lt ne. inv.ready.ready t (omega arith));
          }
      | else-index-eq0 w ↦
          rw w.queue-is record {
            sorting = inv.sorting;
            ready = record { ready = below_more (λ (t : ℕ). get_or waits t 0 ≡ 0 → (j : ℕ) → j < length from → get_or from j 0 ≡ t → get_or placed j false ≡ true) s inv.ready.ready (λ none. absurd (w.if-index-eq0.false (sym wait ∙ none))) };
          }
    ]

pub loop-at-preserved : goal.loop-at-preserved
loop-at-preserved c =
    let from : List ℕ = c.args.outs.now.ends.items in
    let to : List ℕ = c.args.ins.now.ends.items in
    let order : List ℕ = c.loop-at.queue.order.items in
    let placed : List Bool = c.loop-at.queue.placed.items in
    let waits : List ℕ = c.loop-at.waits.items in
    let inv = c.loop-at.invariant in
    let at : ℕ = c.loop-at.at in
    let lt : at < length order = omega arith in
    let arrow = c.index-in-loop-at.ensures ∙ get_or_default order at c.index-in-loop-at.result.now 0 lt in
    let in_range = inv.sorting.queue.in_range at lt in
    let in_to : get_or order at 0 < length to = omega (arith, c.requires.arrows) in
    let read = rw arrow at c.index-side.ensures in
    let side_is = read ∙ get_or_default to (get_or order at 0) c.index-side.result.now 0 in_to in
    let side : ℕ = c.index-side.result.now in
    let side_in = rw (sym side_is) at (c.args.ins.now.are.in_range (get_or order at 0) in_to) in
    let side_lt : side < length waits = omega (arith, inv.sides) in
    let wait = c.index-old.ensures ∙ get_or_default waits side c.index-old.result.now 0 side_lt in
    elim c.if-old-gt0.branch [
      | then-old-gt0+then-wait-eq0+in_ok-push_all-2 w ↦
          let v : ℕ = w.skip-wait.result in
          let new : List ℕ = w.push_all-then-wait-eq0.new.queue.order.items in
          let after : List Bool = w.push_all-then-wait-eq0.new.queue.placed.items in
          let p : Pushed from side order new after = w.in_ok-push_all-2.ensures in
          let next = sorting_skip from to c.requires.arrows order placed waits at inv.sorting lt side v side_is side_lt (rw (wait, w.deref-then-old-gt0.ensures.value) at w.skip-wait.ensures) in
          let more : side < length (set waits side v) = omega (arith, length-set waits side v) in
          let zero = get_or-set_same waits side v 0 side_lt ∙ w.if-wait-eq0.true in
          rw (w.queue-is, w.waits-is) record {
            sides = length-set waits side v ∙ inv.sides;
            sorting = sorting_push from to c.requires.arrows order new placed after inv.sorting.queue side p (set waits side v) (at + 1) next more zero;
            ready = ready_push from to c.requires.arrows order new placed after inv.sorting.queue side p (set waits side v) (length (set waits side v))
                (λ t t_lt ne none. inv.ready.ready t (omega (arith, t_lt, length-set waits side v)) (sym (get_or-set_other waits side t v 0 ne) ∙ none));
          }
      | then-old-gt0+else-wait-eq0 w ↦
          let v : ℕ = w.skip-wait.result in
          rw (w.queue-is, w.waits-is) record {
            sides = length-set waits side v ∙ inv.sides;
            sorting = sorting_skip from to c.requires.arrows order placed waits at inv.sorting lt side v side_is side_lt (rw (wait, w.deref-then-old-gt0.ensures.value) at w.skip-wait.ensures);
            ready = ready_skip from placed waits side v inv.ready side_lt w.if-wait-eq0.false;
          }
      | else-old-gt0 w ↦
          let none : get_or waits side 0 ≡ 0 = omega (arith, wait, w.if-old-gt0.false) in
          rw (w.queue-is, w.waits-is) record {
            sides = inv.sides;
            sorting = sorting_past from to c.requires.arrows order placed waits at inv.sorting lt (rw side_is at none);
            ready = inv.ready;
          }
    ]

pub returns : goal.returns
returns c =
    let from : List ℕ = c.args.outs.now.ends.items in
    let to : List ℕ = c.args.ins.now.ends.items in
    let order : List ℕ = c.loop-at.queue.order.items in
    let placed : List Bool = c.loop-at.queue.placed.items in
    let waits : List ℕ = c.loop-at.waits.items in
    let inv = c.loop-at.invariant in
    let within = inv.sorting.within in
    let end : c.loop-at.at ≡ length order = omega arith in
    sorting_done from to c.requires.arrows order placed waits (rw end at inv.sorting) inv.ready
    (λ i i_lt. let i_in = c.args.outs.now.are.in_range i i_lt in omega (arith, inv.sides, c.requires.sides))
