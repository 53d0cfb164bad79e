use Rattle.std.proofs.Common.{arith, ◌∙◌, sym, ap, ◌+◌, max, ◌∷◌, ◌++◌, [], take}
use Rattle.reo_players.specs.Counters.{levels_of, levels_within}
use Rattle.std.proofs.lemmas.List.{take_more}
use Rattle.reo_players.proofs.Bodies.{levels_more}
use Rattle.reo_players.proofs.Stands.{levels_at, read_at, one_up}
use Rattle.reo_players.proofs.Passed.{within_levels}
use Rattle.reo_players.proofs.counter.+levels.Goals as goal

pub levels-levels_with-requires : goal.levels-levels_with-requires
levels-levels_with-requires t c =
    let xs = c.args.actions.now in
    let a = c.action-item.result in
    (omega (arith, levels_at xs c.loop-action.action-index a (read_at xs c.loop-action.action-index a c.loop-action-test.true c.action-item.is)), tt)

pub levels-loop-action-preserved : goal.levels-loop-action-preserved
levels-loop-action-preserved t c =
    let xs = c.args.actions.now in
    let i = c.loop-action.action-index in
    let a = c.action-item.result in
    c.max-most.ensures ∙ (ap (λ m. max m c.in_ok-levels_with.field-0) c.loop-action.invariant
    ∙ (ap (λ n. max (levels_of (take i xs)) n) (c.in_ok-levels_with.ensures ∙ one_up (levels_within a)) ∙ sym (ap levels_of (take_more xs i a c.loop-action-test.true ∙ ap (λ x. take i xs ++ x ∷ []) (sym c.action-item.is)) ∙ levels_more (take i xs) a)))

pub levels_with-levels-requires : goal.levels_with-levels-requires
levels_with-levels-requires t c =
    (omega (arith, within_levels c.args.action.now c.in-Repeat.times c.in-Repeat.body c.as_slice.result.now c.in-Repeat.is c.as_slice.ensures), tt)

-- src/counter.rt:19:1
pub levels_with-returns-else-within : goal.levels_with-returns-else-within
levels_with-returns-else-within t c =
    ap (λ n. n + 1) (c.in_ok-within-in-Repeat.ensures ∙ sym (within_levels c.args.action.now c.in-Repeat.times c.in-Repeat.body c.as_slice.result.now c.in-Repeat.is c.as_slice.ensures))
