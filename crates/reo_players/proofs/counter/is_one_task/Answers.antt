-- One action that is no repeat.
use Rattle.std.proofs.Common.{rules, ◌≡◌, IsSome, List, arith, length}
use Rattle.reo_script.specs.declared.scripts.action.Action.{Action}
use Rattle.reo_players.specs.Counters.{task_of}
use Rattle.reo_players.proofs.Passed.{one_alone, single}
use Rattle.reo_players.proofs.counter.is_one_task.Goals as goal

pub returns-in-Write : goal.returns-in-Write
returns-in-Write c = λ _.
    let xs : List Action = c.args.actions.now in
    let a = c.index-actions-0.result in
    let one : length xs ≡ 1 = omega (arith, c.if-actions-ne1.false) in
    let some : IsSome (task_of a) = search rules in
    one_alone xs a (single xs a one c.index-actions-0.is) some

pub returns-in-Write-2 : goal.returns-in-Write-2
returns-in-Write-2 c = λ _.
    let xs : List Action = c.args.actions.now in
    let a = c.index-actions-0.result in
    let one : length xs ≡ 1 = omega (arith, c.if-actions-ne1.false) in
    let some : IsSome (task_of a) = search rules in
    one_alone xs a (single xs a one c.index-actions-0.is) some

pub returns-in-Write-3 : goal.returns-in-Write-3
returns-in-Write-3 c = λ _.
    let xs : List Action = c.args.actions.now in
    let a = c.index-actions-0.result in
    let one : length xs ≡ 1 = omega (arith, c.if-actions-ne1.false) in
    let some : IsSome (task_of a) = search rules in
    one_alone xs a (single xs a one c.index-actions-0.is) some
