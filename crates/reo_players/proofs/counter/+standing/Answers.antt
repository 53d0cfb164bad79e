use Rattle.std.proofs.Common.{rules, arith, ◌∙◌, subst, IsSome, ◌∷◌}
use Rattle.reo_players.specs.Counters.{Stands, task_of}
use Rattle.reo_players.proofs.Stands.{read_at, stands_of}
use Rattle.reo_players.proofs.Passed.{stands_place, stands_within, first_of_place, first_of_body, first_of_task}
use Rattle.reo_players.proofs.counter.+standing.Goals as goal

-- src/counter.rt:145:40
pub standing-requires : goal.standing-requires
standing-requires t c =
    let xs = c.args.actions.now in
    let a = c.index-actions-here.result in
    let here = c.in-Some.here.now in
    let inner = c.in-Some.inner.now in
    let stood : Stands xs (here ∷ inner) = subst (Stands xs) c.in-Some.ensures.cases.0 c.requires.stands in
    let at = read_at xs here.place a (stands_place xs here inner stood) c.index-actions-here.is in
    (omega (arith, c.in-Some.ensures.cases.1), stands_within a c.in-Repeat.times c.in-Repeat.body c.as_slice.result.now c.in-Repeat.is c.as_slice.ensures inner (stands_of xs here inner a at stood))

-- src/counter.rt:135:1
pub returns-in-Repeat-clause-first : goal.returns-in-Repeat-clause-first
returns-in-Repeat-clause-first t c =
    let xs = c.args.actions.now in
    let a = c.index-actions-here.result in
    let here = c.in-Some.here.now in
    let inner = c.in-Some.inner.now in
    let stood : Stands xs (here ∷ inner) = subst (Stands xs) c.in-Some.ensures.cases.0 c.requires.stands in
    let at = read_at xs here.place a (stands_place xs here inner stood) c.index-actions-here.is in
    let within = stands_within a c.in-Repeat.times c.in-Repeat.body c.as_slice.result.now c.in-Repeat.is c.as_slice.ensures inner (stands_of xs here inner a at stood) in
    first_of_place xs c.args.counters.now here inner a c.in-Some.ensures.cases.0 at c.requires.stands
    ∙ (first_of_body a c.in-Repeat.times c.in-Repeat.body c.as_slice.result.now c.in-Repeat.is c.as_slice.ensures here inner within ∙ c.standing.ensures.first)

-- src/counter.rt:135:1
pub returns-in-Write-clause-first : goal.returns-in-Write-clause-first
returns-in-Write-clause-first t c =
    let xs = c.args.actions.now in
    let a = c.index-actions-here.result in
    let here = c.in-Some.here.now in
    let inner = c.in-Some.inner.now in
    let stood : Stands xs (here ∷ inner) = subst (Stands xs) c.in-Some.ensures.cases.0 c.requires.stands in
    let at = read_at xs here.place a (stands_place xs here inner stood) c.index-actions-here.is in
    let some : IsSome (task_of a) = search rules in
    first_of_place xs c.args.counters.now here inner a c.in-Some.ensures.cases.0 at c.requires.stands ∙ first_of_task a here inner some

-- src/counter.rt:135:1
pub returns-in-Write-2-clause-first : goal.returns-in-Write-2-clause-first
returns-in-Write-2-clause-first t c =
    let xs = c.args.actions.now in
    let a = c.index-actions-here.result in
    let here = c.in-Some.here.now in
    let inner = c.in-Some.inner.now in
    let stood : Stands xs (here ∷ inner) = subst (Stands xs) c.in-Some.ensures.cases.0 c.requires.stands in
    let at = read_at xs here.place a (stands_place xs here inner stood) c.index-actions-here.is in
    let some : IsSome (task_of a) = search rules in
    first_of_place xs c.args.counters.now here inner a c.in-Some.ensures.cases.0 at c.requires.stands ∙ first_of_task a here inner some

-- src/counter.rt:135:1
pub returns-in-Write-3-clause-first : goal.returns-in-Write-3-clause-first
returns-in-Write-3-clause-first t c =
    let xs = c.args.actions.now in
    let a = c.index-actions-here.result in
    let here = c.in-Some.here.now in
    let inner = c.in-Some.inner.now in
    let stood : Stands xs (here ∷ inner) = subst (Stands xs) c.in-Some.ensures.cases.0 c.requires.stands in
    let at = read_at xs here.place a (stands_place xs here inner stood) c.index-actions-here.is in
    let some : IsSome (task_of a) = search rules in
    first_of_place xs c.args.counters.now here inner a c.in-Some.ensures.cases.0 at c.requires.stands ∙ first_of_task a here inner some
