use Rattle.std.proofs.Common.{◌≤◌, length, ◌-◌}
use Rattle.std.specs.List.{slice_get}
use Rattle.std.proofs.Common.{arith, ◌∙◌, ap, subst, refl}
use Rattle.reo_players.proofs.Passed.{within_some, within_live, within_levels, within_stands, within_rest}
use Rattle.reo_players.proofs.Stands.{levels_at, levels_some, live_at, read_at, stands_by, rest_from}
use Rattle.reo_players.proofs.counter.+stand.Goals as goal

-- src/counter.rt:66:9
pub stand_at-unreachable-requires : goal.stand_at-unreachable-requires
stand_at-unreachable-requires t c = omega (arith, levels_some c.args.actions.now c.args.place c.requires.there, c.requires.room, c.in_default.ensures.cases)

-- src/counter.rt:69:5
pub stand_at-stand_within-requires : goal.stand_at-stand_within-requires
stand_at-stand_within-requires t c =
    let xs = c.args.actions.now in
    let a = c.index-actions-place.result in
    let here = read_at xs c.args.place a c.requires.there c.index-actions-place.is in
    (omega (arith, levels_at xs c.args.place a here), (live_at xs c.args.place a here c.requires.live, omega (arith, levels_at xs c.args.place a here, c.requires.room, c.in-Some.ensures.cases.1)))

-- src/counter.rt:56:1
pub stand_at-returns-clause-stands : goal.stand_at-returns-clause-stands
stand_at-returns-clause-stands t c =
    let xs = c.args.actions.now in
    let a = c.index-actions-place.result in
    let here = read_at xs c.args.place a c.requires.there c.index-actions-place.is in
    stands_by xs c.stand_within.new.here _ a (ap (λ p. slice_get xs p) c.stand_within.ensures.place ∙ here) c.stand_within.ensures.stands

-- src/counter.rt:56:1
pub stand_at-returns-clause-rest : goal.stand_at-returns-clause-rest
stand_at-returns-clause-rest t c =
    let xs = c.args.actions.now in
    let a = c.index-actions-place.result in
    let here = read_at xs c.args.place a c.requires.there c.index-actions-place.is in
    rest_from xs c.stand_within.new.here _ a c.args.place c.stand_within.ensures.place here c.stand_within.ensures.rest

-- src/counter.rt:49:13
pub stand_within-stand_at-requires : goal.stand_within-stand_at-requires
stand_within-stand_at-requires t c =
    let a = c.args.action.now in
    let xs = c.as_slice.result.now in (
      omega (arith, within_levels a c.in-Repeat.times c.in-Repeat.body xs c.in-Repeat.is c.as_slice.ensures),
      (
        within_some a c.in-Repeat.times c.in-Repeat.body xs c.in-Repeat.is c.as_slice.ensures c.requires.live,
        (
          within_live a c.in-Repeat.times c.in-Repeat.body xs c.in-Repeat.is c.as_slice.ensures c.requires.live,
          subst (λ n. n ≤ length c.args.inner.now) (within_levels a c.in-Repeat.times c.in-Repeat.body xs c.in-Repeat.is c.as_slice.ensures) c.requires.room,
        ),
      ),
    )

-- src/counter.rt:37:1
pub stand_within-returns-in-Repeat-clause-stands :
    goal.stand_within-returns-in-Repeat-clause-stands
stand_within-returns-in-Repeat-clause-stands t c =
    within_stands c.args.action.now c.in-Repeat.times c.in-Repeat.body c.as_slice.result.now c.in-Repeat.is c.as_slice.ensures c.stand_at.new.counters c.stand_at.ensures.stands

-- src/counter.rt:37:1
pub stand_within-returns-in-Repeat-clause-rest : goal.stand_within-returns-in-Repeat-clause-rest
stand_within-returns-in-Repeat-clause-rest t c =
    within_rest c.args.action.now c.in-Repeat.times c.in-Repeat.body c.as_slice.result.now c.in-Repeat.is c.as_slice.ensures
    (record { place = c.args.here.now.place; left = c.in-Repeat.times - 1 }) c.stand_at.new.counters c.requires.live refl c.stand_at.ensures.rest
