use Rattle.std.proofs.Common.{arith, ◌∙◌, sym, ap, subst, refl, ◌≡◌, ◌≤◌, length, drop, suc, ◌+◌, ◌-◌, ◌∷◌}
use Rattle.std.specs.List.{flat_map}
use Rattle.std.proofs.lemmas.List.{drop_all}
use Rattle.reo_players.specs.Written.{written}
use Rattle.reo_players.specs.Counters.{Stands, PassedOn, PassedWithin}
use Rattle.reo_players.proofs.Stands.{levels_at, live_at, read_at, stands_of}
use Rattle.reo_players.proofs.Passed.{within_some, within_live, within_levels, stands_within, went_on, ended, began_again, stands_place, passed_on, passed_last}
use Rattle.reo_players.proofs.counter.+pass.Goals as goal

-- src/counter.rt:111:8
pub pass-pass_within-requires : goal.pass-pass_within-requires
pass-pass_within-requires t c =
    let xs = c.args.actions.now in
    let a = c.index-actions-place.result in
    let here = c.in-Some.here.now in
    let stood : Stands xs (here ∷ c.in-Some.inner.now) = subst (Stands xs) c.in-Some.ensures.cases.0 c.requires.stands in
    let at = read_at xs here.place a (stands_place xs here c.in-Some.inner.now stood) c.index-actions-place.is in (
      omega (arith, levels_at xs here.place a at),
      (stands_of xs here c.in-Some.inner.now a at stood, (live_at xs here.place a at c.requires.live, omega (arith, levels_at xs here.place a at, c.requires.room, c.in-Some.ensures.cases.1))),
    )

-- src/counter.rt:112:9
pub pass-returns-then-pass_within-clause-passed : goal.pass-returns-then-pass_within-clause-passed
pass-returns-then-pass_within-clause-passed t c =
    let xs = c.args.actions.now in
    let a = c.index-actions-place.result in
    let here = c.in-Some.here.now in
    let stood : Stands xs (here ∷ c.in-Some.inner.now) = subst (Stands xs) c.in-Some.ensures.cases.0 c.requires.stands in
    let at = read_at xs here.place a (stands_place xs here c.in-Some.inner.now stood) c.index-actions-place.is in
    passed_on xs c.args.counters.now here c.pass_within.new.here c.in-Some.inner.now c.pass_within.new.inner a c.in-Some.ensures.cases.0 at stood
    (subst (λ b. PassedWithin b a here c.pass_within.new.here c.in-Some.inner.now c.pass_within.new.inner) c.if-pass_within.true c.pass_within.ensures.passed)

-- src/counter.rt:84:16
pub pass_within-pass_body-requires : goal.pass_within-pass_body-requires
pass_within-pass_body-requires t c =
    let a = c.args.action.now in
    let xs = c.as_slice-body.result.now in
    let levels = within_levels a c.in-Repeat.times c.in-Repeat.body xs c.in-Repeat.is c.as_slice-body.ensures in (
      omega (arith, levels),
      (
        stands_within a c.in-Repeat.times c.in-Repeat.body xs c.in-Repeat.is c.as_slice-body.ensures c.args.inner.now c.requires.stands,
        (
          within_live a c.in-Repeat.times c.in-Repeat.body xs c.in-Repeat.is c.as_slice-body.ensures c.requires.live,
          subst (λ n. n ≤ length c.args.inner.now) levels c.requires.room,
        ),
      ),
    )

-- src/counter.rt:85:17
pub pass_within-returns-then-pass_body-clause-passed : goal.pass_within-returns-then-pass_body-clause-passed
pass_within-returns-then-pass_body-clause-passed t c =
    let a = c.args.action.now in
    let xs = c.as_slice-body.result.now in
    went_on a c.in-Repeat.times c.in-Repeat.body xs c.in-Repeat.is c.as_slice-body.ensures c.args.here.now c.args.inner.now c.pass_body.new.counters
    (stands_within a c.in-Repeat.times c.in-Repeat.body xs c.in-Repeat.is c.as_slice-body.ensures c.args.inner.now c.requires.stands)
    (subst (λ b. PassedOn b xs c.args.inner.now c.pass_body.new.counters) c.if-pass_body.true c.pass_body.ensures.passed)

-- src/counter.rt:88:17
pub pass_within-returns-then-here-eq0-clause-passed :
    goal.pass_within-returns-then-here-eq0-clause-passed
pass_within-returns-then-here-eq0-clause-passed t c =
    let a = c.args.action.now in
    let xs = c.as_slice-body.result.now in
    ended a c.in-Repeat.times c.in-Repeat.body xs c.in-Repeat.is c.as_slice-body.ensures c.args.here.now c.args.inner.now c.pass_body.new.counters
    (stands_within a c.in-Repeat.times c.in-Repeat.body xs c.in-Repeat.is c.as_slice-body.ensures c.args.inner.now c.requires.stands)
    (subst (λ b. PassedOn b xs c.args.inner.now c.pass_body.new.counters) c.if-pass_body.false c.pass_body.ensures.passed)
    c.if-here-eq0.true

-- src/counter.rt:91:13
pub pass_within-stand_at-requires-clause-there : goal.pass_within-stand_at-requires-clause-there
pass_within-stand_at-requires-clause-there t c =
    within_some c.args.action.now c.in-Repeat.times c.in-Repeat.body c.as_slice-body.result.now c.in-Repeat.is c.as_slice-body.ensures c.requires.live

-- src/counter.rt:91:13
pub pass_within-stand_at-requires-clause-live : goal.pass_within-stand_at-requires-clause-live
pass_within-stand_at-requires-clause-live t c =
    within_live c.args.action.now c.in-Repeat.times c.in-Repeat.body c.as_slice-body.result.now c.in-Repeat.is c.as_slice-body.ensures c.requires.live

-- src/counter.rt:91:13
pub pass_within-stand_at-requires-clause-room : goal.pass_within-stand_at-requires-clause-room
pass_within-stand_at-requires-clause-room t c =
    omega (arith, within_levels c.args.action.now c.in-Repeat.times c.in-Repeat.body c.as_slice-body.result.now c.in-Repeat.is c.as_slice-body.ensures, c.requires.room, c.pass_body.ensures.same)

-- src/counter.rt:73:1
pub pass_within-returns-else-here-eq0-clause-passed :
    goal.pass_within-returns-else-here-eq0-clause-passed
pass_within-returns-else-here-eq0-clause-passed t c =
    let a = c.args.action.now in
    let xs = c.as_slice-body.result.now in
    began_again a c.in-Repeat.times c.in-Repeat.body xs c.in-Repeat.is c.as_slice-body.ensures c.args.here.now
    (record { place = c.args.here.now.place; left = c.args.here.now.left - 1 }) c.args.inner.now c.pass_body.new.counters c.stand_at.new.counters
    (stands_within a c.in-Repeat.times c.in-Repeat.body xs c.in-Repeat.is c.as_slice-body.ensures c.args.inner.now c.requires.stands)
    (subst (λ b. PassedOn b xs c.args.inner.now c.pass_body.new.counters) c.if-pass_body.false c.pass_body.ensures.passed)
    (omega (arith, c.if-here-eq0.false)) refl refl c.stand_at.ensures.stands c.stand_at.ensures.rest

-- src/counter.rt:116:9
pub pass-returns-then-place-count-clause-passed : goal.pass-returns-then-place-count-clause-passed
pass-returns-then-place-count-clause-passed t c =
    let xs = c.args.actions.now in
    let a = c.index-actions-place.result in
    let here = c.in-Some.here.now in
    let stood : Stands xs (here ∷ c.in-Some.inner.now) = subst (Stands xs) c.in-Some.ensures.cases.0 c.requires.stands in
    let at = read_at xs here.place a (stands_place xs here c.in-Some.inner.now stood) c.index-actions-place.is in
    let was = passed_last xs c.args.counters.now here c.pass_within.new.here c.in-Some.inner.now c.pass_within.new.inner a c.in-Some.ensures.cases.0 at stood
    (subst (λ b. PassedWithin b a here c.pass_within.new.here c.in-Some.inner.now c.pass_within.new.inner) c.if-pass_within.false c.pass_within.ensures.passed) in
    was ∙ ap (flat_map written) (drop_all (suc here.place) xs (omega (arith, c.if-place-count.true)))

-- src/counter.rt:118:33
pub pass-overflow_add-place-2 : goal.pass-overflow_add-place-2
pass-overflow_add-place-2 t c =
    let stood : Stands c.args.actions.now (c.in-Some.here.now ∷ c.in-Some.inner.now) = subst (Stands c.args.actions.now) c.in-Some.ensures.cases.0 c.requires.stands in
    let lt = stands_place c.args.actions.now c.in-Some.here.now c.in-Some.inner.now stood in
    grind (arith, lt, c.well_formed.0.0)

-- src/counter.rt:118:5
pub pass-stand_at-requires-clause-there : goal.pass-stand_at-requires-clause-there
pass-stand_at-requires-clause-there t c =
    let stood : Stands c.args.actions.now (c.in-Some.here.now ∷ c.in-Some.inner.now) = subst (Stands c.args.actions.now) c.in-Some.ensures.cases.0 c.requires.stands in
    omega (arith, stands_place c.args.actions.now c.in-Some.here.now c.in-Some.inner.now stood, c.if-place-count.false)

-- src/counter.rt:99:1
pub pass-returns-clause-passed : goal.pass-returns-clause-passed
pass-returns-clause-passed t c =
    let xs = c.args.actions.now in
    let a = c.index-actions-place.result in
    let here = c.in-Some.here.now in
    let stood : Stands xs (here ∷ c.in-Some.inner.now) = subst (Stands xs) c.in-Some.ensures.cases.0 c.requires.stands in
    let at = read_at xs here.place a (stands_place xs here c.in-Some.inner.now stood) c.index-actions-place.is in
    let was = passed_last xs c.args.counters.now here c.pass_within.new.here c.in-Some.inner.now c.pass_within.new.inner a c.in-Some.ensures.cases.0 at stood
    (subst (λ b. PassedWithin b a here c.pass_within.new.here c.in-Some.inner.now c.pass_within.new.inner) c.if-pass_within.false c.pass_within.ensures.passed) in
    let one : here.place + 1 ≡ suc here.place = omega arith in
    (c.stand_at.ensures.stands, c.stand_at.ensures.rest ∙ (ap (λ p. flat_map written (drop p xs)) one ∙ sym was))
