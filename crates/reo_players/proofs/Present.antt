-- The present action of a component, and how it goes on from it.
use Rattle.std.proofs.Common.{◌≡◌, ◌∙◌, ◌+◌, ◌-◌, ◌^◌, ◌||◌, ◌&&◌, ℕ, Bool, true, false, not, cond, min, List, [], ◌∷◌, drop, Option, Some, None, refl, sym, ap, true≢false}
use Rattle.std.proofs.Math.Bool.{or-false}
use Rattle.std.specs.Prelude.{is_none, is_some, nat_eq}
use Rattle.std.specs.Option.{option_map_or}
use Rattle.reo_script.specs.declared.scripts.action.Action.{Action}
use Rattle.reo_rules.specs.Lists.{first_of}
use Rattle.reo_players.specs.declared.counter.Counter.{Counter}
use Rattle.reo_players.specs.declared.step.Step.TheVariants as steps
use Rattle.reo_players.specs.Written.{Task}
use Rattle.reo_players.specs.Counters.{rest_left, StandsUntil}
use Rattle.reo_players.specs.Players.{Player, bound_of, first_bound, one_more_seen, after_task, step_task}
use Rattle.reo_players.specs.Idle.{is_awake}
use Rattle.reo_players.proofs.Passed.{HasTask, some_task}

-- There is one until the component is done.
pub present_task : (done : Bool) (xs : List Action) (cs : List Counter) → StandsUntil done xs cs → done ≡ false → HasTask (rest_left done xs cs)
present_task true xs cs stands not_done = absurd (true≢false not_done)
present_task false xs cs stands not_done = some_task cs xs stands

pub done_is : (done : Bool) (xs : List Action) (cs : List Counter) → StandsUntil done xs cs → done ≡ is_none (first_of (rest_left done xs cs))
done_is true xs cs stands = refl
done_is false xs cs stands = sym (ap (λ ts. is_none (first_of ts)) (some_task cs xs stands).2)

-- Whether it is awake is seen by its bound.
pub done_asleep : (done : Bool) (xs : List Action) (cs : List Counter) (seen : ℕ) → done ≡ true → is_awake (record { rest = rest_left done xs cs; seen = seen }) ≡ false
done_asleep true xs cs seen is = refl
done_asleep false xs cs seen is = absurd (true≢false (sym is))

abbrev pub awake_by : Option ℕ → ℕ → Bool
awake_by None seen = not (nat_eq seen 1)
awake_by (Some n) seen = nat_eq seen 0

awake_at : (bound : Option ℕ) (seen : ℕ) → not ((not (is_some bound) && nat_eq seen 1) || (is_some bound && not (nat_eq seen 0))) ≡ awake_by bound seen
awake_at None seen = ap not (or-false (nat_eq seen 1))
awake_at (Some n) seen = elim (nat_eq seen 0) as (λ b. not (not b) ≡ b) [ true ↦ refl | false ↦ refl ]

pub awake_is : (rest : List Task) → HasTask rest → (bound : Option ℕ) (seen : ℕ) → bound ≡ first_bound rest → is_awake (record { rest = rest; seen = seen }) ≡ awake_by bound seen
awake_is [] has bound seen is = let some = has.2 in absurd cc
awake_is (t ∷ ts) has bound seen is = awake_at (bound_of t) seen ∙ ap (λ o. awake_by o seen) (sym is)

abbrev pub used_up : Option ℕ → ℕ → Bool
used_up bound seen = option_map_or (λ n. nat_eq (seen + 1) n) bound false

-- Where its offer flowed it goes to the next.
pub flows : (rest : List Task) → HasTask rest → (flowed : Bool) (seen : ℕ) → flowed ≡ true → after_task flowed seen rest ≡ record { rest = drop 1 rest; seen = 0 }
flows [] has flowed seen is = let some = has.2 in absurd cc
flows (t ∷ ts) has true seen is = refl
flows (t ∷ ts) has false seen is = absurd (true≢false (sym is))

pub flows_step : (rest : List Task) → HasTask rest → (flowed : Bool) (seen : ℕ) → flowed ≡ true → steps.Moved ≡ step_task flowed seen rest
flows_step [] has flowed seen is = let some = has.2 in absurd cc
flows_step (t ∷ ts) has true seen is = refl
flows_step (t ∷ ts) has false seen is = absurd (true≢false (sym is))

abbrev pub more_seen : Option ℕ → ℕ → ℕ
more_seen bound seen = cond (is_some bound) (min (seen + 1) (2 ^ 32 - 1)) 1

-- Where it did not, and its bound is not used up, it stays there.
pub stays : (rest : List Task) → HasTask rest → (flowed : Bool) (seen : ℕ) (bound : Option ℕ) → bound ≡ first_bound rest
    → flowed ≡ false → used_up bound seen ≡ false → after_task flowed seen rest ≡ record { rest = rest; seen = more_seen bound seen }
stays [] has flowed seen bound is still on = let some = has.2 in absurd cc
stays (t ∷ ts) has true seen bound is still on = absurd (true≢false still)
stays (t ∷ ts) has false seen bound is still on =
    let next : Player = record { rest = ts; seen = 0 } in
    let here : Player = record { rest = t ∷ ts; seen = one_more_seen t seen } in
    ap (λ b. cond b next here) (ap (λ o. used_up o seen) (sym is) ∙ on)
    ∙ ap (λ (o : Option ℕ). record { rest = t ∷ ts; seen = more_seen o seen }) (sym is)
