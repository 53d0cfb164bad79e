-- A component over rounds in which no offer of its flows.
use Rattle.std.proofs.Common.{ℕ, zero, suc, ◌+◌, ◌-◌, ◌^◌, ◌<◌, ◌≤◌, ◌≡◌, ◌==◌, Bool, true, false, cond, min, Option, Some, None, is_some, List, ◌∷◌, refl, ap, ◌∙◌, arith}
use Rattle.std.specs.Option.{option_map_or}
use Rattle.std.proofs.lemmas.Bool.{eq-eqb, ne_eqb}
use Rattle.std.proofs.Math.Nat.{min-eq_left}
use Rattle.reo_players.specs.declared.step.Step.TheVariants.{Stays}
use Rattle.reo_players.specs.Written.{Task}
use Rattle.reo_players.specs.Written.Task.{writes, takes, rests}
use Rattle.reo_players.specs.Players.{Player, after, step_of, counts, bound_of, runs_out, one_more_seen, ended}
use Rattle.reo_players.specs.player_laws.Waiting.{before, waited, LastsExactly, BoundsAreExact, Waits, WithoutBoundItWaits}

-- A component that has this task and others to do, and has seen so many rounds.
abbrev at : Task → List Task → ℕ → Player
at task tasks seen = record { rest = task ∷ tasks; seen = seen }

module _ (task : Task) (tasks : List Task) (rounds : ℕ) (bounded : bound_of task ≡ Some rounds) (few : rounds < 2 ^ 32) where
  early : (seen : ℕ) → seen + 1 < rounds → runs_out task seen ≡ false
  early seen h = ap (λ (b : Option ℕ). option_map_or (λ n. (seen + 1) == n) b false) bounded ∙ ne_eqb (seen + 1) rounds (λ e. omega (arith, e, h))

  late : (seen : ℕ) → seen + 1 ≡ rounds → runs_out task seen ≡ true
  late seen h = ap (λ (b : Option ℕ). option_map_or (λ n. (seen + 1) == n) b false) bounded ∙ eq-eqb (seen + 1) rounds h

  one_more : (seen : ℕ) → seen + 1 < rounds → one_more_seen task seen ≡ suc seen
  one_more seen h =
      let small : seen + 1 ≤ 2 ^ 32 - 1 = omega (arith, h, few) in
      ap (λ (b : Option ℕ). cond (is_some b) (min (seen + 1) (2 ^ 32 - 1)) 1) bounded ∙ min-eq_left small ∙ omega arith

  goes_on : (seen : ℕ) → seen + 1 < rounds → after false (at task tasks seen) ≡ at task tasks (suc seen)
  goes_on seen h =
      ap (λ (t : Bool). cond t (before tasks) (at task tasks (one_more_seen task seen))) (early seen h) ∙ ap (at task tasks) (one_more seen h)

  stands : (seen : ℕ) → seen < rounds → waited seen (before (task ∷ tasks)) ≡ at task tasks seen
  stands zero h = refl
  stands (suc seen) h = ap (after false) (stands seen (omega (arith, h))) ∙ goes_on seen (omega (arith, h))

  passed : (n : ℕ) → n ≡ rounds → 1 ≤ n → waited n (before (task ∷ tasks)) ≡ before tasks
  passed zero is some = absurd (omega (arith, some))
  passed (suc seen) is some =
      ap (after false) (stands seen (omega (arith, is)))
      ∙ ap (λ (t : Bool). cond t (before tasks) (at task tasks (one_more_seen task seen))) (late seen (omega (arith, is)))

  lasts : 1 ≤ rounds → LastsExactly rounds (ended task) task tasks
  lasts some = record {
    present = λ seen h. ap (λ (p : Player). p.rest) (stands seen h);
    counted = λ seen h. ap counts (stands seen h) ∙ ap (λ (b : Option ℕ). is_some b) bounded;
    stays = λ seen h. ap (step_of false) (stands seen (omega (arith, h))) ∙ ap (λ (t : Bool). cond t (ended task) Stays) (early seen h);
    ends = λ seen h. ap (step_of false) (stands seen (omega (arith, h))) ∙ ap (λ (t : Bool). cond t (ended task) Stays) (late seen h);
    next = passed rounds refl some;
  }

pub exact : BoundsAreExact
exact rounds tasks some few = record {
  write = λ port item. lasts (writes port item (Some rounds)) tasks rounds refl few some;
  take = λ port. lasts (takes port (Some rounds)) tasks rounds refl few some;
  pause = lasts (rests rounds) tasks rounds refl few some;
}

module _ (task : Task) (tasks : List Task) (unbounded : bound_of task ≡ None) where
  never : (seen : ℕ) → runs_out task seen ≡ false
  never seen = ap (λ (b : Option ℕ). option_map_or (λ n. (seen + 1) == n) b false) unbounded

  rests_as_it_is : (seen : ℕ) → (after false (at task tasks seen)).rest ≡ task ∷ tasks
  rests_as_it_is seen = ap (λ (t : Bool). (cond t (before tasks) (at task tasks (one_more_seen task seen))).rest) (never seen)

  -- Whatever it has seen.
  still : (p : Player) → p.rest ≡ task ∷ tasks → (after false p).rest ≡ task ∷ tasks
  still p is = ap (λ (r : List Task). (after false (record { rest = r; seen = p.seen })).rest) is ∙ rests_as_it_is p.seen

  present : (rounds : ℕ) → (waited rounds (before (task ∷ tasks))).rest ≡ task ∷ tasks
  present zero = refl
  present (suc rounds) = still (waited rounds (before (task ∷ tasks))) (present rounds)

  waits : (rounds : ℕ) → Waits task tasks rounds
  waits rounds =
      let p : Player = waited rounds (before (task ∷ tasks)) in
      record {
        present = present rounds;
        uncounted = ap (λ (r : List Task). counts (record { rest = r; seen = p.seen })) (present rounds) ∙ ap (λ (b : Option ℕ). is_some b) unbounded;
        stays = ap (λ (r : List Task). step_of false (record { rest = r; seen = p.seen })) (present rounds) ∙ ap (λ (t : Bool). cond t (ended task) Stays) (never p.seen);
      }

pub waiting : WithoutBoundItWaits
waiting tasks rounds = record { write = λ port item. waits (writes port item None) tasks refl rounds; take = λ port. waits (takes port None) tasks refl rounds }
