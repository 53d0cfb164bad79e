-- Components by their clocks.
use Rattle.std.proofs.Common.{◌≡◌, ◌≢◌, ◌∙◌, ◌||◌, ◌&&◌, inl, inr, ⊎_elim, ℕ, zero, suc, ◌+◌, ◌-◌, ◌^◌, ◌<◌, ◌≤◌, Bool, true, false, not, cond, min, List, [], ◌∷◌, length, map, set, get_or, replicate, Option, Some, None, refl, sym, ap, arith}
use Rattle.std.proofs.Math.Bool.{and-false, or-true}
use Rattle.std.specs.Prelude.{is_some, nat_eq, nat_lt}
use Rattle.std.specs.Option.{option_map, option_map_or}
use Rattle.std.proofs.lemmas.Bool.{cases_eq, or_cases, not-true, not-false, and_parts}
use Rattle.std.proofs.lemmas.Bool.Decides.{nat_tests}
use Rattle.std.proofs.lemmas.List.{ext_get_or, get_or-set_same, get_or-set_other, length-set}
use Rattle.reo_script.specs.declared.scripts.action.Component.{Component}
use Rattle.reo_players.specs.declared.pacing.Paced.{Paced}
use Rattle.reo_players.specs.Written.{Task}
use Rattle.reo_players.specs.Players.{Player, no_player, beginning_of, after, after_task, bound_of, counts, first_bound, one_more_seen}
use Rattle.reo_players.specs.Idle.{is_idle, waits, is_awake, is_last, is_left, marks_of}
use Rattle.reo_players.specs.Pacing.{later, paced_of, rounds_left, due_of, shown, clock_at, each_shown, player_in}
use Rattle.reo_players.proofs.Idling.{idle_stays, no_bound}

abbrev most : ℕ
most = 2 ^ 32 - 1

-- What stays while rounds are counted.
pub later_rest : (n : ℕ) (p : Player) → (later n p).rest ≡ p.rest
later_rest zero p = refl
later_rest (suc n) p = refl

counted : (b : Bool) (seen n : ℕ) → (b ≡ true → nat_eq seen 0 ≡ false) → nat_eq (cond b (min (seen + suc n) most) seen) 0 ≡ nat_eq seen 0
counted false seen n some = refl
counted true seen n some =
    let before : nat_eq seen 0 ≡ false = some refl in
    let now : nat_eq (min (seen + suc n) most) 0 ≡ false = grind (arith, nat_tests) in
    now ∙ sym before

pub later_fresh : (n : ℕ) (p : Player) → nat_eq (later n p).seen 0 ≡ nat_eq p.seen 0
later_fresh zero p = refl
later_fresh (suc n) p = counted (waits p) p.seen n (λ is. not-true (nat_eq p.seen 0) ((and_parts (counts p) (not (nat_eq p.seen 0)) is).1))

pub later_counts : (n : ℕ) (p : Player) → counts (later n p) ≡ counts p
later_counts n p = ap (λ (ts : List Task). is_some (first_bound ts)) (later_rest n p)

later_left : (n : ℕ) (p : Player) → is_left (later n p) ≡ is_left p
later_left n p = ap (λ (ts : List Task). is_left (record { rest = ts; seen = 0 })) (later_rest n p)

later_waits : (n : ℕ) (p : Player) → waits (later n p) ≡ waits p
later_waits n p = ap (λ b. b && not (nat_eq (later n p).seen 0)) (later_counts n p) ∙ ap (λ b. counts p && not b) (later_fresh n p)

-- One that does not wait stays as it is.
pub not_waiting : (n : ℕ) (p : Player) → waits p ≡ false → later n p ≡ p
not_waiting zero p idle = refl
not_waiting (suc n) p idle = ap (λ b. record { rest = p.rest; seen = cond b (min (p.seen + suc n) most) p.seen }) idle

awake_waiting : (p : Player) → waits p ≡ true → is_awake p ≡ false
awake_waiting p is = ap (λ b. not (is_idle p || b)) is ∙ ap not (or-true (is_idle p))

pub later_awake : (n : ℕ) (p : Player) → is_awake (later n p) ≡ is_awake p
later_awake n p =
    elim (waits p) as (λ b. waits p ≡ b → is_awake (later n p) ≡ is_awake p) [
      | true ↦ λ is. awake_waiting (later n p) (later_waits n p ∙ is) ∙ sym (awake_waiting p is)
      | false ↦ λ idle. ap is_awake (not_waiting n p idle)
    ] refl

-- A round more.
one_more : (seen m : ℕ) → min (min (seen + suc m) most + 1) most ≡ min (seen + suc (suc m)) most
one_more seen m = omega arith

more_by : (p : Player) (m : ℕ) (b : Bool) → waits p ≡ b → later 1 (later (suc m) p) ≡ later (suc (suc m)) p
more_by p m true is =
    let q : Player = later (suc m) p in
    let had : q.seen ≡ min (p.seen + suc m) most = ap (λ b. cond b (min (p.seen + suc m) most) p.seen) is in
    ap (λ (n : ℕ). record { rest = p.rest; seen = n })
    (ap (λ b. cond b (min (q.seen + 1) most) q.seen) (later_waits (suc m) p ∙ is)
    ∙ ap (λ (n : ℕ). min (n + 1) most) had ∙ one_more p.seen m
    ∙ sym (ap (λ b. cond b (min (p.seen + suc (suc m)) most) p.seen) is))
more_by p m false idle = ap (later 1) (not_waiting (suc m) p idle) ∙ not_waiting 1 p idle ∙ sym (not_waiting (suc (suc m)) p idle)

pub later_one : (n : ℕ) (p : Player) → later 1 (later n p) ≡ later (suc n) p
later_one zero p = refl
later_one (suc m) p = more_by p m (waits p) refl

-- A round in which nothing of it flows and its bound does not run out is one round later.
idle_waits : (rest : List Task) (seen : ℕ) → is_idle (record { rest = rest; seen = seen }) ≡ true → waits (record { rest = rest; seen = seen }) ≡ false
idle_waits [] seen idle = refl
idle_waits (t ∷ ts) seen idle = ap (λ b. b && not (nat_eq seen 0)) (not-true (is_some (bound_of t)) ((and_parts (not (is_some (bound_of t))) (nat_eq seen 1) idle).0))

waits_on : (rest : List Task) (seen : ℕ) → waits (record { rest = rest; seen = seen }) ≡ true → is_last (record { rest = rest; seen = seen }) ≡ false
    → after_task false seen rest ≡ later 1 (record { rest = rest; seen = seen })
waits_on [] seen waiting last = absurd cc
waits_on (t ∷ ts) seen waiting last =
    let bounded : is_some (bound_of t) ≡ true = (and_parts (is_some (bound_of t)) (not (nat_eq seen 0)) waiting).0 in
    let next : Player = record { rest = ts; seen = 0 } in
    let here : Player = record { rest = t ∷ ts; seen = one_more_seen t seen } in
    ap (λ b. cond b next here) last
    ∙ ap (λ b. record { rest = t ∷ ts; seen = cond b (min (seen + 1) most) 1 }) bounded
    ∙ sym (ap (λ b. record { rest = t ∷ ts; seen = cond b (min (seen + 1) most) seen }) waiting)

asleep_is : (p : Player) → is_awake p ≡ false → (is_idle p || waits p) ≡ true
asleep_is p asleep = not-false (is_idle p || waits p) asleep

pub goes_on : (p : Player) → is_awake p ≡ false → is_last p ≡ false → after false p ≡ later 1 p
goes_on p asleep last =
    ⊎_elim (λ idle. idle_stays p idle ∙ sym (not_waiting 1 p (idle_waits p.rest p.seen idle))) (λ waiting. waits_on p.rest p.seen waiting last)
    (or_cases (is_idle p) (waits p) (asleep_is p asleep))

-- It is gone to in the round in which its bound runs out.
seen_by : (n : ℕ) (p : Player) → (later n p).seen ≤ p.seen + n
seen_by zero p = omega arith
seen_by (suc n) p =
    elim (waits p) as (λ b. cond b (min (p.seen + suc n) most) p.seen ≤ p.seen + suc n) [
      | true ↦ omega arith
      | false ↦ omega arith
    ]

abbrev due_by : Option ℕ → ℕ → ℕ → ℕ
due_by bound seen as_of = option_map_or (λ n. min (as_of + n) (2 ^ 64 - 2)) (cond (nat_eq seen 0) None (option_map (λ n. n - seen) bound)) (2 ^ 64 - 1)

not_yet : (bound : Option ℕ) (seen now as_of clock : ℕ) → (is_some bound && not (nat_eq seen 0)) ≡ true → now ≤ seen + (clock - as_of) → as_of ≤ clock → clock + 1 < due_by bound seen as_of
    → option_map_or (λ n. nat_eq (now + 1) n) bound false ≡ false
not_yet None seen now as_of clock waiting by behind due = absurd cc
not_yet (Some n) seen now as_of clock waiting by behind due =
    let some : nat_eq seen 0 ≡ false = not-true (nat_eq seen 0) waiting in
    let at : due_by (Some n) seen as_of ≡ min (as_of + (n - seen)) (2 ^ 64 - 2) = ap (λ b. option_map_or (λ n. min (as_of + n) (2 ^ 64 - 2)) (cond b None (Some (n - seen))) (2 ^ 64 - 1)) some in
    let less : now + 1 < n = omega (arith, at) in
    grind (arith, nat_tests)

idle_last : (rest : List Task) (seen now : ℕ) → is_idle (record { rest = rest; seen = seen }) ≡ true → option_map_or (λ n. nat_eq (now + 1) n) (first_bound rest) false ≡ false
idle_last [] seen now idle = refl
idle_last (t ∷ ts) seen now idle =
    ap (λ (o : Option ℕ). option_map_or (λ n. nat_eq (now + 1) n) o false)
    (no_bound (bound_of t) (not-true (is_some (bound_of t)) ((and_parts (not (is_some (bound_of t))) (nat_eq seen 1) idle).0)))

pub not_last : (x : Paced) (clock : ℕ) → x.as_of ≤ clock → is_awake x.player ≡ false → clock + 1 < due_of x → is_last (shown clock x) ≡ false
not_last x clock behind asleep due =
    let now : ℕ = (shown clock x).seen in
    ap (λ (ts : List Task). option_map_or (λ n. nat_eq (now + 1) n) (first_bound ts) false) (later_rest (clock - x.as_of) x.player)
    ∙ ⊎_elim (λ idle. idle_last x.player.rest x.player.seen now idle)
    (λ waiting. not_yet (first_bound x.player.rest) x.player.seen now x.as_of clock waiting (seen_by (clock - x.as_of) x.player) behind due)
    (or_cases (is_idle x.player) (waits x.player) (asleep_is x.player asleep))

due_some : (bound : Option ℕ) (fresh : Bool) (seen as_of : ℕ) → option_map_or (λ n. min (as_of + n) (2 ^ 64 - 2)) (cond fresh None (option_map (λ n. n - seen) bound)) (2 ^ 64 - 1) < 2 ^ 64 - 1 → is_some bound ≡ true
due_some bound true seen as_of lt = absurd (omega arith)
due_some None false seen as_of lt = absurd (omega arith)
due_some (Some n) false seen as_of lt = refl

-- Only one that counts is ever due.
due_by_fits : (o : Option ℕ) (as_of : ℕ) → option_map_or (λ n. min (as_of + n) (2 ^ 64 - 2)) o (2 ^ 64 - 1) ≤ 2 ^ 64 - 1
due_by_fits None as_of = omega arith
due_by_fits (Some n) as_of = omega arith

pub due_fits : (x : Paced) → due_of x ≤ 2 ^ 64 - 1
due_fits x = due_by_fits (rounds_left x.player) x.as_of

pub due_counts : (x : Paced) → due_of x < 2 ^ 64 - 1 → counts x.player ≡ true
due_counts x lt = due_some (first_bound x.player.rest) (nat_eq x.player.seen 0) x.player.seen x.as_of lt

never_before : (bound : Option ℕ) (seen as_of : ℕ) → (is_some bound && not (nat_eq seen 0)) ≡ true → due_by bound seen as_of ≤ 2 ^ 64 - 2
never_before None seen as_of waiting = absurd cc
never_before (Some n) seen as_of waiting =
    let some : nat_eq seen 0 ≡ false = not-true (nat_eq seen 0) waiting in
    let at : due_by (Some n) seen as_of ≡ min (as_of + (n - seen)) (2 ^ 64 - 2) = ap (λ b. option_map_or (λ n. min (as_of + n) (2 ^ 64 - 2)) (cond b None (Some (n - seen))) (2 ^ 64 - 1)) some in
    omega (arith, at)

-- Where it is never due, its bound does not run out.
pub never_last : (x : Paced) (clock : ℕ) → is_awake x.player ≡ false → due_of x ≡ 2 ^ 64 - 1 → is_last (shown clock x) ≡ false
never_last x clock asleep never =
    let now : ℕ = (shown clock x).seen in
    ap (λ (ts : List Task). option_map_or (λ n. nat_eq (now + 1) n) (first_bound ts) false) (later_rest (clock - x.as_of) x.player)
    ∙ ⊎_elim (λ idle. idle_last x.player.rest x.player.seen now idle)
    (λ waiting. let soon = never_before (first_bound x.player.rest) x.player.seen x.as_of waiting in absurd (omega (arith, soon, never)))
    (or_cases (is_idle x.player) (waits x.player) (asleep_is x.player asleep))

no_due : (bound : Option ℕ) (fresh : Bool) (seen as_of : ℕ) → is_some bound ≡ false → option_map_or (λ n. min (as_of + n) (2 ^ 64 - 2)) (cond fresh None (option_map (λ n. n - seen) bound)) (2 ^ 64 - 1) ≡ 2 ^ 64 - 1
no_due None true seen as_of without = refl
no_due None false seen as_of without = refl
no_due (Some n) fresh seen as_of without = absurd cc

-- Nor is one ever due that does not count.
pub uncounted_due : (x : Paced) → counts x.player ≡ false → due_of x ≡ 2 ^ 64 - 1
uncounted_due x without = no_due (first_bound x.player.rest) (nat_eq x.player.seen 0) x.player.seen x.as_of without

pub never_due : (x : Paced) → nat_eq x.player.seen 0 ≡ true → due_of x ≡ 2 ^ 64 - 1
never_due x fresh = ap (λ b. option_map_or (λ n. min (x.as_of + n) (2 ^ 64 - 2)) (cond b None (option_map (λ n. n - x.player.seen) (first_bound x.player.rest))) (2 ^ 64 - 1)) fresh

-- All by their clocks.
pub length-shown : (clock : ℕ → ℕ) (xs : List Paced) → length (each_shown clock xs) ≡ length xs
length-shown clock [] = refl
length-shown clock (x ∷ xs) = ap suc (length-shown (λ i. clock (suc i)) xs)

pub at-shown : (clock : ℕ → ℕ) (xs : List Paced) (i : ℕ) (d : Player) (e : Paced) → i < length xs → get_or (each_shown clock xs) i d ≡ shown (clock i) (get_or xs i e)
at-shown clock [] i d e lt = absurd (omega arith)
at-shown clock (x ∷ xs) zero d e lt = refl
at-shown clock (x ∷ xs) (suc i) d e lt = at-shown (λ i. clock (suc i)) xs i d e (omega arith)

pub map-shown : {X : Type 0} (f : Player → X) → ((n : ℕ) (p : Player) → f (later n p) ≡ f p) → (clock : ℕ → ℕ) (xs : List Paced) → map f (each_shown clock xs) ≡ map f (map player_in xs)
map-shown f stays clock [] = refl
map-shown f stays clock (x ∷ xs) = λ i. stays (clock 0 - x.as_of) x.player i ∷ map-shown f stays (λ i. clock (suc i)) xs i

pub marks-shown : (clock : ℕ → ℕ) (xs : List Paced) → marks_of (each_shown clock xs) ≡ marks_of (map player_in xs)
marks-shown clock xs =
    let a = map-shown is_awake later_awake clock xs in
    let b = map-shown counts later_counts clock xs in
    let c = map-shown is_left later_left clock xs in
    λ i. record { awake = a i; counting = b i; left = c i }

pub same-shown : (clock other : ℕ → ℕ) (xs : List Paced) → ((i : ℕ) → i < length xs → clock i ≡ other i) → each_shown clock xs ≡ each_shown other xs
same-shown clock other [] same = refl
same-shown clock other (x ∷ xs) same =
    λ i. shown (same 0 (omega arith) i) x ∷ same-shown (λ i. clock (suc i)) (λ i. other (suc i)) xs (λ i lt. same (suc i) (omega arith)) i

-- One has changed, and no other's clock.
pub set-shown : (clock other : ℕ → ℕ) (xs : List Paced) (i : ℕ) (x : Paced) → i < length xs → ((j : ℕ) → j ≢ i → other j ≡ clock j) → each_shown other (set xs i x) ≡ set (each_shown clock xs) i (shown (other i) x)
set-shown clock other xs i x lt same =
    let q : Player = shown (other i) x in
    let long = length-set xs i x in
    ext_get_or no_player (each_shown other (set xs i x)) (set (each_shown clock xs) i q)
    (length-shown other (set xs i x) ∙ long ∙ sym (length-shown clock xs) ∙ sym (length-set (each_shown clock xs) i q))
    (λ j j_lt.
    let inside : j < length (set xs i x) = omega (arith, length-shown other (set xs i x)) in
    let within : j < length xs = omega (arith, long) in
    at-shown other (set xs i x) j no_player x inside
    ∙ elim (cases_eq j i) [
      | inl is ↦
          ap (λ (k : ℕ). shown (other k) (get_or (set xs i x) k x)) is ∙ ap (shown (other i)) (get_or-set_same xs i x x lt)
          ∙ sym (ap (λ (k : ℕ). get_or (set (each_shown clock xs) i q) k no_player) is ∙ get_or-set_same (each_shown clock xs) i q no_player (omega (arith, length-shown clock xs)))
      | inr ne ↦
          ap (λ (k : ℕ). shown k (get_or (set xs i x) j x)) (same j ne) ∙ ap (shown (clock j)) (get_or-set_other xs i j x x ne)
          ∙ sym (get_or-set_other (each_shown clock xs) i j q no_player ne ∙ at-shown clock xs j no_player x within)
    ])

-- At their first actions.
pub first-shown : (clock : ℕ → ℕ) (cs : List Component) → each_shown clock (map paced_of cs) ≡ map beginning_of cs
first-shown clock [] = refl
first-shown clock (c ∷ cs) = λ i. not_waiting (clock 0 - 0) (beginning_of c) (and-false (counts (beginning_of c))) i ∷ first-shown (λ i. clock (suc i)) cs i

pub first-due : (cs : List Component) → replicate (length (map paced_of cs)) (2 ^ 64 - 1) ≡ map due_of (map paced_of cs)
first-due [] = refl
first-due (c ∷ cs) = λ i. sym (never_due (paced_of c) refl) i ∷ first-due cs i

pub first-time : (cs : List Component) (i : ℕ) (d : Paced) → i < length (map paced_of cs) → (get_or (map paced_of cs) i d).as_of ≡ 0
first-time [] i d lt = absurd (omega arith)
first-time (c ∷ cs) zero d lt = refl
first-time (c ∷ cs) (suc i) d lt = first-time cs i d (omega arith)

-- The clocks of a round.
pub ahead : (clock passed i : ℕ) → i < passed → clock_at clock passed i ≡ clock + 1
ahead clock passed i lt = let is : nat_lt i passed ≡ true = grind (arith, nat_tests) in ap (λ b. cond b (clock + 1) clock) is

pub not_ahead : (clock passed i : ℕ) → passed ≤ i → clock_at clock passed i ≡ clock
not_ahead clock passed i le = let is : nat_lt i passed ≡ false = grind (arith, nat_tests) in ap (λ b. cond b (clock + 1) clock) is

pub one_passed : (clock passed i : ℕ) → i ≢ passed → clock_at clock (passed + 1) i ≡ clock_at clock passed i
one_passed clock passed i ne =
    elim (cases_eq (i - passed) 0) [
      | inl le ↦ let lt : i < passed = omega arith in ahead clock (passed + 1) i (omega arith) ∙ sym (ahead clock passed i lt)
      | inr gt ↦ not_ahead clock (passed + 1) i (omega arith) ∙ sym (not_ahead clock passed i (omega arith))
    ]

pub at_most_one : (clock passed i : ℕ) → clock_at clock passed i ≤ clock + 1
at_most_one clock passed i = elim (nat_lt i passed) as (λ b. cond b (clock + 1) clock ≤ clock + 1) [ true ↦ omega arith | false ↦ omega arith ]

pub at_least : (clock passed i : ℕ) → clock ≤ clock_at clock passed i
at_least clock passed i = elim (nat_lt i passed) as (λ b. clock ≤ cond b (clock + 1) clock) [ true ↦ omega arith | false ↦ omega arith ]
