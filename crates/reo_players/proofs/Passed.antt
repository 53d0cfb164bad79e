-- Standing at the first task of a repeat, and going past a task in it.
use Rattle.std.proofs.Common.{◌≡◌, ◌∙◌, ℕ, zero, suc, true, false, ◌-◌, ◌<◌, List, [], ◌∷◌, ◌++◌, length, drop, flat_map, slice_get, Some, None, Option, refl, sym, ap, subst, ⊎_elim, IsSome, true≢false, arith}
use Rattle.std.proofs.Math.ListN.{get_or}
use Rattle.std.proofs.lemmas.List.{append_assoc}
use Rattle.std.proofs.lemmas.Option.{slice_get_cases}
use Rattle.reo_players.proofs.Stands.{rest_by, stands_by, stands_of}
use Rattle.reo_script.specs.declared.scripts.action.Action as action
use Rattle.reo_script.specs.declared.scripts.action.Action.{Action, Repeat}
use Rattle.reo_players.specs.declared.counter.Counter.{Counter}
use Rattle.reo_rules.specs.Lists.{first_of}
use Rattle.reo_players.specs.Written.{Task, times_over, written}
use Rattle.reo_players.specs.Written.Task.{writes, takes, rests}
use Rattle.reo_players.specs.Counters.{actions_in, levels_within, levels_of, IsLive, AreLive, IsOneTask, rest_here, rest_of, rest_within, Stands, StandsHere, PassedOn, PassedWithin, task_of}
use Rattle.reo_players.proofs.Bodies.{written_repeat, levels_repeat, times_live, body_live, body_some, stands_in, stands_out, rest_repeat, once_more}

-- What stands at a task has a first one, so that what follows is not touched where it goes.
abbrev HasFirst : List Task → Type 0
HasFirst ts = (more : List Task) → drop 1 (ts ++ more) ≡ drop 1 ts ++ more

append_first : (xs ys : List Task) → HasFirst xs → HasFirst (xs ++ ys)
append_first xs ys h more = ap (drop 1) (append_assoc xs ys more) ∙ (h (ys ++ more) ∙ (sym (append_assoc (drop 1 xs) ys more) ∙ ap (λ ts. ts ++ more) (sym (h ys))))

first_here : (o : Option Action) (left : ℕ) (Inner : List Action → Type 0) (inner : List Action → List Task) → ((body : List Action) → Inner body → HasFirst (inner body))
    → StandsHere o Inner → HasFirst (rest_here o left inner)
first_here None left Inner inner all h = elim h [ ]
first_here (Some (action.Write port item within)) left Inner inner all h = λ more. refl
first_here (Some (action.Take port within)) left Inner inner all h = λ more. refl
first_here (Some (action.Pause rounds)) left Inner inner all h = λ more. refl
first_here (Some (action.Repeat' times shape body)) left Inner inner all h =
    append_first (inner (actions_in body)) (times_over left (flat_map written (actions_in body))) (all (actions_in body) h)

pub first_of_list : (cs : List Counter) (xs : List Action) → Stands xs cs → HasFirst (rest_of xs cs)
first_of_list [] xs h = elim h [ ]
first_of_list (c ∷ cs) xs h =
    append_first (rest_here (slice_get xs c.place) c.left (λ body. rest_of body cs)) (flat_map written (drop (suc c.place) xs))
    (first_here (slice_get xs c.place) c.left (λ body. Stands body cs) (λ body. rest_of body cs) (first_of_list cs) h)

pub first_within : (a : Action) (here : Counter) (cs : List Counter) → StandsHere (Some a) (λ body. Stands body cs) → HasFirst (rest_within a here cs)
first_within a here cs h = first_here (Some a) here.left (λ body. Stands body cs) (λ body. rest_of body cs) (first_of_list cs) h

module _ (a : Action) (times : ℕ) (body : List Action) (xs : List Action) (is : a ≡ Repeat times body) (slice : xs ≡ body) where
  at : a ≡ Repeat times xs
  at = is ∙ ap (Repeat times) (sym slice)

  pub within_live : IsLive a → AreLive xs
  within_live h = body_live times xs (subst IsLive at h)

  pub within_some : IsLive a → 0 < length xs
  within_some h = body_some times xs (subst IsLive at h)

  pub within_times : IsLive a → 0 < times
  within_times h = times_live times xs (subst IsLive at h)

  pub within_levels : levels_within a ≡ levels_of xs
  within_levels = ap levels_within at ∙ levels_repeat times xs

  pub within_stands : (cs : List Counter) → Stands xs cs → StandsHere (Some a) (λ b. Stands b cs)
  within_stands cs h = subst (λ x. StandsHere (Some x) (λ b. Stands b cs)) (sym at) (stands_in times xs (λ b. Stands b cs) h)

  pub stands_within : (cs : List Counter) → StandsHere (Some a) (λ b. Stands b cs) → Stands xs cs
  stands_within cs h = stands_out times xs (λ b. Stands b cs) (subst (λ x. StandsHere (Some x) (λ b. Stands b cs)) at h)

  rest_is : (here : Counter) (cs : List Counter) → rest_within a here cs ≡ rest_of xs cs ++ times_over here.left (flat_map written xs)
  rest_is here cs = ap (λ x. rest_here (Some x) here.left (λ b. rest_of b cs)) at ∙ rest_repeat times xs here.left (λ b. rest_of b cs)

  -- At the first task of the repeat.
  pub within_rest : (here : Counter) (cs : List Counter) → IsLive a → here.left ≡ times - 1 → rest_of xs cs ≡ flat_map written xs → rest_within a here cs ≡ written a
  within_rest here cs live left rest =
      rest_is here cs ∙ (ap (λ ts. ts ++ times_over here.left (flat_map written xs)) rest
      ∙ (ap (λ n. flat_map written xs ++ times_over n (flat_map written xs)) left
      ∙ (once_more times (flat_map written xs) (within_times live) ∙ sym (ap written at ∙ written_repeat times xs))))

  -- Past a task, to one in the same pass.
  pub went_on : (here : Counter) (old new : List Counter) → Stands xs old → PassedOn true xs old new → PassedWithin true a here here old new
  went_on here old new stood h =
      let more = times_over here.left (flat_map written xs) in (
        refl,
        within_stands new h.0,
        rest_is here new ∙ (ap (λ ts. ts ++ more) h.1
            ∙ (sym (first_of_list old xs stood more) ∙ ap (drop 1) (sym (rest_is here old)))),
      )

  -- The last task of the last pass.
  pub ended : (here : Counter) (old new : List Counter) → Stands xs old → PassedOn false xs old new → here.left ≡ 0 → PassedWithin false a here here old new
  ended here old new stood h none = (
    refl,
    ap (drop 1) (rest_is here old) ∙ (first_of_list old xs stood (times_over here.left (flat_map written xs))
        ∙ (ap (λ ts. ts ++ times_over here.left (flat_map written xs)) h ∙ ap (λ n. times_over n (flat_map written xs)) none)),
  )

  -- From the last task of a pass to the first of the next.
  pub began_again : (here now : Counter) (old mid new : List Counter) → Stands xs old → PassedOn false xs old mid → 0 < here.left → now.place ≡ here.place → now.left ≡ here.left - 1
      → Stands xs new → rest_of xs new ≡ flat_map written xs → PassedWithin true a here now old new
  began_again here now old mid new stood h some place left stands rest =
      let all = flat_map written xs in (
        place,
        within_stands new stands,
        rest_is now new ∙ (ap (λ ts. ts ++ times_over now.left all) rest
            ∙ (ap (λ n. all ++ times_over n all) left ∙ (once_more here.left all some
            ∙ sym (ap (drop 1) (rest_is here old) ∙ (first_of_list old xs stood (times_over here.left all) ∙ ap (λ ts. ts ++ times_over here.left all) h))))),
      )

-- Where counters stand at a task, their place is in the list.
pub stands_place : (xs : List Action) (c : Counter) (cs : List Counter) → Stands xs (c ∷ cs) → c.place < length xs
stands_place xs c cs h = ⊎_elim (λ p. p.1) (λ p. absurd (subst (λ o. StandsHere o (λ body. Stands body cs)) p.1 h)) (slice_get_cases xs c.place).1

module _ (xs : List Action) (counters : List Counter) (here now : Counter) (old new : List Counter) (a : Action) (are : counters ≡ here ∷ old) (at : slice_get xs here.place ≡ Some a) (stood : Stands xs (here ∷ old)) where
  abbrev after : List Task
  after = flat_map written (drop (suc here.place) xs)

  rest_was : drop 1 (rest_of xs counters) ≡ drop 1 (rest_within a here old) ++ after
  rest_was = ap (λ cs. drop 1 (rest_of xs cs)) are ∙ (ap (drop 1) (rest_by xs here old a at) ∙ first_within a here old (stands_of xs here old a at stood) after)

  -- To a task within the same action.
  pub passed_on : PassedWithin true a here now old new → PassedOn true xs counters (now ∷ new)
  passed_on h =
      let there : slice_get xs now.place ≡ Some a = ap (slice_get xs) h.0 ∙ at in (
        stands_by xs now new a there h.1,
        rest_by xs now new a there ∙ (ap (λ p. rest_within a now new ++ flat_map written (drop (suc p) xs)) h.0 ∙ (ap (λ ts. ts ++ after) h.2 ∙ sym rest_was)),
      )

  -- Behind the action.
  pub passed_last : PassedWithin false a here now old new → drop 1 (rest_of xs counters) ≡ after
  passed_last h = rest_was ∙ ap (λ ts. ts ++ after) h.1

-- The first task of a list that counters stand in.
abbrev pub HasTask : List Task → Type 0
HasTask ts = (t : Task) × (us : List Task) × (ts ≡ t ∷ us)

some_append : (xs ys : List Task) → HasTask xs → HasTask (xs ++ ys)
some_append xs ys h = (h.0, h.1 ++ ys, ap (λ ts. ts ++ ys) h.2)

some_here : (o : Option Action) (left : ℕ) (Inner : List Action → Type 0) (inner : List Action → List Task) → ((body : List Action) → Inner body → HasTask (inner body))
    → StandsHere o Inner → HasTask (rest_here o left inner)
some_here None left Inner inner all h = elim h [ ]
some_here (Some (action.Write port item within)) left Inner inner all h = (writes port item within, [], refl)
some_here (Some (action.Take port within)) left Inner inner all h = (takes port within, [], refl)
some_here (Some (action.Pause rounds)) left Inner inner all h = (rests rounds, [], refl)
some_here (Some (action.Repeat' times shape body)) left Inner inner all h =
    some_append (inner (actions_in body)) (times_over left (flat_map written (actions_in body))) (all (actions_in body) h)

pub some_task : (cs : List Counter) (xs : List Action) → Stands xs cs → HasTask (rest_of xs cs)
some_task [] xs h = elim h [ ]
some_task (c ∷ cs) xs h =
    some_append (rest_here (slice_get xs c.place) c.left (λ body. rest_of body cs)) (flat_map written (drop (suc c.place) xs))
    (some_here (slice_get xs c.place) c.left (λ body. Stands body cs) (λ body. rest_of body cs) (some_task cs) h)

first_append : (xs ys : List Task) → HasTask xs → first_of (xs ++ ys) ≡ first_of xs
first_append xs ys h = ap (λ ts. first_of (ts ++ ys)) h.2 ∙ sym (ap first_of h.2)

-- It is that of the action at their place.
pub first_of_place : (xs : List Action) (counters : List Counter) (here : Counter) (cs : List Counter) (a : Action) → counters ≡ here ∷ cs → slice_get xs here.place ≡ Some a → Stands xs counters
    → first_of (rest_of xs counters) ≡ first_of (rest_within a here cs)
first_of_place xs counters here cs a are at h =
    let stood : StandsHere (Some a) (λ body. Stands body cs) = stands_of xs here cs a at (subst (Stands xs) are h) in
    ap (λ l. first_of (rest_of xs l)) are ∙ (ap first_of (rest_by xs here cs a at)
    ∙ first_append (rest_within a here cs) (flat_map written (drop (suc here.place) xs)) (some_here (Some a) here.left (λ body. Stands body cs) (λ body. rest_of body cs) (some_task cs) stood))

-- And of a repeat, that of its body.
pub first_of_body : (a : Action) (times : ℕ) (body xs : List Action) (is : a ≡ Repeat times body) (slice : xs ≡ body) (here : Counter) (cs : List Counter) → Stands xs cs
    → first_of (rest_within a here cs) ≡ first_of (rest_of xs cs)
first_of_body a times body xs is slice here cs h =
    ap first_of (rest_is a times body xs is slice here cs) ∙ first_append (rest_of xs cs) (times_over here.left (flat_map written xs)) (some_task cs xs h)

-- Of another action, itself.
pub first_of_task : (a : Action) (here : Counter) (cs : List Counter) → IsSome (task_of a) → first_of (rest_within a here cs) ≡ task_of a
first_of_task (action.Write port item within) here cs some = refl
first_of_task (action.Take port within) here cs some = refl
first_of_task (action.Pause rounds) here cs some = refl
first_of_task (action.Repeat' times shape body) here cs some = absurd (true≢false (sym some))

-- Behind a single action that is no repeat comes nothing.
alone_at : (a : Action) (place left : ℕ) (inner : List Action → List Task) → IsSome (task_of a)
    → drop 1 (rest_here (slice_get (a ∷ []) place) left inner ++ flat_map written (drop (suc place) (a ∷ []))) ≡ []
alone_at (action.Write port item within) zero left inner some = refl
alone_at (action.Take port within) zero left inner some = refl
alone_at (action.Pause rounds) zero left inner some = refl
alone_at (action.Repeat' times shape body) zero left inner some = absurd (true≢false (sym some))
alone_at a (suc place) left inner some = refl

pub one_alone : (xs : List Action) (a : Action) → xs ≡ a ∷ [] → IsSome (task_of a) → IsOneTask xs
one_alone xs a is some [] = refl
one_alone xs a is some (c ∷ cs) = ap (λ (ys : List Action). drop 1 (rest_of ys (c ∷ cs))) is ∙ alone_at a c.place c.left (λ body. rest_of body cs) some

pub single : (xs : List Action) (a : Action) → length xs ≡ 1 → a ≡ get_or xs 0 a → xs ≡ a ∷ []
single [] a n at = absurd (omega (arith, n))
single (x ∷ []) a n at = ap (λ y. y ∷ []) (sym at)
single (x ∷ y ∷ ys) a n at = absurd (omega (arith, n))
