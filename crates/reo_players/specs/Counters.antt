-- Loop counters, and the list of tasks that they stand for.
use Rattle.std.specs.Prelude.{ℕ, suc, ◌≡◌, ◌<◌, max, Bool, true, false, Option, Some, None, List, [], ◌∷◌, ◌++◌, drop, slice_get}
use Rattle.std.specs.List.{flat_map}
use Rattle.reo_script.specs.declared.scripts.action.Action as action
use Rattle.reo_script.specs.declared.scripts.action.Action.{Action}
use Rattle.reo_players.specs.declared.counter.Counter.{Counter}
use Rattle.reo_players.specs.Written.{Task, times_over, written}
use Rattle.reo_players.specs.Written.Task.{writes, takes, rests}

-- The actions of a body.
abbrev pub actions_in : {m : _} → action.Row_of-Action m → List Action
actions_in action.end_of-Action = []
actions_in (action.more_of-Action a rest) = a ∷ actions_in rest

abbrev mutual
  -- How many counters the lists of actions within an action take.
  pub levels_within : Action → ℕ
  levels_within (action.Write port item within) = 0
  levels_within (action.Take port within) = 0
  levels_within (action.Pause rounds) = 0
  levels_within (action.Repeat' times shape body) = levels_row body

  pub levels_row : {m : _} → action.Row_of-Action m → ℕ
  levels_row action.end_of-Action = 0
  levels_row (action.more_of-Action a rest) = max (suc (levels_within a)) (levels_row rest)

-- How many counters a list of actions takes.
abbrev pub levels_of : List Action → ℕ
levels_of [] = 0
levels_of (a ∷ actions) = max (suc (levels_within a)) (levels_of actions)

abbrev mutual
  -- The action has a list: it is no repeat, or one that is done at least once, and whose actions have one, and there are some.
  pub IsLive : Action → Type 0
  IsLive (action.Write port item within) = Unit {0}
  IsLive (action.Take port within) = Unit {0}
  IsLive (action.Pause rounds) = Unit {0}
  IsLive (action.Repeat' times shape body) = (0 < times) × IsLiveBody body

  pub IsLiveBody : {m : _} → action.Row_of-Action m → Type 0
  IsLiveBody action.end_of-Action = ⊥
  IsLiveBody (action.more_of-Action a rest) = IsLive a × AreLiveRow rest

  pub AreLiveRow : {m : _} → action.Row_of-Action m → Type 0
  AreLiveRow action.end_of-Action = Unit {0}
  AreLiveRow (action.more_of-Action a rest) = IsLive a × AreLiveRow rest

abbrev pub AreLive : List Action → Type 0
AreLive [] = Unit {0}
AreLive (a ∷ actions) = IsLive a × AreLive actions

-- What the action at a counter still comes to: a repeat, to what is left of its body this time, and the body so many times.
abbrev pub rest_here : Option Action → ℕ → (List Action → List Task) → List Task
rest_here None left inner = []
rest_here (Some (action.Write port item within)) left inner = written (action.Write port item within)
rest_here (Some (action.Take port within)) left inner = written (action.Take port within)
rest_here (Some (action.Pause rounds)) left inner = written (action.Pause rounds)
rest_here (Some (action.Repeat' times shape body)) left inner = inner (actions_in body) ++ times_over left (flat_map written (actions_in body))

-- What a list of actions still comes to, where counters stand so in it, the outermost first.
abbrev pub rest_of : List Action → List Counter → List Task
rest_of actions [] = []
rest_of actions (c ∷ cs) = rest_here (slice_get actions c.place) c.left (λ body. rest_of body cs) ++ flat_map written (drop (suc c.place) actions)

-- The counters stand at an action that is no repeat.
abbrev pub StandsHere : Option Action → (List Action → Type 0) → Type 0
StandsHere None Inner = ⊥
StandsHere (Some (action.Write port item within)) Inner = Unit {0}
StandsHere (Some (action.Take port within)) Inner = Unit {0}
StandsHere (Some (action.Pause rounds)) Inner = Unit {0}
StandsHere (Some (action.Repeat' times shape body)) Inner = Inner (actions_in body)

abbrev pub Stands : List Action → List Counter → Type 0
Stands actions [] = ⊥
Stands actions (c ∷ cs) = StandsHere (slice_get actions c.place) (λ body. Stands body cs)

-- Wherever counters stand in the list, no task comes behind theirs.
abbrev pub IsOneTask : List Action → Type 0
IsOneTask actions = (counters : List Counter) → drop 1 (rest_of actions counters) ≡ []

-- The counters have gone past the first task of their list; false: it was the only one.
abbrev pub PassedOn : Bool → List Action → List Counter → List Counter → Type 0
PassedOn true actions old new = Stands actions new × (rest_of actions new ≡ drop 1 (rest_of actions old))
PassedOn false actions old new = drop 1 (rest_of actions old) ≡ []

-- The same for the counters at and within one action.
abbrev pub rest_within : Action → Counter → List Counter → List Task
rest_within a here inner = rest_here (Some a) here.left (λ body. rest_of body inner)

abbrev pub PassedWithin : Bool → Action → Counter → Counter → List Counter → List Counter → Type 0
PassedWithin true a here now old new =
    (now.place ≡ here.place) × StandsHere (Some a) (λ body. Stands body new) × (rest_within a now new ≡ drop 1 (rest_within a here old))
PassedWithin false a here now old new = (now.place ≡ here.place) × (drop 1 (rest_within a here old) ≡ [])

-- The task that an action is; none for a repeat.
abbrev pub task_of : Action → Option Task
task_of (action.Write port item within) = Some (writes port item within)
task_of (action.Take port within) = Some (takes port within)
task_of (action.Pause rounds) = Some (rests rounds)
task_of (action.Repeat' times shape body) = None

-- What is left of a component's list: nothing once it is done.
abbrev pub rest_left : Bool → List Action → List Counter → List Task
rest_left true actions counters = []
rest_left false actions counters = rest_of actions counters

-- Until then its counters stand at a task.
abbrev pub StandsUntil : Bool → List Action → List Counter → Type 0
StandsUntil true actions counters = Unit {0}
StandsUntil false actions counters = Stands actions counters
