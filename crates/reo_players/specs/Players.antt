-- One component in a run: what is left of its written-out list, and how many rounds its present action has seen.
use Rattle.std.specs.Prelude.{ℕ, ◌≡◌, ◌≢◌, ◌+◌, ◌-◌, ◌^◌, min, length, slice_index_or, ◌==◌, ◌||◌, Bool, false, cond, map, Option, Some, None, is_some, is_none, List, [], ◌∷◌, option_and_then}
use Rattle.std.specs.Option.{option_map_or}
use Rattle.std.specs.List.{list_any, list_all}
use Rattle.reo_net_base.specs.declared.port.Offer.{Offer}
use Rattle.reo_net_base.specs.declared.port.Offer.TheVariants as offers
use Rattle.reo_script.specs.declared.scripts.action.Component.{Component}
use Rattle.reo_players.specs.declared.step.Step.{Step}
use Rattle.reo_players.specs.declared.step.Step.TheVariants as steps
use Rattle.reo_rules.specs.Lists.{first_of}
use Rattle.reo_players.specs.Written.{Task, written_out}
use Rattle.reo_players.specs.Written.Task.{writes, takes, rests}

pub record Player : Type 0 where
  pub rest : List Task
  pub seen : ℕ

-- A component at the beginning of its list.
abbrev pub beginning_of : Component → Player
beginning_of c = record { rest = written_out c; seen = 0 }

-- Its present action, and none where it is done.
abbrev pub present : Player → Option Task
present p = first_of p.rest

abbrev pub is_done : Player → Bool
is_done p = is_none (present p)

abbrev pub all_done : List Player → Bool
all_done ps = list_all is_done ps

-- How many rounds an action may see.
abbrev pub bound_of : Task → Option ℕ
bound_of (writes port item within) = within
bound_of (takes port within) = within
bound_of (rests rounds) = Some rounds

-- The port that an action names, and what it offers there.
abbrev pub port_of : Task → Option ℕ
port_of (writes port item within) = Some port
port_of (takes port within) = Some port
port_of (rests rounds) = None

abbrev pub offer_of : Task → Option Offer
offer_of (writes port item within) = Some (offers.Write item)
offer_of (takes port within) = Some offers.Take
offer_of (rests rounds) = None

-- The same of the first action of a list.
abbrev pub first_bound : List Task → Option ℕ
first_bound ts = option_and_then bound_of (first_of ts)

abbrev pub first_port : List Task → Option ℕ
first_port ts = option_and_then port_of (first_of ts)

-- It counts where its present action is a pause or has a bound.
abbrev pub counts : Player → Bool
counts p = is_some (option_and_then bound_of (present p))

abbrev pub someone_counts : List Player → Bool
someone_counts ps = list_any counts ps

-- The bound of an action that had seen so many rounds is used up by one more.
abbrev pub runs_out : Task → ℕ → Bool
runs_out t seen = option_map_or (λ n. (seen + 1) == n) (bound_of t) false

-- One more round seen. For an action with a bound they are counted, up to the greatest number of 32 bits, which no bound can pass; for another, one stands for all.
abbrev pub one_more_seen : Task → ℕ → ℕ
one_more_seen t seen = cond (is_some (bound_of t)) (min (seen + 1) (2 ^ 32 - 1)) 1

-- The player after a round in which its offer flowed, or not.
abbrev pub after_task : Bool → ℕ → List Task → Player
after_task flowed seen [] = record { rest = []; seen = seen }
after_task flowed seen (t ∷ ts) = cond (flowed || runs_out t seen) (record { rest = ts; seen = 0 }) (record { rest = t ∷ ts; seen = one_more_seen t seen })

abbrev pub after : Bool → Player → Player
after flowed p = after_task flowed p.seen p.rest

-- An action whose bound ran out: an offer is given up, and a pause is over.
abbrev pub ended : Task → Step
ended (writes port item within) = steps.GaveUp port
ended (takes port within) = steps.GaveUp port
ended (rests rounds) = steps.Moved

-- What that round was for the player.
abbrev pub step_task : Bool → ℕ → List Task → Step
step_task flowed seen [] = steps.Stays
step_task flowed seen (t ∷ ts) = cond flowed steps.Moved (cond (runs_out t seen) (ended t) steps.Stays)

abbrev pub step_of : Bool → Player → Step
step_of flowed p = step_task flowed p.seen p.rest

-- Where a round was idle and no component counted in it, components that were not all done are not all done.
abbrev pub StuckIsNotDone : Type 0
StuckIsNotDone = (ps : List Player) → someone_counts ps ≡ false → all_done ps ≡ false → all_done (map (after false) ps) ≡ false

-- The player of this number; one that is done where there is none.
abbrev pub no_player : Player
no_player = record { rest = []; seen = 0 }

abbrev pub player_of : List Player → ℕ → Player
player_of ps component = slice_index_or ps component no_player

-- One player has had a round, and the others stand as they stood.
pub record IsAdvanced (component : ℕ) (flowed : Bool) (old new : List Player) (step : Step) : Type 0 where
  pub count : length new ≡ length old
  pub here : player_of new component ≡ after flowed (player_of old component)
  pub step_is : step ≡ step_of flowed (player_of old component)
  pub others : (i : ℕ) → i ≢ component → player_of new i ≡ player_of old i
