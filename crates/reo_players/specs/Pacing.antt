-- Components whose rounds are counted only when they are gone to.
use Rattle.std.specs.Prelude.{ℕ, zero, suc, ◌≡◌, ◌+◌, ◌-◌, ◌^◌, ◌<◌, ◌≤◌, ◌==◌, min, cond, Option, None, List, [], ◌∷◌, length, map, nat_lt, slice_index_or}
use Rattle.std.specs.Option.{option_map, option_map_or}
use Rattle.reo_script.specs.declared.scripts.action.Component.{Component}
use Rattle.reo_players.specs.declared.marks.Paces.{Paces}
use Rattle.reo_players.specs.declared.pacing.Paced.{Paced}
use Rattle.reo_players.specs.Players.{Player, beginning_of, first_bound}
use Rattle.reo_players.specs.Idle.{waits, marks_of}

-- The player so many rounds later, if it is not awake, its offer flows in none of them and its bound does not run out: its rounds are counted, if it waits.
abbrev pub later : ℕ → Player → Player
later zero p = p
later (suc n) p = record { rest = p.rest; seen = cond (waits p) (min (p.seen + suc n) (2 ^ 32 - 1)) p.seen }

-- A component at its first action, at the beginning of the clock.
abbrev pub paced_of : Component → Paced
paced_of c = record { player = beginning_of c; as_of = 0 }

-- In how many rounds its bound has run out, if its offer does not flow; none where it has none, or no round has seen its present action.
abbrev pub rounds_left : Player → Option ℕ
rounds_left p = cond (p.seen == 0) None (option_map (λ n. n - p.seen) (first_bound p.rest))

-- The round of the clock in which it is to be gone to: that in which its bound runs out by what is left of it, or else 2 ^ 64 - 1, to which no clock comes. A bound that runs out behind all that a clock comes to is due in round 2 ^ 64 - 2.
abbrev pub due_of : Paced → ℕ
due_of x = option_map_or (λ n. min (x.as_of + n) (2 ^ 64 - 2)) (rounds_left x.player) (2 ^ 64 - 1)

-- The player at a round of the clock, if since it was gone to it was not awake and its bound has not run out.
abbrev pub shown : ℕ → Paced → Player
shown clock x = later (clock - x.as_of) x.player

-- In a round the clock of the components that it has passed is one ahead.
abbrev pub clock_at : ℕ → ℕ → ℕ → ℕ
clock_at clock passed i = cond (nat_lt i passed) (clock + 1) clock

-- The players by their clocks.
abbrev pub each_shown : (ℕ → ℕ) → List Paced → List Player
each_shown clock [] = []
each_shown clock (x ∷ xs) = shown (clock 0) x ∷ each_shown (λ i. clock (suc i)) xs

abbrev pub player_in : Paced → Player
player_in x = x.player

-- What a run keeps of its components: what is marked of them, in which round each is due, and no component is ahead of its clock, which does not come to its end.
pub record ArePaced (clock passed : ℕ) (players : List Paced) (marks : Paces) (dues : List ℕ) : Type 0 where
  pub marks_are : marks ≡ marks_of (map player_in players)
  pub dues_are : dues ≡ map due_of players
  pub behind : (i : ℕ) (d : Paced) → i < length players → (slice_index_or players i d).as_of ≤ clock_at clock passed i
  pub goes_on : clock < 2 ^ 64 - 2
