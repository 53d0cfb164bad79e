-- Components to which nothing is to be done, or nothing but to count.
use Rattle.std.specs.Prelude.{ℕ, ◌≡◌, ◌≢◌, ◌⊎◌, ◌<◌, ◌≤◌, ◌+◌, ◌==◌, ◌&&◌, ◌||◌, min, not, Bool, true, false, List, length, map, Option, Some, MatchOption, option_and_then}
use Rattle.std.specs.Option.{option_map_or}
use Rattle.reo_players.specs.declared.marks.Pace.{Pace}
use Rattle.reo_players.specs.declared.marks.Paces.{Paces}
use Rattle.reo_players.specs.Players.{Player, player_of, present, port_of, is_done, counts, first_bound, after}

-- It is done, or a round has seen its present action, and that has no bound: it offers nothing new, and a round in which its offer does not flow leaves it as it is.
abbrev pub is_idle : Player → Bool
is_idle p = is_done p || (not (counts p) && (p.seen == 1))

-- Its rounds are counted: its present action is a pause or has a bound, and a round has seen it.
abbrev pub waits : Player → Bool
waits p = counts p && not (p.seen == 0)

-- It is neither idle nor does it wait: so is each whose present action no round has seen, and that is not done.
abbrev pub is_awake : Player → Bool
is_awake p = not (is_idle p || waits p)

-- One more round that sees its present action, and in which its offer does not flow, uses up its bound.
abbrev pub is_last : Player → Bool
is_last p = option_map_or (λ n. (p.seen + 1) == n) (first_bound p.rest) false

-- What is marked: which components are awake, which count, and which are not done.
abbrev pub is_left : Player → Bool
is_left p = not (is_done p)

abbrev pub mark_of : Player → Pace
mark_of p = record { awake = is_awake p; counting = counts p; left = is_left p }

abbrev pub marks_of : List Player → Paces
marks_of ps = record { awake = map is_awake ps; counting = map counts ps; left = map is_left ps }

-- The place is the least from another on whose component is awake, or the number of components if there is none.
pub record IsNextAwake (players : List Player) (from place : ℕ) : Type 0 where
  pub from_on : min from (length players) ≤ place
  pub in_range : place ≤ length players
  pub none_before : (i : ℕ) → from ≤ i → i < place → is_awake (player_of players i) ≡ false
  pub here : place < length players → is_awake (player_of players place) ≡ true

-- One round has passed for the components from a place on, up to another: each of these is idle or waits, and its bound does not run out in the round. The others stand as they stood.
pub record ArePassed (from place : ℕ) (old new : List Player) : Type 0 where
  pub count : length new ≡ length old
  pub asleep : (i : ℕ) → from ≤ i → i < place → is_awake (player_of old i) ≡ false
  pub not_last : (i : ℕ) → from ≤ i → i < place → is_last (player_of old i) ≡ false
  pub passed : (i : ℕ) → from ≤ i → i < place → player_of new i ≡ after false (player_of old i)
  pub before : (i : ℕ) → i < from → player_of new i ≡ player_of old i
  pub behind : (i : ℕ) → place ≤ i → player_of new i ≡ player_of old i

-- So it has up to a place at which there is one that is awake or counts, or up to the end: at which of those that count it stops is not said.
pub record HavePassed (from place : ℕ) (old new : List Player) : Type 0 where
  pub from_on : min from (length old) ≤ place
  pub in_range : place ≤ length old
  pub are : ArePassed from place old new
  pub here : place < length old → (is_awake (player_of old place) || counts (player_of old place)) ≡ true

-- A component whose present action names the port; none only where none does.
pub record NamesPort (players : List Player) (port component : ℕ) : Type 0 where
  pub there : component < length players
  pub named : option_and_then port_of (present (player_of players component)) ≡ Some port

abbrev pub IsNamer : List Player → ℕ → Option ℕ → Type 0
IsNamer players port found = MatchOption found ((i : ℕ) → NamesPort players port i → ⊥) (NamesPort players port)

-- One player is as if no round had seen its present action, and the others stand as they stood.
pub record IsRoused (component : ℕ) (old new : List Player) : Type 0 where
  pub count : length new ≡ length old
  pub rest : (player_of new component).rest ≡ (player_of old component).rest
  pub seen : (player_of new component).seen ≡ 0
  pub others : (i : ℕ) → i ≢ component → player_of new i ≡ player_of old i

-- One whose present action names the port, or none where none does.
abbrev pub HasRoused : ℕ → List Player → List Player → Type 0
HasRoused port old new = (((i : ℕ) → NamesPort old port i → ⊥) × (new ≡ old)) ⊎ ((i : ℕ) × NamesPort old port i × IsRoused i old new)
