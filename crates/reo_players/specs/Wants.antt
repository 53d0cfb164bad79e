-- What a component wants in a round.
use Rattle.std.specs.Prelude.{ℕ, ◌≡◌, Option, Some, None}
use Rattle.reo_players.specs.declared.players.Want.{Want as AWant}
use Rattle.reo_players.specs.declared.players.Want.TheVariants as wants
use Rattle.reo_players.specs.Written.{Task}
use Rattle.reo_players.specs.Written.Task.{writes, takes, rests}

-- It wants what its present action says: to write an item, to take one, or nothing; or it has none.
abbrev pub Wants : AWant → Option Task → Type 0
Wants (wants.Write port item) t = (within : Option ℕ) × (t ≡ Some (writes port item.now within))
Wants (wants.Take port) t = (within : Option ℕ) × (t ≡ Some (takes port within))
Wants wants.Rest t = (rounds : ℕ) × (t ≡ Some (rests rounds))
Wants wants.Done t = t ≡ None
