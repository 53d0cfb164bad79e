-- A kind over several rounds running.
use Rattle.std.specs.Prelude.{◌≡◌, ◌++◌, List, [], ◌∷◌, Option, option_to_list}
use Rattle.reo_values.specs.declared.value.Value.{Value}
use Rattle.reo_net_base.specs.declared.colouring.Chosen.{Chosen}
use Rattle.reo_buffers.specs.Stored.{Stored, IsBuffer}
use Rattle.reo_kinds.specs.declared.kind.Kind.{Kind}
use Rattle.reo_kinds.specs.declared.kind.Kind.TheVariants.{Store}
use Rattle.reo_kinds.specs.Kinds.{settled_kind}
use Rattle.reo_kinds_laws.specs.Rounds.{came_in, given_out}

-- The rows of a round, and the item at the mouth, if there is one.
abbrev pub Round : Type 0
Round = Chosen × Option Value

-- The kind after the rounds.
abbrev pub after_all : Kind → List Round → Kind
after_all kind [] = kind
after_all kind (round ∷ rounds) = after_all (settled_kind kind round.0 round.1) rounds

-- All that came in, and all that was given, in order.
abbrev pub all_in : Kind → List Round → List Value
all_in kind [] = []
all_in kind (round ∷ rounds) = option_to_list (came_in kind round.0 round.1) ++ all_in (settled_kind kind round.0 round.1) rounds

abbrev pub all_out : Kind → List Round → List Value
all_out kind [] = []
all_out kind (round ∷ rounds) = option_to_list (given_out kind round.0) ++ all_out (settled_kind kind round.0 round.1) rounds

-- All that was given and then what is held are what was held and then all that came in.
pub record IsInOrder (buffer : Stored) (rounds : List Round) : Type 0 where
  pub later : Stored
  pub is_left : after_all (Store buffer) rounds ≡ Store later
  pub in_order : all_out (Store buffer) rounds ++ later.items ≡ buffer.items ++ all_in (Store buffer) rounds

abbrev pub FirstInFirstOut : Type 0
FirstInFirstOut = (buffer : Stored) (rounds : List Round) → IsBuffer buffer → IsInOrder buffer rounds
