-- What a primitive tells besides its behaviour, so that work can be left out.
use Rattle.std.specs.Prelude.{ℕ, ◌<◌, ◌≡◌, Bool, true, false, Option, Some, None}
use Rattle.reo_values.specs.declared.value.Value.{Value}
use Rattle.reo_values.specs.declared.kindred.Kindred.{Kindred}
use Rattle.reo_values.specs.Kind.{is_item}
use Rattle.reo_net_base.specs.Behaviour.{Behaviour, IsEndOf}
use Rattle.reo_net_base.specs.Lawful.{GivesAt}
use Rattle.reo_net_base.specs.SameTables.{SameTable}

-- What no round and no offer changes of a primitive.
pub record Lasting : Type 0 where
  -- by the side: whether its table may become another
  pub varies : ℕ → Bool
  -- by the side: whether each row lets each item in
  pub is_open : ℕ → Bool
  -- whether a round may change the primitive
  pub keeps : Bool
  -- whether what is taken at an end that decides is what is given
  pub carries : Bool
  -- the type of what the state gives, if it is known
  pub origin : Option Kindred

-- The next state has the same tables at the sides that do not vary.
abbrev pub KeepsTables : Lasting → Behaviour → Behaviour → Type 0
KeepsTables lasting b d = (side turn : ℕ) → side < b.sides → lasting.varies side ≡ false → SameTable turn turn b d side

-- Each row of a side that is open lets each item in.
abbrev pub LetsAllIn : Lasting → Behaviour → Type 0
LetsAllIn lasting b = (side row end : ℕ) (item : Value) → side < b.sides → row < b.rows side → IsEndOf b side end
    → b.takes_in end ≡ true → lasting.is_open side ≡ true → b.passes side row end item ≡ true

-- What carries gives the item that it takes.
abbrev pub GivesWhatItTakes : Lasting → Behaviour → Type 0
GivesWhatItTakes lasting b = (side row end from : ℕ) (item : Value) → lasting.carries ≡ true
    → GivesAt b side row end → b.from side row end ≡ Some from → b.given side row end (Some item) ≡ Some item

-- What is told of what the state gives: the item, whatever is taken, and its type.
abbrev pub GivesFront : Option Value → Behaviour → Type 0
GivesFront front b = (side row end : ℕ) (item : Value) (taken : Option Value) → front ≡ Some item
    → GivesAt b side row end → b.from side row end ≡ None → b.given side row end taken ≡ Some item

abbrev pub GivesOrigin : Lasting → Behaviour → Type 0
GivesOrigin lasting b = (side row end : ℕ) (item : Value) (origin : Kindred) → lasting.origin ≡ Some origin
    → GivesAt b side row end → b.from side row end ≡ None → b.given side row end None ≡ Some item
    → is_item item origin ≡ true
