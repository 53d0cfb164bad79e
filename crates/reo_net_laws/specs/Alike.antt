-- Circuits of one shape that are alike on a set of sides.
use Rattle.std.specs.Prelude.{ℕ, ◌+◌, ◌<◌, ◌≡◌, Bool, true, List, Option, length}
use Rattle.reo_values.specs.declared.value.Value.{Value}
use Rattle.reo_net_base.specs.Behaviour.{Behaviour, IsEndOf}
use Rattle.reo_net_base.specs.Lawful.{SameShape, GivesAt}
use Rattle.reo_net_base.specs.Net.{Net, first_side, behaviour_at}
use Rattle.reo_net_base.specs.First.{IsFirst}
use Rattle.reo_net_base.specs.Wired.{IsWired, IsOrder}
use Rattle.reo_net_laws.specs.Parts.{IsClosed}
use Rattle.reo_net_laws.specs.Keys.{IsFirstIn}
use Rattle.reo_net_laws.specs.FirstLaws.{AreSameIn}

-- A side with the same table and classes, the same items given and the same items let in.
pub record SameSide (b d : Behaviour) (side : ℕ) : Type 0 where
  pub rows : d.rows side ≡ b.rows side
  pub mark : (row end : ℕ) → row < b.rows side → IsEndOf b side end
      → d.mark side row end ≡ b.mark side row end
  pub class : (row turn : ℕ) → row < b.rows side → d.class side row turn ≡ b.class side row turn
  pub from : (row end : ℕ) → GivesAt b side row end → d.from side row end ≡ b.from side row end
  pub given : (row end : ℕ) (taken : Option Value) → GivesAt b side row end
      → d.given side row end taken ≡ b.given side row end taken
  pub passes : (row end : ℕ) (item : Value) → row < b.rows side → IsEndOf b side end
      → b.takes_in end ≡ true → d.passes side row end item ≡ b.passes side row end item

-- Circuits of the same shape with the same joints, alike at the sides of a set.
pub record AreAlike (net other : Net) (inside : ℕ → Bool) : Type 0 where
  pub joints : other.joints ≡ net.joints
  pub count : length other.primitives ≡ length net.primitives
  pub shape : (i : ℕ) → i < length net.primitives
      → SameShape (behaviour_at net.primitives i) (behaviour_at other.primitives i)
  pub sides : (i side : ℕ) → i < length net.primitives
      → side < (behaviour_at net.primitives i).sides
      → inside (first_side net.primitives i + side) ≡ true
      → SameSide (behaviour_at net.primitives i) (behaviour_at other.primitives i) side

-- What is first on a closed set is also first there in a circuit that is alike on the set.
abbrev pub IsIsolated : Type 0
IsIsolated = (net other : Net) → IsWired net → IsWired other → (inside : ℕ → Bool)
    → IsClosed net inside → AreAlike net other inside
    → (turn : ℕ) (rows : List ℕ) (items : List (Option Value))
    → IsFirstIn net inside turn rows items → IsFirstIn other inside turn rows items

-- The first colourings of two circuits that are alike on a closed set have the same rows and items
-- there.
abbrev pub FirstsAgree : Type 0
FirstsAgree = (net other : Net) → IsWired net → IsWired other → (order : List ℕ)
    → IsOrder other order
    → (inside : ℕ → Bool) → IsClosed net inside → AreAlike net other inside
    → (turn : ℕ) (rows others : List ℕ) (items other_items : List (Option Value))
    → IsFirst net turn rows items → IsFirst other turn others other_items
    → AreSameIn other inside rows others items other_items
