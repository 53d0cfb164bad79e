-- Circuits with fewer rows.
use Rattle.std.specs.Prelude.{ℕ, ◌+◌, ◌<◌, ◌≤◌, ◌≡◌, Bool, true, List, Option, length}
use Rattle.reo_values.specs.declared.value.Value.{Value}
use Rattle.reo_net_base.specs.Behaviour.{Behaviour, IsEndOf}
use Rattle.reo_net_base.specs.Lawful.{SameShape, GivesAt}
use Rattle.reo_net_base.specs.Net.{Net, behaviour_at, first_side}
use Rattle.reo_net_base.specs.Wired.{IsWired, IsOrder}
use Rattle.reo_net_laws.specs.Parts.{IsClosed}
use Rattle.reo_weights.specs.Weights.{IsWeight}
use Rattle.reo_weights.specs.Widths.{IsWide}
use Rattle.reo_weights.specs.Over.{IsWithin}

-- A row of the second primitive stands for a row of the first: it says the same of each end, what it gives comes from
-- the same end and is the same, and it lets the same in. Its number may be another.
pub record StandsFor (b d : Behaviour) (side row other : ℕ) : Type 0 where
  pub in_table : other < b.rows side
  pub mark : (end : ℕ) → IsEndOf b side end → d.mark side row end ≡ b.mark side other end
  pub from : (end : ℕ) → GivesAt b side other end → d.from side row end ≡ b.from side other end
  pub given : (end : ℕ) (taken : Option Value) → GivesAt b side other end
      → d.given side row end taken ≡ b.given side other end taken
  pub passes : (end : ℕ) (item : Value) → IsEndOf b side end → b.takes_in end ≡ true
      → d.passes side row end item ≡ b.passes side other end item

-- Circuits of the same shape with the same joints. At the sides of a set each row of the second stands for one of the
-- first.
pub record HasFewerRows (net fewer : Net) (inside : ℕ → Bool) : Type 0 where
  pub joints : fewer.joints ≡ net.joints
  pub count : length fewer.primitives ≡ length net.primitives
  pub shape : (i : ℕ) → i < length net.primitives
      → SameShape (behaviour_at net.primitives i) (behaviour_at fewer.primitives i)
  pub sides : (i side row : ℕ) → i < length net.primitives
      → side < (behaviour_at net.primitives i).sides
      → inside (first_side net.primitives i + side) ≡ true
      → row < (behaviour_at fewer.primitives i).rows side
      → (other : ℕ) × StandsFor (behaviour_at net.primitives i) (behaviour_at fewer.primitives i) side row other

-- A closed set with fewer rows does not weigh more, and is not wide where it was not.
abbrev pub FewerRowsWeighNoMore : Type 0
FewerRowsWeighNoMore = (net fewer : Net) → IsWired net → IsWired fewer
    → (order : List ℕ) → IsOrder fewer order
    → (inside : ℕ → Bool) → IsClosed net inside → HasFewerRows net fewer inside
    → ((w x : ℕ) → IsWeight net inside w → IsWeight fewer inside x → x ≤ w)
    × (IsWide fewer inside → IsWide net inside)

-- A closed set that is within a budget is within it with fewer rows.
abbrev pub FewerRowsStayWithin : Type 0
FewerRowsStayWithin = (net fewer : Net) → IsWired net → IsWired fewer
    → (order : List ℕ) → IsOrder fewer order
    → (inside : ℕ → Bool) → IsClosed net inside → HasFewerRows net fewer inside
    → (budget : ℕ) → IsWithin budget net inside → IsWithin budget fewer inside
