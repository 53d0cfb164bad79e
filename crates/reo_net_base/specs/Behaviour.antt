-- One primitive in its present state, as mathematics.
use Rattle.std.specs.Prelude.{ℕ, ◌+◌, ◌<◌, ◌≡◌, Bool, false, Option, None}
use Rattle.reo_values.specs.declared.value.Value.{Value}
use Rattle.reo_net_base.specs.declared.mark.Mark.{Mark}
use Rattle.reo_net_base.specs.declared.mark.Mark.TheVariants.{F, J}

-- A primitive in its present state: its ends and sides, the table of each side with its classes and groups,
-- and for a row that flows where the item given comes from and which items are let in.
pub record Behaviour : Type 0 where
  pub ends : ℕ
  pub sides : ℕ
  -- by the end
  pub side_of : ℕ → ℕ
  pub takes_in : ℕ → Bool
  -- by the side: whether its class is compared before those of all sides
  pub leads : ℕ → Bool
  -- by the side; the jam row is the last
  pub rows : ℕ → ℕ
  -- by side, row and end
  pub mark : ℕ → ℕ → ℕ → Mark
  -- by side, row and the number of the round
  pub class : ℕ → ℕ → ℕ → ℕ
  -- by the side: how many groups its rows stand in
  pub groups : ℕ → ℕ
  -- by side and row
  pub group : ℕ → ℕ → ℕ
  -- by side, group and end: what each row of the group says of the end, but where it is apart
  pub common : ℕ → ℕ → ℕ → Mark
  -- by side and row: the one end at which the row is not as its group, if there is one
  pub apart : ℕ → ℕ → Option ℕ
  -- by side, row and end: the end whose taken item decides what is given, or none where the state alone decides
  pub from : ℕ → ℕ → ℕ → Option ℕ
  -- by side, row and end: whether an item is let in
  pub passes : ℕ → ℕ → ℕ → Value → Bool
  -- by side, row, end and the item taken at the deciding end: the item given
  pub given : ℕ → ℕ → ℕ → Option Value → Option Value

-- A primitive with no end: what is read past the end of a list.
abbrev pub nothing : Behaviour
nothing = record {
  ends = 0;
  sides = 0;
  side_of = λ _. 0;
  takes_in = λ _. false;
  leads = λ _. false;
  rows = λ _. 0;
  mark = λ _ _ _. J;
  class = λ _ _ _. 0;
  groups = λ _. 0;
  group = λ _ _. 0;
  common = λ _ _ _. J;
  apart = λ _ _. None;
  from = λ _ _ _. None;
  passes = λ _ _ _ _. false;
  given = λ _ _ _ _. None;
}

-- An end of a side.
abbrev pub IsEndOf : Behaviour → ℕ → ℕ → Type 0
IsEndOf b side end = (end < b.ends) × (b.side_of end ≡ side)

-- A row that is no jam row.
abbrev pub IsPlainRow : Behaviour → ℕ → ℕ → Type 0
IsPlainRow b side row = row + 1 < b.rows side

-- Each end of the side that flows by the one row flows by the other.
abbrev pub FlowsWithin : Behaviour → ℕ → ℕ → ℕ → Type 0
FlowsWithin b side row other = (end : ℕ) → IsEndOf b side end → b.mark side row end ≡ F → b.mark side other end ≡ F
