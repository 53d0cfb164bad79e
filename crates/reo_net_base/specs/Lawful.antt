-- The laws of a primitive.
use Rattle.std.specs.Prelude.{ℕ, ◌+◌, ◌<◌, ◌≤◌, ◌≡◌, ◌≢◌, ◌^◌, true, false, Option, Some, None, IsSome}
use Rattle.reo_values.specs.declared.value.Value.{Value}
use Rattle.reo_net_base.specs.declared.mark.Mark.TheVariants.{F, J}
use Rattle.reo_net_base.specs.declared.colouring.Chosen.{Chosen}
use Rattle.reo_net_base.specs.Behaviour.{Behaviour, IsEndOf, IsPlainRow, FlowsWithin}

-- A mouth that takes in and a tail that gives, each a side of its own with one end.
pub record IsTwoSided (b : Behaviour) : Type 0 where
  pub ends : b.ends ≡ 2
  pub apart : b.side_of 0 ≢ b.side_of 1
  pub mouth : (end : ℕ) → IsEndOf b 0 end → b.takes_in end ≡ true
  pub tail : (end : ℕ) → IsEndOf b 1 end → b.takes_in end ≡ false

-- An end of a side that gives with flow by a row of the table.
pub record GivesAt (b : Behaviour) (side row end : ℕ) : Type 0 where
  pub of_side : side < b.sides
  pub in_table : row < b.rows side
  pub is_end : IsEndOf b side end
  pub gives : b.takes_in end ≡ false
  pub flows : b.mark side row end ≡ F

-- Two rows of one group, and an end at which both are as their group.
pub record AreAsTheirGroup (b : Behaviour) (side row other end : ℕ) : Type 0 where
  pub of_side : side < b.sides
  pub row_in : row < b.rows side
  pub other_in : other < b.rows side
  pub one_group : b.group side row ≡ b.group side other
  pub is_end : IsEndOf b side end
  pub row_with : b.apart side row ≢ Some end
  pub other_with : b.apart side other ≢ Some end

-- The laws of groups: rows of one group say the same of an end at which both are as their group.
pub record IsGrouped (b : Behaviour) : Type 0 where
  pub group_in : (side row : ℕ) → side < b.sides → row < b.rows side → b.group side row < b.groups side
  pub few_groups : (side : ℕ) → side < b.sides → b.groups side ≤ b.rows side
  pub apart_end : (side row end : ℕ) → side < b.sides → row < b.rows side → b.apart side row ≡ Some end → IsEndOf b side end
  pub common_mark : (side row end : ℕ) → side < b.sides → row < b.rows side → IsEndOf b side end → b.apart side row ≢ Some end
      → b.mark side row end ≡ b.common side (b.group side row) end
  -- an end that gives by the state alone gives the same by both rows
  pub given_alike : (side row other end : ℕ) → AreAsTheirGroup b side row other end → GivesAt b side row end → b.from side row end ≡ None
      → (b.from side other end ≡ None) × (b.given side row end None ≡ b.given side other end None)
  -- an end that takes in lets the same in
  pub let_in_alike : (side row other end : ℕ) (item : Value) → AreAsTheirGroup b side row other end → b.takes_in end ≡ true
      → b.passes side row end item ≡ b.passes side other end item
  -- what is taken in at the end decides what is given at another end by both rows or by none, and in the same way
  pub decides_alike : (side row other end giver : ℕ) → AreAsTheirGroup b side row other end → b.takes_in end ≡ true
      → GivesAt b side row giver → b.from side row giver ≡ Some end
      → GivesAt b side other giver × (b.from side other giver ≡ Some end) × ((taken : Option Value) → b.given side row giver taken ≡ b.given side other giver taken)

-- The laws of one state.
pub record IsLawful (b : Behaviour) : Type 0 where
  -- sides
  pub some_side : 0 < b.sides
  pub few_sides : b.sides ≤ 2
  pub sides_in : (end : ℕ) → end < b.ends → b.side_of end < b.sides
  pub two_sides : b.sides ≡ 2 → IsTwoSided b
  -- the table: the last row jams at each end, no other row jams, and no two rows have the same marks
  pub some_row : (side : ℕ) → side < b.sides → 0 < b.rows side
  pub few_rows : (side : ℕ) → side < b.sides → b.rows side < 2 ^ 32
  pub jam_row : (side row end : ℕ) → side < b.sides → IsEndOf b side end → row + 1 ≡ b.rows side → b.mark side row end ≡ J
  pub no_other_jam : (side row end : ℕ) → side < b.sides → IsEndOf b side end → row + 1 < b.rows side → b.mark side row end ≢ J
  pub told_apart : (side row other : ℕ) → side < b.sides → row < b.rows side → other < b.rows side
      → ((end : ℕ) → IsEndOf b side end → b.mark side row end ≡ b.mark side other end) → row ≡ other
  -- classes: more flow is a smaller class, equal flow an equal class and nothing else, the jam row's is the greatest
  pub more_flow : (side row other turn : ℕ) → side < b.sides → IsPlainRow b side row → IsPlainRow b side other
      → FlowsWithin b side row other → (end : ℕ) → IsEndOf b side end → b.mark side other end ≡ F → b.mark side row end ≢ F
      → b.class side other turn < b.class side row turn
  pub same_class : (side row other turn : ℕ) → side < b.sides → IsPlainRow b side row → IsPlainRow b side other
      → FlowsWithin b side row other → FlowsWithin b side other row → b.class side row turn ≡ b.class side other turn
  pub same_flow : (side row other turn : ℕ) → side < b.sides → IsPlainRow b side row → IsPlainRow b side other
      → b.class side row turn ≡ b.class side other turn → FlowsWithin b side row other
  pub jam_last : (side row other turn : ℕ) → side < b.sides → IsPlainRow b side row → other + 1 ≡ b.rows side → b.class side row turn < b.class side other turn
  -- groups of rows
  pub grouped : IsGrouped b
  -- items: what is given comes from the state or from one end of the same side that takes in with flow
  pub from_end : (side row end from : ℕ) → GivesAt b side row end → b.from side row end ≡ Some from → IsEndOf b side from
  pub from_takes : (side row end from : ℕ) → GivesAt b side row end → b.from side row end ≡ Some from → b.takes_in from ≡ true
  pub from_flows : (side row end from : ℕ) → GivesAt b side row end → b.from side row end ≡ Some from → b.mark side row from ≡ F
  -- the state alone decides only where no end of the side takes in
  pub from_none : (side row end other : ℕ) → GivesAt b side row end → b.from side row end ≡ None → IsEndOf b side other → b.takes_in other ≡ false
  pub given_alone : (side row end : ℕ) → GivesAt b side row end → b.from side row end ≡ None → IsSome (b.given side row end None)
  pub given_for : (side row end from : ℕ) (item : Value) → GivesAt b side row end → b.from side row end ≡ Some from → IsSome (b.given side row end (Some item))
  pub given_for_none : (side row end from : ℕ) → GivesAt b side row end → b.from side row end ≡ Some from → b.given side row end None ≡ None

-- What stays when a primitive changes its state.
pub record SameShape (b d : Behaviour) : Type 0 where
  pub ends : d.ends ≡ b.ends
  pub sides : d.sides ≡ b.sides
  pub side_of : (end : ℕ) → d.side_of end ≡ b.side_of end
  pub takes_in : (end : ℕ) → d.takes_in end ≡ b.takes_in end
  pub leads : (side : ℕ) → d.leads side ≡ b.leads side

-- What stays of what a primitive does with items, whatever its state: which of them it lets in, and what it makes of
-- those that are taken in.
pub record TreatsAlike (b d : Behaviour) : Type 0 where
  pub passes : (side row end : ℕ) (item : Value) → d.passes side row end item ≡ b.passes side row end item
  pub from : (side row end : ℕ) → d.from side row end ≡ b.from side row end
  pub given : (side row end from : ℕ) (taken : Option Value) → b.from side row end ≡ Some from
      → d.given side row end taken ≡ b.given side row end taken

-- Rows by which no end flows.
pub record IsQuiet (b : Behaviour) (rows : Chosen) : Type 0 where
  pub first : (end : ℕ) → IsEndOf b 0 end → b.mark 0 rows.first end ≢ F
  pub second : (end : ℕ) → IsEndOf b 1 end → b.mark 1 rows.second end ≢ F
