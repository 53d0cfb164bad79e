-- How ends lie; the behaviour of a kind is made of this and of the forms of its sides.
use Rattle.std.specs.Prelude.{ℕ, ◌+◌, ◌==◌, Bool, true, false, nat_lt, Option, Some, None}
use Rattle.reo_values.specs.declared.value.Value.{Value}
use Rattle.reo_net_base.specs.Behaviour.{Behaviour}
use Rattle.reo_kinds.specs.declared.ends.EndLayout.{EndLayout}
use Rattle.reo_kinds.specs.declared.ends.EndLayout.TheVariants.{Out, In, InOut, InIn, MouthTail, Inputs, Outputs}
use Rattle.reo_net_base.specs.declared.form.Form.{Form}
use Rattle.reo_net_base.specs.Forms.{rows_by, mark_by, class_by, groups_by, group_by, common_by, apart_by, leads_by}

-- How many ends there are.
abbrev pub end_count : EndLayout → ℕ
end_count Out = 1
end_count In = 1
end_count InOut = 2
end_count InIn = 2
end_count MouthTail = 2
end_count (Inputs branches) = branches.count + 1
end_count (Outputs branches) = branches.count + 1

abbrev pub side_count : EndLayout → ℕ
side_count Out = 1
side_count In = 1
side_count InOut = 1
side_count InIn = 1
side_count MouthTail = 2
side_count (Inputs branches) = 1
side_count (Outputs branches) = 1

abbrev pub side_in : EndLayout → ℕ → ℕ
side_in Out end = 0
side_in In end = 0
side_in InOut end = 0
side_in InIn end = 0
side_in MouthTail end = end
side_in (Inputs branches) end = 0
side_in (Outputs branches) end = 0

abbrev pub takes_at : EndLayout → ℕ → Bool
takes_at Out end = false
takes_at In end = true
takes_at InOut end = end == 0
takes_at InIn end = true
takes_at MouthTail end = end == 0
takes_at (Inputs branches) end = nat_lt end branches.count
takes_at (Outputs branches) end = end == 0

-- The end whose item decides what a row gives, if there is one.
abbrev pub decides_in : EndLayout → ℕ → Option ℕ
decides_in Out row = None
decides_in In row = None
decides_in InOut row = Some 0
decides_in InIn row = None
decides_in MouthTail row = None
decides_in (Inputs branches) row = Some row
decides_in (Outputs branches) row = Some 0

-- A primitive by its ends, the form of each side, which items a row lets in, and what is given, by the item that
-- decides.
abbrev pub behaviour_by : EndLayout → (ℕ → Form) → (ℕ → Value → Bool) → (Option Value → Option Value) → Behaviour
behaviour_by ends form lets_in given = record {
  ends = end_count ends;
  sides = side_count ends;
  side_of = λ end. side_in ends end;
  takes_in = λ end. takes_at ends end;
  leads = λ side. leads_by (form side);
  rows = λ side. rows_by (form side);
  mark = λ side row end. mark_by (form side) row end;
  class = λ side row turn. class_by (form side) row turn;
  groups = λ side. groups_by (form side);
  group = λ side row. group_by (form side) row;
  common = λ side group end. common_by (form side) group end;
  apart = λ side row. apart_by (form side) row;
  from = λ _ row _. decides_in ends row;
  passes = λ _ row _ item. lets_in row item;
  given = λ _ _ _ taken. given taken;
}
