-- Which items filters take in, and which go on.
use Rattle.std.specs.Prelude.{ℕ, ◌<◌, ◌≡◌, ◌↔◌, true, Some}
use Rattle.reo_values.specs.declared.value.Value.{Value}
use Rattle.reo_values.specs.declared.value.Value.TheVariants as values
use Rattle.reo_values.specs.Kind.{IsIn}
use Rattle.reo_exprs.specs.Valued.{value_of_expr}
use Rattle.reo_net_base.specs.declared.mark.Mark.TheVariants.{F}
use Rattle.reo_net_base.specs.Behaviour.{Behaviour}
use Rattle.reo_kinds.specs.declared.kind.FilterRule.{FilterRule}
use Rattle.reo_kinds.specs.declared.kind.Kind.TheVariants.{Filter}
use Rattle.reo_kinds.specs.Kinds.{behaviour_of}
use Rattle.reo_kinds_laws.specs.Once.{IsOnce}

-- The ends of a filter and its rows.
abbrev pub filter_of : FilterRule → Behaviour
filter_of rule = behaviour_of (Filter rule)

-- By this row the source end flows, and lets the item in.
abbrev pub TakesIn : FilterRule → Value → ℕ → Type 0
TakesIn rule item row = ((filter_of rule).mark 0 row 0 ≡ F) × ((filter_of rule).passes 0 row 0 item ≡ true)

abbrev pub FiltersChooseOnce : Type 0
FiltersChooseOnce = (rule : FilterRule) (item : Value) → IsOnce ((filter_of rule).rows 0) (TakesIn rule item)

-- By this row the item is let in and the sink end flows too.
abbrev pub GoesOn : FilterRule → Value → ℕ → Type 0
GoesOn rule item row = TakesIn rule item row × ((filter_of rule).mark 0 row 1 ≡ F)

-- The item is of the filter's type, and the value of the filter's expression on it is true.
abbrev pub IsTrueOf : FilterRule → Value → Type 0
IsTrueOf rule item = IsIn item rule.of × (value_of_expr rule.expr item ≡ values.Bool true)

-- By some row what is true goes on, and nothing else does, as it came.
pub record PassesWhatIsTrue (rule : FilterRule) (item : Value) : Type 0 where
  pub exactly : ((row : ℕ) × (row < (filter_of rule).rows 0) × GoesOn rule item row) ↔ IsTrueOf rule item
  pub as_it_came : (row : ℕ) → GoesOn rule item row
      → ((filter_of rule).from 0 row 1 ≡ Some 0) × ((filter_of rule).given 0 row 1 (Some item) ≡ Some item)

abbrev pub FiltersPassWhatIsTrue : Type 0
FiltersPassWhatIsTrue = (rule : FilterRule) (item : Value) → PassesWhatIsTrue rule item
