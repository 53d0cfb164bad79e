-- Which items filters take in, and which go on.
use Rattle.std.proofs.Common.{ℕ, zero, suc, ◌≡◌, Bool, true, false, refl, ap, arith}
use Rattle.std.proofs.lemmas.Bool.{and_parts, and_from}
use Rattle.reo_values.specs.declared.value.Value as value
use Rattle.reo_values.specs.declared.value.Value.{Value}
use Rattle.reo_values.specs.declared.value.Value.TheVariants as values
use Rattle.reo_values.specs.Kind.{is_item}
use Rattle.reo_values.proofs.Tests.{is_item-is}
use Rattle.reo_exprs.specs.Valued.{truth, value_of_expr}
use Rattle.reo_net_base.specs.declared.mark.Mark.TheVariants.{F}
use Rattle.reo_net_base.specs.declared.table.Table.TheVariants as tables
use Rattle.reo_net_base.specs.Rows.{mark_in}
use Rattle.reo_net_base.specs.Tables.{rows_of}
use Rattle.reo_kinds.specs.declared.kind.FilterRule.{FilterRule}
use Rattle.reo_kinds.specs.Rules.{accepts}
use Rattle.reo_kinds.specs.Kinds.{filter_lets_in}
use Rattle.reo_kinds_laws.specs.Once.{IsOnce}
use Rattle.reo_kinds_laws.specs.Filters.{IsTrueOf, FiltersChooseOnce, FiltersPassWhatIsTrue}

-- A row that takes in an item which is accepted, or one which is not.
abbrev Takes : Bool → ℕ → Type 0
Takes accepted row = (mark_in (rows_of tables.Filter) row 0 ≡ F) × (filter_lets_in accepted row ≡ true)

only_first : (row : ℕ) → Takes true row → row ≡ 0
only_first zero takes = refl
only_first (suc zero) takes = absurd (let h = takes.1 in cc)
only_first (suc (suc zero)) takes = absurd (let h = takes.0 in cc)
only_first (suc (suc (suc zero))) takes = absurd (let h = takes.0 in cc)
only_first (suc (suc (suc (suc row)))) takes = absurd (let h = takes.0 in cc)

only_second : (row : ℕ) → Takes false row → row ≡ 1
only_second zero takes = absurd (let h = takes.1 in cc)
only_second (suc zero) takes = refl
only_second (suc (suc zero)) takes = absurd (let h = takes.0 in cc)
only_second (suc (suc (suc zero))) takes = absurd (let h = takes.0 in cc)
only_second (suc (suc (suc (suc row)))) takes = absurd (let h = takes.0 in cc)

once : (accepted : Bool) → IsOnce 5 (Takes accepted)
once true = record { place = 0; below = omega arith; holds = (refl, refl); only = λ row _ takes. only_first row takes }
once false = record { place = 1; below = omega arith; holds = (refl, refl); only = λ row _ takes. only_second row takes }

pub chosen_once : FiltersChooseOnce
chosen_once rule item = once (accepts rule item)

-- The truth of an item is that it is the one true.
truth_is : (item : Value) → truth item ≡ true → item ≡ values.Bool true
truth_is (value.Bool true) h = refl
truth_is (value.Bool false) h = absurd cc
truth_is _ h = absurd cc

-- Only row 0 lets items go on.
accepted_by : (accepted : Bool) (row : ℕ) → Takes accepted row → mark_in (rows_of tables.Filter) row 1 ≡ F → accepted ≡ true
accepted_by true row takes goes = refl
accepted_by false zero takes goes = takes.1
accepted_by false (suc zero) takes goes = absurd cc
accepted_by false (suc (suc zero)) takes goes = absurd cc
accepted_by false (suc (suc (suc zero))) takes goes = absurd cc
accepted_by false (suc (suc (suc (suc row)))) takes goes = absurd cc

true_of : (rule : FilterRule) (item : Value) → accepts rule item ≡ true → IsTrueOf rule item
true_of rule item h =
    let parts = and_parts (is_item item rule.of) (truth (value_of_expr rule.expr item)) h in
    ((is_item-is item rule.of).0 parts.0, truth_is (value_of_expr rule.expr item) parts.1)

accepted : (rule : FilterRule) (item : Value) → IsTrueOf rule item → accepts rule item ≡ true
accepted rule item is = and_from (is_item item rule.of) (truth (value_of_expr rule.expr item)) ((is_item-is item rule.of).1 is.0) (ap truth is.1)

pub passed : FiltersPassWhatIsTrue
passed rule item = record {
  exactly = (
    λ goes. true_of rule item (accepted_by (accepts rule item) goes.0 goes.2.0 goes.2.1),
    λ is. (0, omega arith, ((refl, accepted rule item is), refl)),
  );
  as_it_came = λ row goes. (refl, refl);
}
