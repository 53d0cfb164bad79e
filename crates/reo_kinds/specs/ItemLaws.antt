-- What the ends, the items let in and the items given owe to the laws of a primitive.
use Rattle.std.proofs.Common.{ℕ, zero, suc, ◌<◌, ◌≤◌, ◌≡◌, ◌≢◌, ◌==◌, Bool, true, false, Option, Some, None, IsSome, is_some, refl, sym, ap, ◌∙◌, arith}
use Rattle.std.proofs.lemmas.Bool.Decides.{nat_tests}
use Rattle.reo_values.specs.declared.value.Value.{Value}
use Rattle.reo_net_base.specs.declared.mark.Mark.TheVariants.{F}
use Rattle.reo_net_base.specs.Behaviour.{Behaviour, IsEndOf}
use Rattle.reo_net_base.specs.Lawful.{IsLawful, IsTwoSided, GivesAt, AreAsTheirGroup}
use Rattle.reo_kinds.specs.declared.ends.EndLayout.{EndLayout}
use Rattle.reo_kinds.specs.declared.ends.EndLayout.TheVariants.{Out, In, InOut, InIn, MouthTail, Inputs, Outputs}
use Rattle.reo_net_base.specs.declared.branches.Branches.{Branches}
use Rattle.reo_net_base.specs.Rows.{Rows, mark_in}
use Rattle.reo_net_base.specs.declared.table.Table.{Table}
use Rattle.reo_net_base.specs.declared.form.Form.{Form}
use Rattle.reo_net_base.specs.declared.form.Form.TheVariants.{Double, Merging, Replicating}
use Rattle.reo_net_base.specs.Tables.{rows_of}
use Rattle.reo_net_base.specs.Forms.{mark_by}
use Rattle.reo_kinds.specs.Forms.{side_count, behaviour_by}
use Rattle.reo_kinds.specs.Kinds.{ready, ready_table, mouth_and_tail}
use Rattle.reo_kinds.specs.TableTests.{is_table, TableFacts, table_facts}
use Rattle.reo_kinds.specs.SideLaws.{IsSide, double_side, single_side, merger_side, merger_flow, replicator_side}

-- How ends lie at sides.
pub record AreEnds (b : Behaviour) : Type 0 where
  pub some_side : 0 < b.sides
  pub few_sides : b.sides ≤ 2
  pub sides_in : (end : ℕ) → end < b.ends → b.side_of end < b.sides
  pub two_sides : b.sides ≡ 2 → IsTwoSided b

-- The laws of items.
pub record IsGiving (b : Behaviour) : Type 0 where
  pub given_alike : (side row other end : ℕ) → AreAsTheirGroup b side row other end → GivesAt b side row end → b.from side row end ≡ None
      → (b.from side other end ≡ None) × (b.given side row end None ≡ b.given side other end None)
  pub let_in_alike : (side row other end : ℕ) (item : Value) → AreAsTheirGroup b side row other end → b.takes_in end ≡ true
      → b.passes side row end item ≡ b.passes side other end item
  pub decides_alike : (side row other end giver : ℕ) → AreAsTheirGroup b side row other end → b.takes_in end ≡ true
      → GivesAt b side row giver → b.from side row giver ≡ Some end
      → GivesAt b side other giver × (b.from side other giver ≡ Some end) × ((taken : Option Value) → b.given side row giver taken ≡ b.given side other giver taken)
  pub from_end : (side row end from : ℕ) → GivesAt b side row end → b.from side row end ≡ Some from → IsEndOf b side from
  pub from_takes : (side row end from : ℕ) → GivesAt b side row end → b.from side row end ≡ Some from → b.takes_in from ≡ true
  pub from_flows : (side row end from : ℕ) → GivesAt b side row end → b.from side row end ≡ Some from → b.mark side row from ≡ F
  pub from_none : (side row end other : ℕ) → GivesAt b side row end → b.from side row end ≡ None → IsEndOf b side other → b.takes_in other ≡ false
  pub given_alone : (side row end : ℕ) → GivesAt b side row end → b.from side row end ≡ None → IsSome (b.given side row end None)
  pub given_for : (side row end from : ℕ) (item : Value) → GivesAt b side row end → b.from side row end ≡ Some from → IsSome (b.given side row end (Some item))
  pub given_for_none : (side row end from : ℕ) → GivesAt b side row end → b.from side row end ≡ Some from → b.given side row end None ≡ None

module _ (ends : EndLayout) (form : ℕ → Form) (lets_in : ℕ → Value → Bool) (given : Option Value → Option Value) where
  -- A primitive keeps the laws where its ends, its sides and its items do.
  pub lawful_by : AreEnds (behaviour_by ends form lets_in given)
      → ((side : ℕ) → side < side_count ends → IsSide (form side) (IsEndOf (behaviour_by ends form lets_in given) side))
      → IsGiving (behaviour_by ends form lets_in given)
      → IsLawful (behaviour_by ends form lets_in given)
  lawful_by lie sides items = record {
    some_side = lie.some_side;
    few_sides = lie.few_sides;
    sides_in = lie.sides_in;
    two_sides = lie.two_sides;
    some_row = λ side h. (sides side h).some_row;
    few_rows = λ side h. (sides side h).few_rows;
    jam_row = λ side row end h. (sides side h).jam_row row end;
    no_other_jam = λ side row end h. (sides side h).no_other_jam row end;
    told_apart = λ side row other h. (sides side h).told_apart row other;
    more_flow = λ side row other turn h. (sides side h).more_flow row other turn;
    same_class = λ side row other turn h. (sides side h).same_class row other turn;
    same_flow = λ side row other turn h. (sides side h).same_flow row other turn;
    jam_last = λ side row other turn h. (sides side h).jam_last row other turn;
    grouped = record {
      group_in = λ side row h. (sides side h).group_in row;
      few_groups = λ side h. (sides side h).few_groups;
      apart_end = λ side row end h. (sides side h).apart_end row end;
      common_mark = λ side row end h. (sides side h).common_mark row end;
      given_alike = items.given_alike;
      let_in_alike = items.let_in_alike;
      decides_alike = items.decides_alike;
    };
    from_end = items.from_end;
    from_takes = items.from_takes;
    from_flows = items.from_flows;
    from_none = items.from_none;
    given_alone = items.given_alone;
    given_for = items.given_for;
    given_for_none = items.given_for_none;
  }

-- The tables of sides with one end pass the test.
pub ready_facts : (can_flow : Bool) → TableFacts 1 (rows_of (ready_table can_flow))
ready_facts true = table_facts 1 (rows_of (ready_table true)) refl
ready_facts false = table_facts 1 (rows_of (ready_table false)) refl

pub ready_side : (can_flow : Bool) (IsIn : ℕ → Type 0) (end : ℕ) → IsIn end → IsSide (ready can_flow) IsIn
ready_side can_flow IsIn end is_in = single_side (ready_table can_flow) IsIn (ready_facts can_flow) end is_in

-- A side that flows can flow.
pub ready_flow : (can_flow : Bool) (row : ℕ) → mark_in (rows_of (ready_table can_flow)) row 0 ≡ F → can_flow ≡ true
ready_flow true row flows = refl
ready_flow false zero flows = absurd cc
ready_flow false (suc row) flows = absurd cc

-- The one side.
zero_side : (side : ℕ) → side < 1 → 0 ≡ side
zero_side side h = omega (arith, h)

zero_is_not_one : ◌≢◌ {A = ℕ} 0 1
zero_is_not_one = λ (e : 0 ≡ 1). absurd (omega (arith, e))

-- One end that gives by the state.
pub out_lawful : (offer : Option Value) → IsLawful (behaviour_by Out (λ _. ready (is_some offer)) (λ _ _. true) (λ _. offer))
out_lawful offer = lawful_by Out (λ _. ready (is_some offer)) (λ _ _. true) (λ _. offer)
    record { some_side = omega arith; few_sides = omega arith; sides_in = λ end h. omega arith; two_sides = λ h. absurd (omega arith) }
    (λ side h. ready_side (is_some offer) _ 0 (omega arith, zero_side side h))
    record {
      given_alike = λ side row other end at gives none. (refl, refl);
      let_in_alike = λ side row other end item at takes. refl;
      decides_alike = λ side row other end giver at takes gives is. absurd cc;
      from_end = λ side row end from at is. absurd cc;
      from_takes = λ side row end from at is. absurd cc;
      from_flows = λ side row end from at is. absurd cc;
      from_none = λ side row end other at is of_side. refl;
      given_alone = λ side row end at is. ready_flow (is_some offer) row at.flows;
      given_for = λ side row end from item at is. absurd cc;
      given_for_none = λ side row end from at is. absurd cc;
    }

-- Where each end takes in nothing is given.
takes_all : (b : Behaviour) → ((end : ℕ) → b.takes_in end ≡ true) → ((side row end : ℕ) (item : Value) → b.passes side row end item ≡ true) → IsGiving b
takes_all b takes all = record {
  given_alike = λ side row other end at gives none. absurd (no_giver end gives.gives);
  let_in_alike = λ side row other end item at is. all side row end item ∙ sym (all side other end item);
  decides_alike = λ side row other end giver at is gives from. absurd (no_giver giver gives.gives);
  from_end = λ side row end from at is. absurd (no_giver end at.gives);
  from_takes = λ side row end from at is. absurd (no_giver end at.gives);
  from_flows = λ side row end from at is. absurd (no_giver end at.gives);
  from_none = λ side row end other at is of_side. absurd (no_giver end at.gives);
  given_alone = λ side row end at is. absurd (no_giver end at.gives);
  given_for = λ side row end from item at is. absurd (no_giver end at.gives);
  given_for_none = λ side row end from at is. absurd (no_giver end at.gives);
}
  where
    no_giver : (end : ℕ) → b.takes_in end ≡ false → ⊥
    no_giver end gives = let is = takes end in cc

-- One end that takes in.
pub in_lawful : (pending : Bool) → IsLawful (behaviour_by In (λ _. ready pending) (λ _ _. true) (λ _. None))
in_lawful pending = lawful_by In (λ _. ready pending) (λ _ _. true) (λ _. None)
    record { some_side = omega arith; few_sides = omega arith; sides_in = λ end h. omega arith; two_sides = λ h. absurd (omega arith) }
    (λ side h. ready_side pending _ 0 (omega arith, zero_side side h))
    (takes_all _ (λ end. refl) (λ side row end item. refl))

-- Two ends that take in.
pub drain_lawful : (table : Table) → is_table 2 (rows_of table) ≡ true → IsLawful (behaviour_by InIn (λ _. Double table) (λ _ _. true) (λ _. None))
drain_lawful table is = lawful_by InIn (λ _. Double table) (λ _ _. true) (λ _. None)
    record { some_side = omega arith; few_sides = omega arith; sides_in = λ end h. omega arith; two_sides = λ h. absurd (omega arith) }
    (λ side h. double_side table _ (table_facts 2 (rows_of table) is) (λ end e. (e, zero_side side h)) (λ end e. e.0))
    (takes_all _ (λ end. refl) (λ side row end item. refl))

-- A channel's second end flows only with its first.
abbrev pub Passes : Rows → Type 0
Passes rows = (row : ℕ) → mark_in rows row 1 ≡ F → mark_in rows row 0 ≡ F

-- The end of a channel that gives is the second.
second_end : (end : ℕ) → end < 2 → (end == 0) ≡ false → end ≡ 1
second_end end h gives = grind (arith, nat_tests)

-- One end that takes in and one that gives, at one side.
pub channel_lawful : (table : Table) → is_table 2 (rows_of table) ≡ true → Passes (rows_of table) → (lets_in : ℕ → Value → Bool) (given : Option Value → Option Value)
    → given None ≡ None → ((item : Value) → IsSome (given (Some item))) → IsLawful (behaviour_by InOut (λ _. Double table) lets_in given)
channel_lawful table is passes lets_in given none some = lawful_by InOut (λ _. Double table) lets_in given
    record { some_side = omega arith; few_sides = omega arith; sides_in = λ end h. omega arith; two_sides = λ h. absurd (omega arith) }
    (λ side h. double_side table _ (table_facts 2 (rows_of table) is) (λ end e. (e, zero_side side h)) (λ end e. e.0))
    record {
      given_alike = λ side row other end at gives is. absurd cc;
      let_in_alike = λ side row other end item at takes. let same : row ≡ other = at.one_group in rw (same) refl;
      decides_alike = λ side row other end giver at takes gives from. let same : other ≡ row = sym at.one_group in rw (same) (gives, from, λ taken. refl);
      from_end = λ side row end from at is. let zero : 0 ≡ from = cc in (omega (arith, zero), at.is_end.1);
      from_takes = λ side row end from at is. let zero : 0 ≡ from = cc in grind (arith, nat_tests);
      from_flows = λ side row end from at is. let zero : from ≡ 0 = cc in let second = second_end end at.is_end.0 at.gives in rw (zero) (passes row (rw (sym second) at.flows));
      from_none = λ side row end other at is of_side. absurd cc;
      given_alone = λ side row end at is. absurd cc;
      given_for = λ side row end from item at is. some item;
      given_for_none = λ side row end from at is. none;
    }

-- A mouth and a tail.
tail_given : (free : Bool) (front : Option Value) (side row end : ℕ) → end < 2 → end ≡ side → (end == 0) ≡ false → mark_by (mouth_and_tail free front side) row end ≡ F → IsSome front
tail_given free front side row end h e gives flows =
    let one : 1 ≡ side = sym (second_end end h gives) ∙ e in
    ready_flow (is_some front) row (ap (λ s. mark_by (mouth_and_tail free front s) row end) one ∙ flows)

kept_sides : (free : Bool) (front : Option Value) (given : Option Value → Option Value) (side : ℕ) → side < 2
    → IsSide (mouth_and_tail free front side) (IsEndOf (behaviour_by MouthTail (mouth_and_tail free front) (λ _ _. true) given) side)
kept_sides free front given zero h = ready_side free _ 0 (omega arith, refl)
kept_sides free front given (suc zero) h = ready_side (is_some front) _ 1 (omega arith, refl)
kept_sides free front given (suc (suc side)) h = absurd (omega (arith, h))

pub kept_lawful : (free : Bool) (front : Option Value) → IsLawful (behaviour_by MouthTail (mouth_and_tail free front) (λ _ _. true) (λ _. front))
kept_lawful free front = lawful_by MouthTail (mouth_and_tail free front) (λ _ _. true) (λ _. front)
    record {
      some_side = omega arith;
      few_sides = omega arith;
      sides_in = λ end h. h;
      two_sides = λ h. record {
        ends = refl;
        apart = zero_is_not_one;
        mouth = λ end e. let zero = e.1 in grind (arith, nat_tests, zero);
        tail = λ end e. let one = e.1 in grind (arith, nat_tests, one);
      };
    }
    (kept_sides free front (λ _. front))
    record {
      given_alike = λ side row other end at gives none. (refl, refl);
      let_in_alike = λ side row other end item at takes. refl;
      decides_alike = λ side row other end giver at takes gives is. absurd cc;
      from_end = λ side row end from at is. absurd cc;
      from_takes = λ side row end from at is. absurd cc;
      from_flows = λ side row end from at is. absurd cc;
      from_none = λ side row end other at is of_side. let same : other ≡ end = of_side.1 ∙ sym at.is_end.1 in ap (λ e. e == 0) same ∙ at.gives;
      given_alone = λ side row end at is. tail_given free front side row end at.is_end.0 at.is_end.1 at.gives at.flows;
      given_for = λ side row end from item at is. absurd cc;
      given_for_none = λ side row end from at is. absurd cc;
    }

-- So many inputs and an output.
pub merger_lawful : (branches : Branches) → IsLawful (behaviour_by (Inputs branches) (λ _. Merging branches) (λ _ _. true) (λ taken. taken))
merger_lawful branches = lawful_by (Inputs branches) (λ _. Merging branches) (λ _ _. true) (λ taken. taken)
    record { some_side = omega arith; few_sides = omega arith; sides_in = λ end h. omega arith; two_sides = λ h. absurd (omega arith) }
    (λ side h. merger_side branches _ (λ end e. (e, zero_side side h)) (λ end e. e.0))
    record {
      given_alike = λ side row other end at gives none. absurd cc;
      let_in_alike = λ side row other end item at takes. refl;
      decides_alike = λ side row other end giver at takes gives is.
          let this : row ≡ end = cc in let flows : row < branches.count = merger_flow branches.count row giver gives.flows in let apart = at.row_with in
          absurd (apart (grind (arith, nat_tests)));
      from_end = λ side row end from at is. let this : row ≡ from = cc in let flows : row < branches.count = merger_flow branches.count row end at.flows in (omega arith, at.is_end.1);
      from_takes = λ side row end from at is. let this : row ≡ from = cc in let flows : row < branches.count = merger_flow branches.count row end at.flows in grind (arith, nat_tests);
      from_flows = λ side row end from at is. let this : row ≡ from = cc in let flows : row < branches.count = merger_flow branches.count row end at.flows in grind (arith, nat_tests);
      from_none = λ side row end other at is of_side. absurd cc;
      given_alone = λ side row end at is. absurd cc;
      given_for = λ side row end from item at is. refl;
      given_for_none = λ side row end from at is. refl;
    }

-- An input and so many outputs.
pub replicator_lawful : (branches : Branches) → IsLawful (behaviour_by (Outputs branches) (λ _. Replicating branches) (λ _ _. true) (λ taken. taken))
replicator_lawful branches = lawful_by (Outputs branches) (λ _. Replicating branches) (λ _ _. true) (λ taken. taken)
    record { some_side = omega arith; few_sides = omega arith; sides_in = λ end h. omega arith; two_sides = λ h. absurd (omega arith) }
    (λ side h. replicator_side branches _ (λ end e. (e, zero_side side h)) (λ end e. e.0))
    record {
      given_alike = λ side row other end at gives none. absurd cc;
      let_in_alike = λ side row other end item at takes. refl;
      decides_alike = λ side row other end giver at takes gives is.
          let flows = gives.flows in let group = at.one_group in
          let this : row ≡ 0 = grind (arith, nat_tests, flows) in let that : other ≡ row = grind (arith, nat_tests, group, this) in
          rw (that) (gives, is, λ taken. refl);
      from_end = λ side row end from at is. let zero : 0 ≡ from = cc in (omega (arith, zero), at.is_end.1);
      from_takes = λ side row end from at is. let zero : 0 ≡ from = cc in grind (arith, nat_tests);
      from_flows = λ side row end from at is. let zero : 0 ≡ from = cc in let flows = at.flows in grind (arith, nat_tests);
      from_none = λ side row end other at is of_side. absurd cc;
      given_alone = λ side row end at is. absurd cc;
      given_for = λ side row end from item at is. refl;
      given_for_none = λ side row end from at is. refl;
    }
