-- The classes of each kind are by the rule.
use Rattle.std.proofs.Common.{ℕ, zero, suc, ◌+◌, ◌<◌, ◌≡◌, true, Bool, not, is_some, nat_lt, length, Option, refl, arith}
use Rattle.std.proofs.lemmas.Bool.Decides.{nat_tests}
use Rattle.reo_values.specs.declared.value.Value.{Value}
use Rattle.reo_net_base.specs.Behaviour.{IsEndOf}
use Rattle.reo_buffers.specs.Stored.{is_full}
use Rattle.reo_kinds.specs.declared.ends.EndLayout.{EndLayout}
use Rattle.reo_kinds.specs.declared.ends.EndLayout.TheVariants.{Out, In, InOut, InIn, MouthTail, Outputs}
use Rattle.reo_net_base.specs.declared.branches.Branches.{Branches}
use Rattle.reo_kinds.specs.declared.kind.Kind.{Kind}
use Rattle.reo_kinds.specs.declared.kind.Kind.TheVariants.{Writer, Taker, Sync, Lossy, SyncDrain, AsyncDrain, Store, Shift, Variable, Quota, Filter, Map, Merger, Replicator}
use Rattle.reo_net_base.specs.declared.table.Table.{Table}
use Rattle.reo_net_base.specs.declared.table.Table.TheVariants as tables
use Rattle.reo_net_base.specs.declared.form.Form.{Form}
use Rattle.reo_net_base.specs.declared.form.Form.TheVariants.{Single, Double, Replicating}
use Rattle.reo_net_base.specs.Tables.{rows_of}
use Rattle.reo_net_base.specs.Forms.{rows_by, class_by}
use Rattle.reo_kinds.specs.Forms.{behaviour_by}
use Rattle.reo_kinds.specs.TableTests.{is_table, TableFacts, table_facts, set_count, first_row}
use Rattle.reo_kinds.specs.SideLaws.{FlowsBy, only_zero}
use Rattle.reo_kinds.specs.ItemLaws.{ready_facts}
use Rattle.reo_kinds.specs.KindLaws.{quota_is}
use Rattle.reo_kinds.specs.Kinds.{behaviour_of, ready, ready_table, quota_table, mouth_and_tail, front_of, lets_in, given_of}
use Rattle.reo_kinds.specs.RuleOfClasses.{IsByRule, IsInTurn, IsClassed}

-- The rule for the form of a side at its ends.
record IsRuled (form : Form) (IsIn : ℕ → Type 0) (turn : ℕ) : Type 0 where
  sets : ℕ
  first : ℕ → ℕ
  in_order : (before set : ℕ) → before < set → set < sets → first before < first set
  plain : (set : ℕ) → set < sets → first set + 1 < rows_by form
  none_before : (set other : ℕ) → set < sets → other < first set → ¬ (FlowsBy form IsIn other (first set) × FlowsBy form IsIn (first set) other)
  place : (row : ℕ) → row + 1 < rows_by form → class_by form row turn < sets
  of_set : (row : ℕ) → row + 1 < rows_by form → FlowsBy form IsIn (first (class_by form row turn)) row × FlowsBy form IsIn row (first (class_by form row turn))
  jam : (row : ℕ) → row + 1 ≡ rows_by form → class_by form row turn ≡ sets

by_rule : (ends : EndLayout) (form : ℕ → Form) (lets_in : ℕ → Value → Bool) (given : Option Value → Option Value) (side turn : ℕ)
    → IsRuled (form side) (IsEndOf (behaviour_by ends form lets_in given) side) turn → IsByRule (behaviour_by ends form lets_in given) side turn
by_rule ends form lets_in given side turn is = record {
  sets = is.sets;
  first = is.first;
  in_order = is.in_order;
  is_first = λ set h. record { plain = is.plain set h; none_before = λ other l. is.none_before set other h l };
  place = is.place;
  of_set = is.of_set;
  jam = is.jam;
}

module _ (table : Table) (IsIn : ℕ → Type 0) (turn : ℕ) where
  double_ruled : TableFacts 2 (rows_of table) → ((end : ℕ) → end < 2 → IsIn end) → ((end : ℕ) → IsIn end → end < 2) → IsRuled (Double table) IsIn turn
  double_ruled t is_in within = record {
    sets = set_count (rows_of table);
    first = first_row (rows_of table);
    in_order = t.in_order;
    plain = λ set h. let below = t.plain set h in omega (arith, below);
    none_before = λ set other h l both. t.first set other h l ((λ end e. both.0 end (is_in end e)), (λ end e. both.1 end (is_in end e)));
    place = λ row h. t.place row (omega (arith, h));
    of_set = λ row h. let same = t.same row (omega (arith, h)) in ((λ end e. same.0 end (within end e)), (λ end e. same.1 end (within end e)));
    jam = λ row last. let is : row ≡ length (rows_of table) = omega (arith, last) in let jam = t.jam in rw (is) jam;
  }

  single_ruled : TableFacts 1 (rows_of table) → (end : ℕ) → IsIn end → IsRuled (Single table) IsIn turn
  single_ruled t one is_in = record {
    sets = set_count (rows_of table);
    first = first_row (rows_of table);
    in_order = t.in_order;
    plain = λ set h. let below = t.plain set h in omega (arith, below);
    none_before = λ set other h l both. t.first set other h l (only_zero _ (both.0 one is_in), only_zero _ (both.1 one is_in));
    place = λ row h. t.place row (omega (arith, h));
    of_set = λ row h. let same = t.same row (omega (arith, h)) in ((λ end e. same.0 0 (omega arith)), (λ end e. same.1 0 (omega arith)));
    jam = λ row last. let is : row ≡ length (rows_of table) = omega (arith, last) in let jam = t.jam in rw (is) jam;
  }

-- A replicator: all ends flow, or none.
replicator_ruled : (branches : Branches) (IsIn : ℕ → Type 0) (turn : ℕ) → IsIn 0 → IsRuled (Replicating branches) IsIn turn
replicator_ruled branches IsIn turn zero_in = record {
  sets = 2;
  first = λ set. set;
  in_order = λ before set h k. h;
  plain = λ set h. omega (arith, h);
  none_before = λ set other h l both. let flows = both.0 0 zero_in in absurd (grind (arith, nat_tests, flows));
  place = λ row h. grind (arith, nat_tests);
  of_set = λ row h. ((λ end e f. grind (arith, nat_tests)), (λ end e f. grind (arith, nat_tests)));
  jam = λ row last. grind (arith, nat_tests);
}

-- A merger's inputs take turns.
merger_in_turn : (branches : Branches) (side turn : ℕ) → IsInTurn (behaviour_of (Merger branches)) branches.count side turn
merger_in_turn branches side turn = record {
  inputs = λ row h. grind (arith, nat_tests);
  output_rests = grind (arith, nat_tests);
  inputs_rest = grind (arith, nat_tests);
  jam = grind (arith, nat_tests);
}

zero_side : (side : ℕ) → side < 1 → 0 ≡ side
zero_side side h = omega (arith, h)

-- Sides by their ends.
module _ (lets_in : ℕ → Value → Bool) (given : Option Value → Option Value) (side turn : ℕ) where
  channel_rule : (table : Table) → side < 1 → is_table 2 (rows_of table) ≡ true → IsByRule (behaviour_by InOut (λ _. Double table) lets_in given) side turn
  channel_rule table h is = by_rule InOut (λ _. Double table) lets_in given side turn
      (double_ruled table _ turn (table_facts 2 (rows_of table) is) (λ end e. (e, zero_side side h)) (λ end e. e.0))

  drain_rule : (table : Table) → side < 1 → is_table 2 (rows_of table) ≡ true → IsByRule (behaviour_by InIn (λ _. Double table) lets_in given) side turn
  drain_rule table h is = by_rule InIn (λ _. Double table) lets_in given side turn
      (double_ruled table _ turn (table_facts 2 (rows_of table) is) (λ end e. (e, zero_side side h)) (λ end e. e.0))

  out_rule : (can_flow : Bool) → side < 1 → IsByRule (behaviour_by Out (λ _. ready can_flow) lets_in given) side turn
  out_rule can_flow h = by_rule Out (λ _. ready can_flow) lets_in given side turn
      (single_ruled (ready_table can_flow) _ turn (ready_facts can_flow) 0 (omega arith, zero_side side h))

  in_rule : (can_flow : Bool) → side < 1 → IsByRule (behaviour_by In (λ _. ready can_flow) lets_in given) side turn
  in_rule can_flow h = by_rule In (λ _. ready can_flow) lets_in given side turn
      (single_ruled (ready_table can_flow) _ turn (ready_facts can_flow) 0 (omega arith, zero_side side h))

  replicator_rule : (branches : Branches) → side < 1 → IsByRule (behaviour_by (Outputs branches) (λ _. Replicating branches) lets_in given) side turn
  replicator_rule branches h = by_rule (Outputs branches) (λ _. Replicating branches) lets_in given side turn
      (replicator_ruled branches _ turn (omega arith, zero_side side h))

kept_ruled : (free : Bool) (front : Option Value) (lets_in : ℕ → Value → Bool) (given : Option Value → Option Value) (side turn : ℕ) → side < 2
    → IsRuled (mouth_and_tail free front side) (IsEndOf (behaviour_by MouthTail (mouth_and_tail free front) lets_in given) side) turn
kept_ruled free front lets_in given zero turn h = single_ruled (ready_table free) _ turn (ready_facts free) 0 (omega arith, refl)
kept_ruled free front lets_in given (suc zero) turn h = single_ruled (ready_table (is_some front)) _ turn (ready_facts (is_some front)) 1 (omega arith, refl)
kept_ruled free front lets_in given (suc (suc side)) turn h = absurd (omega (arith, h))

kept_rule : (free : Bool) (front : Option Value) (lets_in : ℕ → Value → Bool) (given : Option Value → Option Value) (side turn : ℕ) → side < 2
    → IsByRule (behaviour_by MouthTail (mouth_and_tail free front) lets_in given) side turn
kept_rule free front lets_in given side turn h = by_rule MouthTail (mouth_and_tail free front) lets_in given side turn (kept_ruled free front lets_in given side turn h)

pub classed : (kind : Kind) (side turn : ℕ) → side < (behaviour_of kind).sides → IsClassed kind side turn
classed (Writer port) side turn h = out_rule (lets_in (Writer port)) (given_of (Writer port)) side turn (is_some port.offer) h
classed (Taker port) side turn h = in_rule (lets_in (Taker port)) (given_of (Taker port)) side turn port.pending h
classed Sync side turn h = channel_rule (lets_in Sync) (given_of Sync) side turn tables.Together h refl
classed Lossy side turn h = channel_rule (lets_in Lossy) (given_of Lossy) side turn tables.Lossy h refl
classed SyncDrain side turn h = drain_rule (lets_in SyncDrain) (given_of SyncDrain) side turn tables.Together h refl
classed AsyncDrain side turn h = drain_rule (lets_in AsyncDrain) (given_of AsyncDrain) side turn tables.OneOfTwo h refl
classed (Store buffer) side turn h = kept_rule (not (is_full buffer)) (front_of buffer) (lets_in (Store buffer)) (given_of (Store buffer)) side turn h
classed (Shift buffer) side turn h = kept_rule true (front_of buffer) (lets_in (Shift buffer)) (given_of (Shift buffer)) side turn h
classed (Variable held) side turn h = kept_rule true held (lets_in (Variable held)) (given_of (Variable held)) side turn h
classed (Quota left) side turn h = channel_rule (lets_in (Quota left)) (given_of (Quota left)) side turn (quota_table (nat_lt 0 left)) h (quota_is (nat_lt 0 left))
classed (Filter rule) side turn h = channel_rule (lets_in (Filter rule)) (given_of (Filter rule)) side turn tables.Filter h refl
classed (Map rule) side turn h = channel_rule (lets_in (Map rule)) (given_of (Map rule)) side turn tables.Together h refl
classed (Merger branches) side turn h = merger_in_turn branches side turn
classed (Replicator branches) side turn h = replicator_rule (lets_in (Replicator branches)) (given_of (Replicator branches)) side turn branches h
