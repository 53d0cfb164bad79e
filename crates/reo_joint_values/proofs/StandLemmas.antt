-- Items of assignments can stand.
use Rattle.std.proofs.Common.{◌≡◌, inl, inr, ℕ, zero, suc, ◌+◌, ◌<◌, List, [], ◌∷◌, Bool, true, false, cond, Option, None, Some, length, get_or, refl, ap, sym, ◌∙◌, subst, arith}
use Rattle.std.specs.Option.{option_and_then}
use Rattle.std.proofs.lemmas.Bool.{cases_eq}
use Rattle.std.proofs.lemmas.List.{get_or_default}
use Rattle.reo_values.specs.declared.value.Value.{Value}
use Rattle.reo_net_base.specs.Wired.{OrderExists, IsWired, IsOrder}
use Rattle.reo_net_base.specs.declared.mark.Mark.TheVariants.{F, J}
use Rattle.reo_net_base.specs.declared.joint.End.{End}
use Rattle.reo_net_base.specs.declared.joint.Joint.{Joint}
use Rattle.reo_net_base.specs.Behaviour.{Behaviour, IsPlainRow}
use Rattle.reo_net_base.specs.Ends.{IsGiver}
use Rattle.reo_net_base.specs.Lawful.{GivesAt}
use Rattle.reo_net_base.specs.Net.{Net, behaviour_at, end_of, end_eq, side_at, side_of_end, row_at, from_sides, to_sides}
use Rattle.reo_net_base.specs.Colouring.{taken_at, given_at, lets_in, HasItem, ItemFits}
use Rattle.reo_net_base.proofs.Ends.{end_self}
use Rattle.reo_net_laws.specs.Ends.{mark_in, from_in, IsSource}
use Rattle.reo_net_laws.specs.Parts.{IsClosed, IsAssignment, is_joint_inside}
use Rattle.reo_net_laws.proofs.Items.{end_is, along_order}
use Rattle.reo_net_laws.proofs.Joined.{source_taken}
use Rattle.reo_joint_values.proofs.Sides.{row_is, side_in_range, row_in_table, gives_at}
use Rattle.reo_joint_values.specs.Standing.{no_joint, giver_of, taker_of, given_in, passes_in, FlowsAt, CanStand}
use Rattle.reo_joint_values.specs.Standing.CanStand.{alone, passed}
use Rattle.reo_joint_values.specs.StandingLaws.{PossibleItemsAreClosed, PossibleItemsAreLeast, ItemsCanStand}

-- The giver of a joint gives.
pub giver_gives : (net : Net) → IsWired net → (j : ℕ) → j < length net.joints → IsGiver net (giver_of net j)
giver_gives net wired j lt = record { is_end = wired.givers j no_joint lt; gives = wired.gives j no_joint lt }

pub possible_closed : PossibleItemsAreClosed
possible_closed net = record {
  alone = λ j row item lt gives. alone j row item lt gives;
  passed = λ j row k taken item lt gives before. passed j row k taken item lt gives before;
}

pub possible_least : PossibleItemsAreLeast
possible_least net test closed j item (alone i row x lt gives) = closed.alone i row x lt gives
possible_least net test closed j item (passed i row k taken x lt gives before) = closed.passed i row k taken x lt gives (possible_least net test closed k taken before)

-- The item at an end is the item at the one joint that goes there.
taken_is : (joints : List Joint) (items : List (Option Value)) (e : End) (k : ℕ) → k < length joints → length items ≡ length joints → ((d : Joint) → (get_or joints k d).taker ≡ e)
    → ((j : ℕ) (d : Joint) → j < length joints → (get_or joints j d).taker ≡ e → j ≡ k) → taken_at joints items e ≡ get_or items k None
taken_is [] items e k lt n here only = absurd (omega arith)
taken_is (joint ∷ joints) [] e k lt n here only = absurd (omega arith)
taken_is (joint ∷ joints) (item ∷ items) e zero lt n here only =
    ap (λ (t : Bool). cond t item (taken_at joints items e)) (ap (λ (x : End). end_eq x e) (here joint) ∙ end_self e)
taken_is (joint ∷ joints) (item ∷ items) e (suc k) lt n here only =
    elim (end_eq joint.taker e) as (λ t. end_eq joint.taker e ≡ t → cond t item (taken_at joints items e) ≡ get_or items k None) [
      | true ↦ λ held. let same = only zero joint (omega arith) (end_is joint.taker e held) in absurd (omega (arith, same))
      | false ↦ λ not_it. taken_is joints items e k (omega arith) (omega arith) here (λ j d j_in is. let same = only (suc j) d (omega arith) is in omega (arith, same))
    ] refl

module _ (net : Net) (wired : IsWired net) (inside : ℕ → Bool) (closed : IsClosed net inside) (rows : List ℕ) (items : List (Option Value)) (is : IsAssignment net inside rows items) where
  abbrev joint_at : ℕ → Joint
  joint_at j = get_or net.joints j no_joint

  abbrev Stands : ℕ → Type 0
  Stands j = (item : Value) → is_joint_inside net inside (get_or net.joints j no_joint) ≡ true → get_or items j None ≡ Some item → CanStand net j item

  has_item : (j : ℕ) → j < length net.joints → is_joint_inside net inside (joint_at j) ≡ true → (item : Value) → get_or items j None ≡ Some item → HasItem net rows items (joint_at j) item
  has_item j lt h item at = subst (λ (o : Option Value). ItemFits net rows items (joint_at j) o) at (is.items_fit j no_joint lt h)

  module _ (j : ℕ) (lt : j < length net.joints) (h : is_joint_inside net inside (joint_at j) ≡ true) (item : Value) (has : HasItem net rows items (joint_at j) item) where
    abbrev giver : End
    giver = giver_of net j

    abbrev row : ℕ
    row = row_at net rows (giver_of net j)

    below : row_at net rows (giver_of net j) < (behaviour_at net.primitives (giver_of net j).primitive).rows ((behaviour_at net.primitives (giver_of net j).primitive).side_of (giver_of net j).end)
    below =
        let e_in = wired.givers j no_joint lt in
        row_in_table net wired giver e_in rows (side_of_end net giver) (is.in_tables (side_at net giver) (side_of_end net giver) (side_in_range net wired giver e_in) h)

    gives : GivesAt (behaviour_at net.primitives (giver_of net j).primitive) ((behaviour_at net.primitives (giver_of net j).primitive).side_of (giver_of net j).end) (row_at net rows (giver_of net j)) (giver_of net j).end
    gives = gives_at net wired giver (wired.givers j no_joint lt) rows (wired.gives j no_joint lt) below has.flows

    -- The row that gives an item is no jam row.
    plain : IsPlainRow (behaviour_at net.primitives (giver_of net j).primitive) ((behaviour_at net.primitives (giver_of net j).primitive).side_of (giver_of net j).end) (row_at net rows (giver_of net j))
    plain =
        let b : Behaviour = behaviour_at net.primitives giver.primitive in
        let side : ℕ = b.side_of giver.end in
        let lawful = wired.lawful giver.primitive (wired.givers j no_joint lt).0 in
        elim (cases_eq (row + 1) (b.rows side)) [
          | inl last ↦ let wrong : F ≡ J = sym gives.flows ∙ lawful.jam_row side row giver.end gives.of_side gives.is_end last in absurd cc
          | inr other ↦ omega (arith, below, other)
        ]

    flows : FlowsAt net (giver_of net j) (row_at net rows (giver_of net j))
    unfolding mark_in
    flows = record { plain = plain; flows = gives.flows }

    given : (o : Option ℕ) → from_in net (row_at net rows (giver_of net j)) (giver_of net j) ≡ o
        → given_in net (row_at net rows (giver_of net j)) (giver_of net j) (option_and_then (λ from. taken_at net.joints items (end_of (giver_of net j).primitive from)) o) ≡ Some item
    unfolding given_at from_in given_in
    given o from =
        let b : Behaviour = behaviour_at net.primitives giver.primitive in
        let side : ℕ = b.side_of giver.end in
        ap (λ (o : Option ℕ). b.given side row giver.end (option_and_then (λ from. taken_at net.joints items (end_of giver.primitive from)) o)) (sym from) ∙ has.given

    -- What is taken at the end that decides, the row lets in.
    lets : (k from : ℕ) → IsSource net (row_at net rows (giver_of net j)) (giver_of net j) from k → (taken : Value) → HasItem net rows items (joint_at k) taken
        → passes_in net (row_at net rows (giver_of net j)) (taker_of net k) taken ≡ true
    unfolding lets_in passes_in
    lets k from source taken has_k =
        let e : End = taker_of net k in
        let b : Behaviour = behaviour_at net.primitives e.primitive in
        let sides : side_at net e ≡ side_at net giver = ap (side_at net) (source.taker no_joint) ∙ source.same_side in
        let same : row_at net rows e ≡ row = row_is net rows e ∙ ap (λ (s : ℕ). get_or rows s 0) sides ∙ sym (row_is net rows giver) in
        ap (λ (r : ℕ). b.passes (b.side_of e.end) r e.end taken) (sym same) ∙ has_k.let_in

    -- The item stands at the joint, if what was taken for it stands where it was taken.
    stands_from : (k f : ℕ) → IsSource net (row_at net rows (giver_of net j)) (giver_of net j) f k → from_in net (row_at net rows (giver_of net j)) (giver_of net j) ≡ Some f → Stands k
        → is_joint_inside net inside (joint_at k) ≡ true → (o : Option Value) → get_or items k None ≡ o → given_in net (row_at net rows (giver_of net j)) (giver_of net j) o ≡ Some item → CanStand net j item
    unfolding given_in from_in
    stands_from k f source from stands k_inside None at given_k =
        let b : Behaviour = behaviour_at net.primitives giver.primitive in
        let lawful = wired.lawful giver.primitive (wired.givers j no_joint lt).0 in
        let wrong : None ≡ Some item = sym (lawful.given_for_none (b.side_of giver.end) row giver.end f gives from) ∙ given_k in
        absurd cc
    stands_from k f source from stands k_inside (Some taken) at given_k =
        passed j row k taken item lt
        (record {
          brings = record { flows = flows; in_range = source.in_range; from = f; decides = from; taker = source.taker no_joint };
          given = record { let_in = lets k f source taken (has_item k source.in_range k_inside taken at); given = given_k };
        })
        (stands taken k_inside at)

    -- The item stands at the joint, if the items at the joints that feed it stand there.
    stands_for : ((k : ℕ) → k < length net.joints → side_at net (taker_of net k) ≡ side_at net (giver_of net j) → Stands k)
        → (o : Option ℕ) → from_in net (row_at net rows (giver_of net j)) (giver_of net j) ≡ o → CanStand net j item
    stands_for fed None from = alone j row item lt (record { flows = flows; alone = from; given = given None from })
    stands_for fed (Some f) from =
        let found = source_taken net wired j row f no_joint lt below flows.flows from in
        let k : ℕ = found.0 in
        let source = found.1 in
        let sides : side_at net (taker_of net k) ≡ side_at net giver = ap (side_at net) (source.taker no_joint) ∙ source.same_side in
        let k_inside : is_joint_inside net inside (joint_at k) ≡ true = closed.along k no_joint source.in_range ∙ ap inside sides ∙ h in
        let taken : taken_at net.joints items (end_of giver.primitive f) ≡ get_or items k None = taken_is net.joints items (end_of giver.primitive f) k source.in_range is.one_item source.taker source.only in
        let given_k : given_in net row giver (get_or items k None) ≡ Some item = ap (given_in net row giver) (sym taken) ∙ given (Some f) from in
        stands_from k f source from (fed k source.in_range sides) k_inside (get_or items k None) refl given_k

  all_stand : (order : List ℕ) → IsOrder net order → (j : ℕ) → j < length net.joints → Stands j
  all_stand order is_order =
      along_order net order is_order Stands (λ j lt fed item h at.
      stands_for j lt h item (has_item j lt h item at) (λ k k_in feeds. fed k no_joint no_joint k_in feeds) (from_in net (row_at net rows (giver_of net j)) (giver_of net j)) refl)

pub items_stand : OrderExists → ItemsCanStand
items_stand exists net wired no_cycle inside closed rows items is j d item lt h at =
    elim (exists (from_sides net) (to_sides net)) [
      | inl found ↦ all_stand net wired inside closed rows items is found.0 found.1 j lt item (ap (is_joint_inside net inside) (get_or_default net.joints j no_joint d lt) ∙ h) at
      | inr cycle ↦ absurd (no_cycle cycle.0 cycle.1)
    ]
