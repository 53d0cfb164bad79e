-- Where the first colouring jams and flows.
use Rattle.std.proofs.Common.{◌≡◌, ◌≢◌, inl, inr, ℕ, ◌<◌, ◌≤◌, List, Option, Bool, true, false, not, length, get_or, refl, ap, sym, ◌∙◌, arith}
use Rattle.std.proofs.lemmas.Bool.{and_parts, not-true}
use Rattle.std.specs.Prelude.{◌&&◌}
use Rattle.std.specs.declared.cmp.Ordering.TheVariants.{Less}
use Rattle.reo_values.specs.declared.value.Value.{Value}
use Rattle.reo_net_base.specs.declared.mark.Mark.TheVariants.{F}
use Rattle.reo_net_base.specs.declared.joint.End.{End}
use Rattle.reo_net_base.specs.Behaviour.{FlowsWithin}
use Rattle.reo_net_base.specs.Net.{Net, Side, all_sides, no_side, behaviour_at, end_of, side_at, mark_at}
use Rattle.reo_net_base.specs.Colouring.{IsColouring}
use Rattle.reo_net_base.specs.First.{Position, positions, order_by}
use Rattle.reo_net_base.specs.Wired.{IsWired}
use Rattle.reo_net_laws.specs.Parts.{IsClosed, IsAssignment, outside, mixed, mixed_items}
use Rattle.reo_net_laws.specs.Keys.{IsLeastBy, ClassesLead, class_in}
use Rattle.reo_net_laws.specs.Jams.{IsThreeColouring, jams}
use Rattle.reo_net_laws.specs.FirstLaws.{FirstJamsForCause, PartJamsForCause, KnotJamsExactly, NoneFlowsMore, FirstFlows, FlowsToo, Flows}
use Rattle.reo_net_laws.proofs.Sides.{Owner, owner_of, owner_side, owner_at, side_at_place, side_in_range, row_is}
use Rattle.reo_net_laws.proofs.Sets.{everywhere, everywhere_closed, restricted, smaller, outside_closed}
use Rattle.reo_net_laws.proofs.Mixing.{mix, mix_in, mixed_true, mixed_false}
use Rattle.reo_net_laws.proofs.Places.{cmp_within, classes_lead}
use Rattle.reo_net_laws.proofs.Jams.{is_jam, end_jams, jams_closed, row_of, plain_of, last_of}
use Rattle.reo_net_laws.proofs.Classes.{class_at_most, class_below}
use Rattle.reo_net_laws.proofs.Search.{Decided, any_below, flow_or}
use Rattle.reo_net_laws.proofs.FirstInside.{first_inside}

-- The mark of an end of a side.
pub mark_of : (net : Net) (rows : List ℕ) (k : ℕ) (o : Owner net.primitives k) (end : ℕ) → (behaviour_at net.primitives o.primitive).side_of end ≡ o.number
    → mark_at net rows (end_of o.primitive end) ≡ (behaviour_at net.primitives o.primitive).mark o.number (get_or rows k 0) end
unfolding mark_at
mark_of net rows k o end is =
    let e : End = end_of o.primitive end in
    let place : side_at net e ≡ k = omega (arith, side_at_place net e, is, o.place) in
    λ i. (behaviour_at net.primitives o.primitive).mark (is i) ((row_is net rows e ∙ ap (λ (s : ℕ). get_or rows s 0) place) i) end

class_is : (net : Net) (turn : ℕ) (rows : List ℕ) (k : ℕ) (o : Owner net.primitives k) → class_in net turn rows k ≡ (behaviour_at net.primitives o.primitive).class o.number (get_or rows k 0) turn
class_is net turn rows k o = ap (λ (s : Side). s.of.class s.number (get_or rows k 0) turn) (owner_side net.primitives k o no_side)

module _ (net : Net) (wired : IsWired net) (turn : ℕ) (ps : List Position) (led : ClassesLead net turn ps) where
  -- The class of the row at a side, by the side's primitive.
  abbrev class_at : (k : ℕ) → Owner net.primitives k → List ℕ → ℕ
  class_at k o rows = (behaviour_at net.primitives o.primitive).class o.number (get_or rows k 0) turn

  -- Rows of one list on a set where their classes are not greater, and somewhere smaller, and of another elsewhere stand before the other.
  less_mixed : (q : ℕ → Bool) (a b : List ℕ) → length a ≡ length b
      → ((k : ℕ) (o : Owner net.primitives k) → k < length (all_sides net.primitives) → q k ≡ true → class_at k o a ≤ class_at k o b)
      → (k : ℕ) (o : Owner net.primitives k) → k < length (all_sides net.primitives) → q k ≡ true → class_at k o a < class_at k o b → order_by ps (mixed q a b) b ≡ Less
  less_mixed q a b n each k o lt h less =
      led.decided (mixed q a b) b
      (λ i i_lt.
      let p = owner_of net.primitives i i_lt in
      elim (q i) as (λ t. q i ≡ t → class_in net turn (mixed q a b) i ≤ class_in net turn b i) [
        | true ↦ λ g. omega (arith, class_is net turn b i p, class_is net turn (mixed q a b) i p, moved i p a (mixed_true q a b i n g), each i p i_lt g)
        | false ↦ λ g. omega (arith, class_is net turn b i p, class_is net turn (mixed q a b) i p, moved i p b (mixed_false q a b i n g))
      ] refl)
      k lt (omega (arith, class_is net turn b k o, class_is net turn (mixed q a b) k o, moved k o a (mixed_true q a b k n h), less))
    where
      moved : (k : ℕ) (o : Owner net.primitives k) (x : List ℕ) → get_or (mixed q a b) k 0 ≡ get_or x k 0 → class_at k o (mixed q a b) ≡ class_at k o x
      moved k o x same = ap (λ (r : ℕ). (behaviour_at net.primitives o.primitive).class o.number r turn) same

  -- The least assignment of a closed set that has a three-colouring jams nowhere.
  calm : (p : ℕ → Bool) → IsClosed net p → (rows : List ℕ) (items : List (Option Value)) → IsAssignment net p rows items → IsLeastBy net p ps rows
      → (b : List ℕ) (ys : List (Option Value)) → IsThreeColouring net p b ys → (k : ℕ) → k < length (all_sides net.primitives) → p k ≡ true → jams net rows k ≡ false
  calm p closed rows items is least b ys three k lt h =
      let q : ℕ → Bool = λ i. p i && jams net rows i in
      let q_closed = jams_closed net wired p closed rows items is in
      let part = smaller net p (λ i. p i && q i) b ys (λ i g. (and_parts (p i) (q i) g).0) three.assignment in
      let rest = smaller net p (λ i. p i && outside q i) rows items (λ i g. (and_parts (p i) (outside q i) g).0) is in
      let n : length b ≡ length rows = part.one_row ∙ sym rest.one_row in
      let m : List ℕ = mixed q b rows in
      let smaller_class : (i : ℕ) (o : Owner net.primitives i) → i < length (all_sides net.primitives) → q i ≡ true → class_at i o b < class_at i o rows =
      λ i o i_lt g.
      let p_i = (and_parts (p i) (jams net rows i) g).0 in
      (wired.lawful o.primitive o.primitive_in).jam_last o.number (get_or b i 0) (get_or rows i 0) turn o.number_in
      (plain_of net wired p closed b ys three.assignment i o i_lt p_i (three.no_jam i i_lt p_i)) (last_of net rows i o ((and_parts (p i) (jams net rows i) g).1)) in
      elim (jams net rows k) as (λ t. jams net rows k ≡ t → t ≡ false) [
        | false ↦ λ e. refl
        | true ↦ λ e.
            let o = owner_of net.primitives k lt in
            let here : q k ≡ true = λ i. h i && e i in
            absurd (least m (mixed_items net q net.joints ys items) (mix_in net wired p q closed q_closed b rows ys items part rest)
            (sym (cmp_within p ps m rows (λ i g. mixed_false q b rows i n (ap (λ (t : Bool). t && jams net rows i) g)))
            ∙ less_mixed q b rows n (λ i o i_lt g. let less = smaller_class i o i_lt g in omega (arith, less)) k o lt here (smaller_class k o lt here)))
      ] refl

  -- A colouring that flows wherever the least does, flows nowhere else.
  no_more : (rows : List ℕ) (items : List (Option Value)) → IsColouring net rows items
      → ((others : List ℕ) (other_items : List (Option Value)) → IsColouring net others other_items → order_by ps others rows ≢ Less)
      → (b : List ℕ) (ys : List (Option Value)) → IsColouring net b ys → FlowsToo net rows b → FlowsToo net b rows
  no_more rows items col least b ys b_col more e is flows =
      let all = everywhere_closed net in
      let whole_a = restricted net everywhere rows items col in
      let whole_b = restricted net everywhere b ys b_col in
      let q : ℕ → Bool = outside (jams net b) in
      let n : length b ≡ length rows = whole_b.one_row ∙ sym whole_a.one_row in
      let within : (k : ℕ) (o : Owner net.primitives k) → FlowsWithin (behaviour_at net.primitives o.primitive) o.number (get_or rows k 0) (get_or b k 0) =
      λ k o end end_is f. sym (mark_of net b k o end end_is.1) ∙ more (end_of o.primitive end) (o.primitive_in, end_is.0) (mark_of net rows k o end end_is.1 ∙ f) in
      let each : (k : ℕ) (o : Owner net.primitives k) → k < length (all_sides net.primitives) → q k ≡ true → class_at k o b ≤ class_at k o rows =
      λ k o lt g.
      class_at_most (behaviour_at net.primitives o.primitive) (wired.lawful o.primitive o.primitive_in) o.number (get_or rows k 0) (get_or b k 0) turn o.number_in
      (row_of net wired everywhere all rows items whole_a k o lt refl) (plain_of net wired everywhere all b ys whole_b k o lt refl (not-true (jams net b k) g)) (within k o) in
      let k : ℕ = side_at net e in
      let o : Owner net.primitives k = owner_at net wired e is in
      let lt = side_in_range net wired e is in
      let calm_b : jams net b k ≡ false = end_jams net wired everywhere all b ys whole_b e is refl ∙ ap is_jam flows in
      elim (flow_or (mark_at net rows e)) [
        | inl f ↦ f
        | inr not_f ↦
            let less : class_at k o b < class_at k o rows =
            class_below (behaviour_at net.primitives o.primitive) (wired.lawful o.primitive o.primitive_in) o.number (get_or rows k 0) (get_or b k 0) turn o.number_in
            (row_of net wired everywhere all rows items whole_a k o lt refl) (plain_of net wired everywhere all b ys whole_b k o lt refl calm_b) (within k o)
            e.end (is.1, refl) (sym (mark_of net b k o e.end refl) ∙ flows) (λ f. not_f (mark_of net rows k o e.end refl ∙ f)) in
            absurd (least (mixed q b rows) (mixed_items net q net.joints ys items)
            (mix net wired q (outside_closed net (jams net b) (jams_closed net wired everywhere all b ys whole_b)) b rows ys items (restricted net q b ys b_col) (restricted net (outside q) rows items col))
            (less_mixed q b rows n each k o lt (ap not calm_b) less))
      ]

pub part_jams : PartJamsForCause
part_jams net wired inside closed turn rows items first = calm net wired turn (positions net turn) (classes_lead net turn) inside closed rows items first.assignment first.least

pub knot_jams_exactly : KnotJamsExactly
knot_jams_exactly net wired inside part turn rows items first k lt h = (
  λ jam others other_items three.
      let calm : jams net rows k ≡ false = part_jams net wired inside part.closed turn rows items first others other_items three k lt h in
      let wrong : true ≡ false = sym jam ∙ calm in
      cc,
  λ none. elim (jams net rows k) as (λ t. jams net rows k ≡ t → t ≡ true) [
    | true ↦ λ e. refl
    | false ↦ λ e.
        absurd (none rows items (record {
          assignment = first.assignment;
          no_jam = λ s s_lt g.
              let same = part.joined s k g h (λ i. inside i && jams net rows i) (jams_closed net wired inside part.closed rows items first.assignment) in
              sym (ap (λ (t : Bool). t && jams net rows s) g) ∙ same ∙ ap (λ (t : Bool). t && jams net rows k) h ∙ e;
        }))
  ] refl,
)

pub first_jams : FirstJamsForCause
first_jams net wired turn rows items first inside closed = part_jams net wired inside closed turn rows items (first_inside net wired turn rows items first inside closed)

pub none_more : NoneFlowsMore
none_more net wired turn rows items first = no_more net wired turn (positions net turn) (classes_lead net turn) rows items first.colouring first.least

-- Some end flows, or none.
flows_or : (net : Net) (rows : List ℕ) → Decided (Flows net rows)
flows_or net rows =
    let Here : ℕ → Type 0 = λ p. (end : ℕ) × (end < (behaviour_at net.primitives p).ends) × (mark_at net rows (end_of p end) ≡ F) in
    let test : (p : ℕ) → Decided (Here p) = λ p.
    elim (any_below (λ end. mark_at net rows (end_of p end) ≡ F) (λ end. flow_or (mark_at net rows (end_of p end))) (behaviour_at net.primitives p).ends) [
      | inl found ↦ inl found
      | inr none ↦ inr (λ found. none found.0 found.1 found.2)
    ] in
    elim (any_below Here test (length net.primitives)) [
      | inl found ↦ inl (record { end = end_of found.0 found.2.0; is_end = (found.1, found.2.1); flows = found.2.2 })
      | inr none ↦ inr (λ found. none found.end.primitive found.is_end.0 (found.end.end, found.is_end.1, found.flows))
    ]

pub first_flows : FirstFlows
first_flows net wired turn rows items first others other_items col flows =
    elim (flows_or net rows) [
      | inl found ↦ found
      | inr none ↦
          let here = none_more net wired turn rows items first others other_items col (λ e is f. absurd (none (record { end = e; is_end = is; flows = f }))) flows.end flows.is_end flows.flows in
          record { end = flows.end; is_end = flows.is_end; flows = here }
    ]
