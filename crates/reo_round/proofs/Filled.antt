-- Items at the joints of all parts.
use Rattle.std.proofs.Common.{◌≡◌, ◌≢◌, ◌∙◌, inl, inr, ℕ, zero, suc, ◌+◌, ◌<◌, ◌≤◌, Bool, true, false, not, ◌||◌, ◌⊎◌, List, [], ◌∷◌, ◌++◌, length, get_or, set, refl, ap, sym, subst, arith}
use Rattle.std.specs.Prelude.{Option, Some, None, nat_lt, ◌==◌}
use Rattle.std.proofs.lemmas.Bool.Decides.{nat_tests}
use Rattle.std.proofs.lemmas.List.{get_or_default, length-append, length-set, same_lists}
use Rattle.std.proofs.lemmas.List.Folds.{list_all_at}
use Rattle.std.proofs.lemmas.List.Sums.{list_all-from_AllPass}
use Rattle.reo_values.specs.declared.value.Value.{Value}
use Rattle.reo_net_base.specs.declared.mark.Mark.{Mark}
use Rattle.reo_net_base.specs.declared.mark.Mark.TheVariants.{F, G, R, J}
use Rattle.reo_net_base.specs.declared.joint.Joint.{Joint}
use Rattle.reo_net_base.specs.Colouring.{IsColouring}
use Rattle.reo_net_base.specs.Marks.{is_flow, marks_match}
use Rattle.reo_net_base.specs.Net.{Net, mark_at, side_at}
use Rattle.reo_net_base.specs.Wired.{IsWired}
use Rattle.reo_net_circuit.specs.found_ends.Ends.{AreEnds}
use Rattle.reo_net_laws.proofs.Sides.{side_in_range}
use Rattle.reo_net_laws.specs.Knots.{Knotted, AreKnots, in_knot, knot_count}
use Rattle.reo_flows.specs.flowing.Flowing.{AreFlowingIn}
use Rattle.reo_joint_values.specs.Standing.{giver_of, no_joint}
use Rattle.reo_joint_values.specs.Many.{IsJointIn}
use Rattle.reo_trace.specs.Entries.{is_idle, is_still}
use Rattle.reo_flows.specs.stepping.Flowing.{AreFlowing}
use Rattle.reo_round.specs.Filling.{AreBlank, AreBlankOn, AreFilled, AreHeld, AreHeldAmong, AreMoving, IsPartFilled}
use Rattle.reo_round.proofs.Putting.{far_all, far_none, giver_flows, others_none, others_some}
use Rattle.std.proofs.lemmas.Bool.{and_from as both, cases_eq, cases_lt, and_parts, eqb-true, lt-ltb, eq-eqb}
use Rattle.reo_net_base.proofs.Marks.{flow_cases}
use Rattle.reo_flows.proofs.stepping.Far.{none_at}

in_own : (numbers : List ℕ) (s k : ℕ) → s < length numbers → get_or numbers s 0 ≡ k → in_knot numbers k s ≡ true
in_own numbers s k lt is = both (nat_lt s (length numbers)) (get_or numbers s 0 == k) (lt-ltb s (length numbers) lt) (eq-eqb (get_or numbers s 0) k is)

number_of : (numbers : List ℕ) (s k : ℕ) → in_knot numbers k s ≡ true → get_or numbers s 0 ≡ k
number_of numbers s k h = eqb-true (get_or numbers s 0) k ((and_parts (nat_lt s (length numbers)) (get_or numbers s 0 == k) h).1)

-- The part of a joint.
abbrev pub part_of : Net → Knotted → ℕ → ℕ
part_of net knots j = get_or knots.numbers (side_at net (giver_of net j)) 0

module _ (net : Net) (wired : IsWired net) (knots : Knotted) (are : AreKnots net knots) where
  below : (j : ℕ) → j < length net.joints → part_of net knots j < knot_count knots
  below j lt = are.numbered.in_range (side_at net (giver_of net j)) (side_in_range net wired (giver_of net j) (wired.givers j no_joint lt))

  -- A joint of a part is one of its joints, and of no other part.
  own : (j k : ℕ) → j < length net.joints → part_of net knots j ≡ k → in_knot knots.numbers k (side_at net (giver_of net j)) ≡ true
  own j k lt is =
      let s_in = side_in_range net wired (giver_of net j) (wired.givers j no_joint lt) in
      in_own knots.numbers (side_at net (giver_of net j)) k (omega (arith, s_in, are.numbered.one_each)) is

  -- A joint of a part is of no other.
  of_part : (j k : ℕ) → IsJointIn net (in_knot knots.numbers k) j → part_of net knots j ≡ k
  of_part j k is = number_of knots.numbers (side_at net (giver_of net j)) k is.1

-- The joints of the parts below have their items, and the others none.
pub part_blank : (net : Net) (knots : Knotted) (k : ℕ) (items : List (Option Value)) → ((j : ℕ) → j < length net.joints → k ≤ part_of net knots j → get_or items j None ≡ None) → AreBlankOn net (in_knot knots.numbers k) items
part_blank net knots k items later j is =
    let here : part_of net knots j ≡ k = number_of knots.numbers (side_at net (giver_of net j)) k is.1 in
    later j is.0 (omega (arith, here))

-- The parts below a number have their items, and the others none.
pub record IsFilledBelow (net : Net) (knots : Knotted) (others : List (Option Value)) (n : ℕ) (items : List (Option Value)) (noted : List ℕ) : Type 0 where
  pub here : (j : ℕ) → j < length net.joints → part_of net knots j < n → get_or items j None ≡ get_or others j None
  pub later : (j : ℕ) → j < length net.joints → n ≤ part_of net knots j → get_or items j None ≡ None
  pub held : AreHeld items noted

-- As many items as joints, and those that are later have none.
pub record IsBlankFrom (net : Net) (knots : Knotted) (n : ℕ) (items : List (Option Value)) : Type 0 where
  pub count : length items ≡ length net.joints
  pub later : (j : ℕ) → j < length net.joints → n ≤ part_of net knots j → get_or items j None ≡ None

pub below_none : (net : Net) (knots : Knotted) (others items : List (Option Value)) (noted : List ℕ) → AreBlank (length net.joints) items → AreHeld items noted → IsFilledBelow net knots others 0 items noted
below_none net knots others items noted blank held = record { here = λ j lt before. absurd (omega arith); later = λ j lt le. blank.none j; held = held }

-- One part more.
pub below_more : (net : Net) → IsWired net → (knots : Knotted) → AreKnots net knots → (n : ℕ) (others items next : List (Option Value)) (noted more : List ℕ)
    → IsFilledBelow net knots others n items noted → IsPartFilled net (in_knot knots.numbers n) others items next more → IsFilledBelow net knots others (n + 1) next more
below_more net wired knots are n others items next noted more far part = record {
  here = λ j lt before. elim (cases_eq (part_of net knots j) n) [
    | inl e ↦ part.here j (lt, own net wired knots are j n lt e)
    | inr ne ↦ part.others j (λ is. ne (of_part net wired knots are j n is)) ∙ far.here j lt (omega (arith, before, ne))
  ];
  later = λ j lt le. part.others j (λ is. let e = of_part net wired knots are j n is in absurd (omega (arith, le, e))) ∙ far.later j lt (omega (arith, le));
  held = part.held;
}

module _ (net : Net) (wired : IsWired net) (rows : List ℕ) (others : List (Option Value)) (is : IsColouring net rows others) (table : List (List ℕ)) (ends : AreEnds net table) (knots : Knotted) (are : AreKnots net knots)
    (lists : List (List ℕ)) (flowing : AreFlowingIn net knots rows (λ _. true) lists) (flags : List Bool) (moving : AreMoving (knot_count knots) flags lists) (items : List (Option Value)) (count : length items ≡ length net.joints) (noted : List ℕ) where
  -- A part more for which no joint is listed.
  part_over : (k : ℕ) → k < knot_count knots → get_or flags k false ≡ false → IsFilledBelow net knots others k items noted → IsFilledBelow net knots others (k + 1) items noted
  part_over k lt clear far =
      let inside : ℕ → Bool = in_knot knots.numbers k in
      let those : List ℕ = get_or lists k [] in
      let nothing : length those ≡ 0 = ap (λ (xs : List ℕ). length xs) (moving.none k lt clear) in
      let so = far_none net wired inside (are.are_knots k lt).closed rows those (flowing.each k lt refl) others items noted far.held in
      below_more net wired knots are k others items items noted noted far
      (far_all net wired rows others is table ends inside those items count (part_blank net knots k items far.later) 0 (sym nothing) items noted so)

  -- All parts whose flags are clear.
  pub parts_over : (steps from to : ℕ) → from + steps ≡ to → to ≤ knot_count knots → ((k : ℕ) → from ≤ k → k < to → get_or flags k false ≡ false) → IsFilledBelow net knots others from items noted → IsFilledBelow net knots others to items noted
  parts_over zero from to is_to le clear far = subst (λ (k : ℕ). IsFilledBelow net knots others k items noted) (omega (arith, is_to)) far
  parts_over (suc steps) from to is_to le clear far =
      parts_over steps (from + 1) to (omega (arith, is_to)) le (λ k low high. clear k (omega arith) high)
      (part_over from (omega (arith, is_to)) (clear from (omega arith) (omega (arith, is_to))) far)

-- All parts.
pub below_all : (net : Net) → IsWired net → (knots : Knotted) → AreKnots net knots → (others items : List (Option Value)) (noted : List ℕ) (n : ℕ) → n ≡ knot_count knots → length items ≡ length net.joints → length others ≡ length net.joints
    → IsFilledBelow net knots others n items noted → AreFilled others items noted
below_all net wired knots are others items noted n last count size far = record {
  items = same_lists items others (count ∙ sym size) (λ j d lt.
      let j_in : j < length net.joints = omega (arith, count, lt) in
      get_or_default items j d None lt ∙ far.here j j_in (omega (arith, last, below net wired knots are j j_in)) ∙ get_or_default others j None d (omega (arith, size, j_in)));
  held = far.held;
}

giver_of_match : (giver taker : Mark) → marks_match giver taker ≡ true → is_flow giver ≡ false → not (is_flow giver || is_flow taker) ≡ true
giver_of_match F taker m h = absurd cc
giver_of_match G F m h = absurd cc
giver_of_match G G m h = refl
giver_of_match G R m h = refl
giver_of_match G J m h = refl
giver_of_match R F m h = absurd cc
giver_of_match R G m h = refl
giver_of_match R R m h = refl
giver_of_match R J m h = refl
giver_of_match J F m h = absurd cc
giver_of_match J G m h = refl
giver_of_match J R m h = refl
giver_of_match J J m h = refl

pub not_flow : (m : Mark) → (m ≡ F → ⊥) → is_flow m ≡ false
not_flow F h = absurd (h refl)
not_flow G h = refl
not_flow R h = refl
not_flow J h = refl

flowing_not_still : (giver taker : Mark) → giver ≡ F → not (is_flow giver || is_flow taker) ≡ false
flowing_not_still giver taker e = ap (λ (m : Mark). not (is_flow m || is_flow taker)) e

pub past_none : (xs : List (Option Value)) (k : ℕ) → length xs ≤ k → get_or xs k None ≡ None
past_none [] k le = refl
past_none (x ∷ xs) zero le = absurd (omega arith)
past_none (x ∷ xs) (suc k) le = past_none xs k (omega arith)

some_long : (x : ℕ) (xs : List ℕ) → (length (x ∷ xs) == 0) ≡ false
some_long x xs = grind (arith, nat_tests)

module _ (net : Net) (wired : IsWired net) (rows : List ℕ) (items : List (Option Value)) (is : IsColouring net rows items) (noted : List ℕ) (held : AreHeld items noted) where
  -- The joints that have an item are those that flow.
  pub held_flow : AreFlowing net rows noted
  held_flow =
      let in_range : (m : ℕ) → m < length noted → get_or noted m 0 < length net.joints =
      λ m lt. elim (cases_lt (get_or noted m 0) (length net.joints)) [
        | inl below ↦ below
        | inr past ↦ absurd (held.some m lt (past_none items (get_or noted m 0) (omega (arith, is.one_each, past))))
      ] in
      record {
        in_range = in_range;
        flow = λ m lt. elim (flow_cases (mark_at net rows (giver_of net (get_or noted m 0)))) [
          | inl flows ↦ giver_flows net rows (get_or noted m 0) (in_range m lt) flows
          | inr not ↦ absurd (held.some m lt (others_none net wired rows items is (get_or noted m 0) (in_range m lt) (λ flows. not (flows no_joint))))
        ];
        each = λ j lt flows. held.each j (others_some net wired rows items is j lt (flows no_joint));
      }

  -- Nothing flows exactly where none has an item.
  pub idle_is : is_idle net rows ≡ (length noted == 0)
  unfolding is_still
  idle_is = elim noted as (λ xs. noted ≡ xs → is_idle net rows ≡ (length xs == 0)) [
    | [] ↦ λ e. list_all-from_AllPass (is_still net rows) net.joints (λ k d lt. rests k d lt (λ flows.
        let found = held.each k (others_some net wired rows items is k lt flows) in
        omega (arith, found.1, ap (λ (xs : List ℕ). length xs) e)))
    | x ∷ xs ↦ λ e.
        let lt : 0 < length noted = omega (arith, ap (λ (ys : List ℕ). length ys) e) in
        let j : ℕ = get_or noted 0 0 in
        list_all_at (is_still net rows) net.joints j no_joint (held_flow.in_range 0 lt) (flows_at j (held_flow.flow 0 lt no_joint)) ∙ sym (some_long x xs)
  ] refl
    where
      rests : (k : ℕ) (d : Joint) → k < length net.joints → (mark_at net rows (giver_of net k) ≡ F → ⊥) → is_still net rows (get_or net.joints k d) ≡ true
      rests k d lt none =
          giver_of_match (mark_at net rows (get_or net.joints k d).giver) (mark_at net rows (get_or net.joints k d).taker) (is.rows_fit.matched k d lt)
          (not_flow (mark_at net rows (get_or net.joints k d).giver) (λ flows. none (ap (λ (x : Joint). mark_at net rows x.giver) (get_or_default net.joints k no_joint d lt) ∙ flows)))

      flows_at : (j : ℕ) → mark_at net rows (giver_of net j) ≡ F → is_still net rows (get_or net.joints j no_joint) ≡ false
      flows_at j flows = flowing_not_still (mark_at net rows (giver_of net j)) (mark_at net rows (get_or net.joints j no_joint).taker) flows

-- One place more with none.
pub blank_more : (n : ℕ) (xs ys : List (Option Value)) → ys ≡ xs ++ None ∷ [] → AreBlank n xs → AreBlank (n + 1) ys
blank_more n xs ys is blank = record {
  count_is = ap (λ (zs : List (Option Value)). length zs) is ∙ length-append xs (None ∷ []) ∙ ap (λ k. k + 1) blank.count_is;
  none = λ j. ap (λ (zs : List (Option Value)). get_or zs j None) is ∙ none_after xs j (blank.none j);
}
  where
    none_after : (zs : List (Option Value)) (j : ℕ) → get_or zs j None ≡ None → get_or (zs ++ None ∷ []) j None ≡ None
    none_after [] zero h = refl
    none_after [] (suc j) h = refl
    none_after (z ∷ zs) zero h = h
    none_after (z ∷ zs) (suc j) h = none_after zs j h

-- Items of which the first so many of some joints are cleared.
pub record IsClearedTo (joints : List ℕ) (n : ℕ) (old new : List (Option Value)) : Type 0 where
  pub count : length new ≡ length old
  pub here : (m : ℕ) → m < n → get_or new (get_or joints m 0) None ≡ None
  pub none : (j : ℕ) → get_or old j None ≡ None → get_or new j None ≡ None
  pub rest : (j : ℕ) → get_or new j None ≢ None → get_or old j None ≢ None

none_there : (xs : List (Option Value)) (m : ℕ) → get_or (set xs m None) m None ≡ None
none_there [] m = refl
none_there (x ∷ xs) zero = refl
none_there (x ∷ xs) (suc m) = none_there xs m

pub cleared_none : (joints : List ℕ) (old : List (Option Value)) → IsClearedTo joints 0 old old
cleared_none joints old = record { count = refl; here = λ m lt. absurd (omega arith); none = λ j h. h; rest = λ j h. h }

pub cleared_more : (joints : List ℕ) (n : ℕ) (old new next : List (Option Value)) → IsClearedTo joints n old new → next ≡ set new (get_or joints n 0) None → IsClearedTo joints (n + 1) old next
cleared_more joints n old new next far is = record {
  count = ap (λ (xs : List (Option Value)). length xs) is ∙ length-set new (get_or joints n 0) None ∙ far.count;
  here = λ m lt. ap (λ (xs : List (Option Value)). get_or xs (get_or joints m 0) None) is ∙ elim (cases_eq m n) [
    | inl e ↦ subst (λ (k : ℕ). get_or (set new (get_or joints n 0) None) (get_or joints k 0) None ≡ None) (sym e) (none_there new (get_or joints n 0))
    | inr ne ↦ none_at new (get_or joints n 0) (get_or joints m 0) (far.here m (omega (arith, lt, ne)))
  ];
  none = λ j h. ap (λ (xs : List (Option Value)). get_or xs j None) is ∙ none_at new (get_or joints n 0) j (far.none j h);
  rest = λ j h. far.rest j (λ none. h (ap (λ (xs : List (Option Value)). get_or xs j None) is ∙ none_at new (get_or joints n 0) j none));
}

some_or_none : (o : Option Value) → (o ≡ None) ⊎ (o ≢ None)
some_or_none None = inl refl
some_or_none (Some x) = inr (λ e. cc)

pub cleared_all : (joints : List ℕ) (n : ℕ) (old new : List (Option Value)) → n ≡ length joints → IsClearedTo joints n old new → AreHeldAmong old joints → AreBlank (length old) new
cleared_all joints n old new last far among = record {
  count_is = far.count;
  none = λ j. elim (some_or_none (get_or new j None)) [
    | inl none ↦ none
    | inr some ↦
        let found = among j (far.rest j some) in
        subst (λ (k : ℕ). get_or new k None ≡ None) found.2 (far.here found.0 (omega (arith, found.1, last)))
  ];
}

-- Where no joint has an item none is to be noted.
pub held_none : (items : List (Option Value)) (noted : List ℕ) → noted ≡ [] → ((j : ℕ) → get_or items j None ≡ None) → AreHeld items noted
held_none items noted is none = subst (λ (xs : List ℕ). AreHeld items xs) (sym is) (record { some = λ m lt. absurd (omega arith); each = λ j some. absurd (some (none j)) })
