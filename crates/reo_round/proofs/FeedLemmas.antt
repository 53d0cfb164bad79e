-- What feeds joints: its shape, that it is one, and how it is found.
use Rattle.std.proofs.Common.{◌≡◌, ◌≢◌, ◌∙◌, inl, inr, ℕ, ◌+◌, ◌<◌, ◌^◌, Bool, false, List, [], ◌∷◌, ◌++◌, length, get_or, set, refl, ap, sym, subst, arith}
use Rattle.std.proofs.lemmas.Bool.{cases_eq, cases_lt}
use Rattle.std.specs.Prelude.{◌==◌, if◌then◌else◌}
use Rattle.std.proofs.Math.Seq.{get_or-append_seam}
use Rattle.std.proofs.lemmas.Bool.Decides.{nat_tests}
use Rattle.std.proofs.lemmas.List.{get_or-set_other, get_or-set_same, get_or_append_left, get_or_default, get_or_past, length-append, length-set, same_lists}
use Rattle.reo_net_base.specs.declared.joint.End.{End}
use Rattle.reo_net_base.specs.declared.joint.Joint.{Joint}
use Rattle.reo_net_base.specs.Behaviour.{Behaviour, nothing}
use Rattle.reo_net_base.specs.Net.{Net, behaviour_at, first_side, side_at}
use Rattle.reo_net_base.specs.Shapes.{SameShapes}
use Rattle.reo_net_circuit.proofs.ReshapeLemmas.{first_same}
use Rattle.reo_joint_values.specs.Standing.{giver_of, no_joint, taker_of}
use Rattle.reo_round.specs.Feeds.{AreCodes, AreFeeds, GoesAlone, GoesTo, IsCode, NoneGoes, row_code, state_code}

-- An end is of the same side of its primitive in each circuit of the same shape.
side_of_same : (bs ds : List Behaviour) → SameShapes bs ds → (i end : ℕ) → (behaviour_at ds i).side_of end ≡ (behaviour_at bs i).side_of end
side_of_same bs ds shapes i end = elim (cases_lt i (length bs)) [
  | inl lt ↦ (shapes.same i lt).side_of end
  | inr past ↦ ap (λ (b : Behaviour). b.side_of end) (get_or_past ds i nothing (omega (arith, past, shapes.count)) ∙ sym (get_or_past bs i nothing past))
]

module _ (net other : Net) (joints : other.joints ≡ net.joints) (shapes : SameShapes net.primitives other.primitives) where
  side_stays : (e : End) → side_at other e ≡ side_at net e
  unfolding side_at
  side_stays e =
      ap (λ (first : ℕ). first + (behaviour_at other.primitives e.primitive).side_of e.end) (first_same net.primitives other.primitives shapes e.primitive)
      ∙ ap (λ (side : ℕ). first_side net.primitives e.primitive + side) (side_of_same net.primitives other.primitives shapes e.primitive e.end)

  taker_stays : (j : ℕ) → side_at other (taker_of other j) ≡ side_at net (taker_of net j)
  taker_stays j = ap (λ (js : List Joint). side_at other (get_or js j no_joint).taker) joints ∙ side_stays (taker_of net j)

  giver_stays : (j : ℕ) → side_at other (giver_of other j) ≡ side_at net (giver_of net j)
  giver_stays j = ap (λ (js : List Joint). side_at other (get_or js j no_joint).giver) joints ∙ side_stays (giver_of net j)

  goes_on : (n s j : ℕ) → GoesTo net n s j → GoesTo other n s j
  goes_on n s j h = (h.0, taker_stays j ∙ h.1)

  goes_back : (n s j : ℕ) → GoesTo other n s j → GoesTo net n s j
  goes_back n s j h = (h.0, sym (taker_stays j) ∙ h.1)

  code_on : (n s code : ℕ) → IsCode net n s code → IsCode other n s code
  code_on n s code (inl one) = inl (record { goes = goes_on n s code one.goes; alone = λ m h. one.alone m (goes_back n s m h) })
  code_on n s code (inr (inl none)) = inr (inl (none.0, λ m h. none.1 m (goes_back n s m h)))
  code_on n s code (inr (inr two)) = inr (inr (
    two.0,
    record {
      first = two.1.first;
      second = two.1.second;
      first_goes = goes_on n s two.1.first two.1.first_goes;
      second_goes = goes_on n s two.1.second two.1.second_goes;
      apart = two.1.apart;
    },
  ))

  pub feeds_same : (feeds : List ℕ) → AreFeeds net feeds → AreFeeds other feeds
  feeds_same feeds are =
      let count : length net.joints ≡ length other.joints = ap (λ (js : List Joint). length js) (sym joints) in
      record {
        one_each = are.one_each ∙ count;
        each = λ j lt.
            subst (λ (n : ℕ). IsCode other n (side_at other (giver_of other j)) (get_or feeds j 0)) count
            (subst (λ (s : ℕ). IsCode other (length net.joints) s (get_or feeds j 0)) (sym (giver_stays j))
            (code_on (length net.joints) (side_at net (giver_of net j)) (get_or feeds j 0) (are.each j (omega (arith, lt, count)))));
      }

-- One code is right.
code_one : (net : Net) (n s a b : ℕ) → IsCode net n s a → IsCode net n s b → a ≡ b
code_one net n s a b (inl x) (inl y) = y.alone a x.goes
code_one net n s a b (inl x) (inr (inl y)) = absurd (y.1 a x.goes)
code_one net n s a b (inl x) (inr (inr y)) = absurd (y.1.apart (x.alone y.1.first y.1.first_goes ∙ sym (x.alone y.1.second y.1.second_goes)))
code_one net n s a b (inr (inl x)) (inl y) = absurd (x.1 b y.goes)
code_one net n s a b (inr (inl x)) (inr (inl y)) = x.0 ∙ sym y.0
code_one net n s a b (inr (inl x)) (inr (inr y)) = absurd (x.1 y.1.first y.1.first_goes)
code_one net n s a b (inr (inr x)) (inl y) = absurd (x.1.apart (y.alone x.1.first x.1.first_goes ∙ sym (y.alone x.1.second x.1.second_goes)))
code_one net n s a b (inr (inr x)) (inr (inl y)) = absurd (y.1 x.1.first x.1.first_goes)
code_one net n s a b (inr (inr x)) (inr (inr y)) = x.0 ∙ sym y.0

pub feeds_one : (net : Net) (feeds others : List ℕ) → AreFeeds net feeds → AreFeeds net others → feeds ≡ others
feeds_one net feeds others a b = same_lists feeds others (a.one_each ∙ sym b.one_each) (λ j d lt.
    let j_in : j < length net.joints = omega (arith, lt, a.one_each) in
    get_or_default feeds j d 0 lt
    ∙ code_one net (length net.joints) (side_at net (giver_of net j)) (get_or feeds j 0) (get_or others j 0) (a.each j j_in) (b.each j j_in)
    ∙ get_or_default others j 0 d (omega (arith, j_in, b.one_each)))

-- What a code tells that is known.
pub by_state : (net : Net) (n s code : ℕ) → n < 2 ^ 31 → code ≡ state_code → IsCode net n s code → NoneGoes net n s
by_state net n s code few is (inl one) = absurd (omega (arith, one.goes.0, is, few))
by_state net n s code few is (inr (inl none)) = none.1
by_state net n s code few is (inr (inr two)) = absurd (omega (arith, sym is ∙ two.0))

pub by_joint : (net : Net) (n s code : ℕ) → code ≢ state_code → code ≢ row_code → IsCode net n s code → GoesAlone net n s code
by_joint net n s code not_state not_row (inl one) = one
by_joint net n s code not_state not_row (inr (inl none)) = absurd (not_state none.0)
by_joint net n s code not_state not_row (inr (inr two)) = absurd (not_row two.0)

-- The code with one joint more, which goes to the side.
abbrev pub noted : (code joint : ℕ) → ℕ
noted code joint = if code == state_code then joint else row_code

module _ (net : Net) (n : ℕ) (few : n < 2 ^ 31) where
  -- One joint more that goes to the side.
  code_more : (s code : ℕ) → side_at net (taker_of net n) ≡ s → IsCode net n s code → IsCode net (n + 1) s (noted code n)
  code_more s code here (inl one) =
      let lt = one.goes.0 in
      let not : (code == state_code) ≡ false = grind (arith, nat_tests) in
      subst (IsCode net (n + 1) s) (ap (λ (b : Bool). if b then n else row_code) (sym not)) (inr (inr (
        refl,
        record {
          first = code;
          second = n;
          first_goes = (omega (arith, lt), one.goes.1);
          second_goes = (omega arith, here);
          apart = λ e. omega (arith, lt, e);
        },
      )))
  code_more s code here (inr (inl none)) =
      subst (IsCode net (n + 1) s) (ap (λ (c : ℕ). noted c n) (sym none.0)) (inl (record {
        goes = (omega arith, here);
        alone = λ m h. elim (cases_eq m n) [ inl e ↦ e | inr ne ↦ absurd (none.1 m (omega (arith, h.0, ne), h.1)) ];
      }))
  code_more s code here (inr (inr two)) =
      subst (IsCode net (n + 1) s) (ap (λ (c : ℕ). noted c n) (sym two.0)) (inr (inr (
        refl,
        record {
          first = two.1.first;
          second = two.1.second;
          first_goes = (omega (arith, two.1.first_goes.0), two.1.first_goes.1);
          second_goes = (omega (arith, two.1.second_goes.0), two.1.second_goes.1);
          apart = two.1.apart;
        },
      )))

  -- One joint more that goes elsewhere.
  code_over : (s code : ℕ) → side_at net (taker_of net n) ≢ s → IsCode net n s code → IsCode net (n + 1) s code
  code_over s code there (inl one) = inl (record {
    goes = (omega (arith, one.goes.0), one.goes.1);
    alone = λ m h. elim (cases_eq m n) [
      | inl e ↦ absurd (there (ap (λ (k : ℕ). side_at net (taker_of net k)) (sym e) ∙ h.1))
      | inr ne ↦ one.alone m (omega (arith, h.0, ne), h.1)
    ];
  })
  code_over s code there (inr (inl none)) = inr (inl (
    none.0,
    λ m h. elim (cases_eq m n) [
      | inl e ↦ there (ap (λ (k : ℕ). side_at net (taker_of net k)) (sym e) ∙ h.1)
      | inr ne ↦ none.1 m (omega (arith, h.0, ne), h.1)
    ],
  ))
  code_over s code there (inr (inr two)) = inr (inr (
    two.0,
    record {
      first = two.1.first;
      second = two.1.second;
      first_goes = (omega (arith, two.1.first_goes.0), two.1.first_goes.1);
      second_goes = (omega (arith, two.1.second_goes.0), two.1.second_goes.1);
      apart = two.1.apart;
    },
  ))

  -- One joint more is noted.
  pub codes_more : (side : ℕ) → side ≡ side_at net (taker_of net n) → (old new : List ℕ) → new ≡ set old side (noted (get_or old side 0) n) → AreCodes net n old → AreCodes net (n + 1) new
  codes_more side there old new is are = record {
    one_each = ap (λ (xs : List ℕ). length xs) is ∙ length-set old side (noted (get_or old side 0) n) ∙ are.one_each;
    each = λ s lt. elim (cases_eq s side) [
      | inl e ↦
          let s_in : s < length old = omega (arith, lt, are.one_each) in
          let value : get_or new s 0 ≡ noted (get_or old s 0) n =
          ap (λ (xs : List ℕ). get_or xs s 0) is ∙ ap (λ (k : ℕ). get_or (set old k (noted (get_or old k 0) n)) s 0) (sym e) ∙ get_or-set_same old s (noted (get_or old s 0) n) 0 s_in in
          subst (IsCode net (n + 1) s) (sym value) (code_more s (get_or old s 0) (sym there ∙ sym e) (are.each s lt))
      | inr ne ↦
          let value : get_or new s 0 ≡ get_or old s 0 = ap (λ (xs : List ℕ). get_or xs s 0) is ∙ get_or-set_other old side s (noted (get_or old side 0) n) 0 ne in
          subst (IsCode net (n + 1) s) (sym value) (code_over s (get_or old s 0) (λ e. ne (sym e ∙ sym there)) (are.each s lt))
    ];
  }

-- The joints so far have the codes of the sides that they come from.
pub record AreFeedsTo (net : Net) (n : ℕ) (codes : List ℕ) : Type 0 where
  pub one_each : length codes ≡ n
  pub each : (j : ℕ) → j < n → IsCode net (length net.joints) (side_at net (giver_of net j)) (get_or codes j 0)

-- One joint more has its code.
pub fed_more : (net : Net) (n code : ℕ) (old new : List ℕ) → new ≡ old ++ code ∷ [] → IsCode net (length net.joints) (side_at net (giver_of net n)) code → AreFeedsTo net n old → AreFeedsTo net (n + 1) new
fed_more net n code old new is here are = record {
  one_each = ap (λ (xs : List ℕ). length xs) is ∙ length-append old (code ∷ []) ∙ ap (λ (k : ℕ). k + 1) are.one_each;
  each = λ j lt. elim (cases_eq j n) [
    | inl e ↦
        let value : get_or new n 0 ≡ code = ap (λ (xs : List ℕ). get_or xs n 0) is ∙ ap (λ (k : ℕ). get_or (old ++ code ∷ []) k 0) (sym are.one_each) ∙ get_or-append_seam old code [] 0 in
        subst (λ (k : ℕ). IsCode net (length net.joints) (side_at net (giver_of net k)) (get_or new k 0)) (sym e)
        (subst (IsCode net (length net.joints) (side_at net (giver_of net n))) (sym value) here)
    | inr ne ↦
        let earlier : j < n = omega (arith, lt, ne) in
        let value : get_or new j 0 ≡ get_or old j 0 = ap (λ (xs : List ℕ). get_or xs j 0) is ∙ get_or_append_left old (code ∷ []) 0 j (omega (arith, earlier, are.one_each)) in
        subst (IsCode net (length net.joints) (side_at net (giver_of net j))) (sym value) (are.each j earlier)
  ];
}
