-- The item lists have the items that can stand.
use Rattle.std.proofs.Common.{◌≡◌, ◌⊎◌, inl, inr, ℕ, zero, suc, ◌+◌, ◌<◌, List, [], ◌∷◌, ◌++◌, Bool, true, cond, Option, None, Some, length, get_or, set, Contains, refl, ap, sym, ◌∙◌, subst, arith}
use Rattle.std.specs.List.{flat_map, range_with_len}
use Rattle.std.proofs.lemmas.List.{get_or-set_same, get_or-set_other, set_past, length-set, length-append, length-map, append-nil, append_assoc, nil_from_length, ext_get_or}
use Rattle.std.proofs.lemmas.List.Elements.{Contains-append_left, Contains-append_right, Contains-push}
use Rattle.std.proofs.lemmas.List.Sums.{position_or_len_is}
use Rattle.std.proofs.lemmas.List.FromFn.{get_or-range_with_len, length-range_with_len}
use Rattle.std.proofs.lemmas.Bool.{cases_eq, cases_Bool, cases_lt}
use Rattle.reo_values.specs.declared.value.Value.{Value}
use Rattle.reo_net_base.specs.declared.mark.Mark.{Mark}
use Rattle.reo_net_base.specs.declared.joint.End.{End}
use Rattle.reo_net_base.specs.declared.joint.Joint.{Joint}
use Rattle.reo_net_base.specs.Marks.{is_flow}
use Rattle.reo_net_base.specs.Net.{Net, end_of, end_eq}
use Rattle.reo_net_base.specs.Wired.{IsWired}
use Rattle.reo_net_base.proofs.Ends.{end_self}
use Rattle.reo_net_laws.specs.Ends.{from_in}
use Rattle.reo_net_laws.proofs.Joined.{ends_joined}
use Rattle.reo_net_laws.proofs.Items.{end_is}
use Rattle.reo_joint_values.specs.Values.{no_joint}
use Rattle.reo_joint_values.specs.Fitting.{given_for, passes_in}
use Rattle.reo_joint_values.specs.Standing.{giver_of, taker_of, FlowsAt, CanStand, given_in as reach_given, passes_in as reach_passes}
use Rattle.reo_joint_values.specs.Standing.CanStand.{alone, passed}
use Rattle.reo_refute_base.specs.Items.{Lists, items_at, joint_into, listed, given_on, given_from, given_by, plain_rows, offered_at, IsAdded, IsVisited, AreVisited, ArePassed, AreItemLists}
use Rattle.reo_refute_base.specs.Items.IsAdded.{none, known, fresh}
use Rattle.reo_refute_base.specs.Items.AreVisited.{begun, next}
use Rattle.reo_refute_base.specs.Items.ArePassed.{empty, pass}

-- A list that begins with another.
abbrev pub Begins : List Value → List Value → Type 0
Begins xs ys = (more : List Value) × (ys ≡ xs ++ more)

begins_self : (xs : List Value) → Begins xs xs
begins_self xs = ([], sym (append-nil xs))

begins_on : (xs ys zs : List Value) → Begins xs ys → Begins ys zs → Begins xs zs
begins_on xs ys zs f g = (f.0 ++ g.0, g.1 ∙ ap (λ (l : List Value). l ++ g.0) f.1 ∙ append_assoc xs f.0 g.0)

begins_both : (xs ys : List Value) → Begins xs ys → Begins ys xs → ys ≡ xs
begins_both xs ys f g =
    let n : length ys ≡ length xs + length f.0 = ap length f.1 ∙ length-append xs f.0 in
    let m : length xs ≡ length ys + length g.0 = ap length g.1 ∙ length-append ys g.0 in
    f.1 ∙ ap (λ (l : List Value). xs ++ l) (nil_from_length f.0 (omega (arith, n, m))) ∙ append-nil xs

begins_has : (xs ys : List Value) (x : Value) → Begins xs ys → Contains xs x → Contains ys x
begins_has xs ys x f has = subst (λ (l : List Value). Contains l x) (sym f.1) (Contains-append_left xs f.0 x has)

pub added_begins : (items offered new : List Value) → IsAdded items offered new → Begins items new
added_begins items offered new (none xs) = begins_self xs
added_begins items offered new (known xs rest ys x has added) = added_begins xs rest ys added
added_begins items offered new (fresh xs rest ys x not added) =
    begins_on xs (xs ++ (x ∷ [])) ys (x ∷ [], refl) (added_begins (xs ++ (x ∷ [])) rest ys added)

-- A first element, or one further on.
pub first_or : {X : Type 0} (x : X) (rest : List X) (y : X) → Contains (x ∷ rest) y → (x ≡ y) ⊎ Contains rest y
first_or x rest y (zero, lt, is) = inl is
first_or x rest y (suc k, lt, is) = inr (k, omega (arith, lt), is)

-- What is offered is there afterwards.
added_has : (items offered new : List Value) → IsAdded items offered new → (y : Value) → Contains offered y → Contains new y
added_has items offered new (none xs) y has = absurd (omega (arith, has.1))
added_has items offered new (known xs rest ys x there added) y has =
    elim (first_or x rest y has) [
      | inl same ↦ subst (Contains ys) same (begins_has xs ys x (added_begins xs rest ys added) there)
      | inr further ↦ added_has xs rest ys added y further
    ]
added_has items offered new (fresh xs rest ys x not added) y has =
    elim (first_or x rest y has) [
      | inl same ↦ subst (Contains ys) same (begins_has (xs ++ (x ∷ [])) ys x (added_begins (xs ++ (x ∷ [])) rest ys added) (Contains-push xs x))
      | inr further ↦ added_has (xs ++ (x ∷ [])) rest ys added y further
    ]

-- Lists that only grow at the back.
pub record Grows (old new : Lists) : Type 0 where
  pub one_each : length new ≡ length old
  pub each : (j : ℕ) → Begins (items_at old j) (items_at new j)

grows_self : (lists : Lists) → Grows lists lists
grows_self lists = record { one_each = refl; each = λ j. begins_self (items_at lists j) }

grows_on : (a b c : Lists) → Grows a b → Grows b c → Grows a c
grows_on a b c f g = record {
  one_each = g.one_each ∙ f.one_each;
  each = λ j. begins_on (items_at a j) (items_at b j) (items_at c j) (f.each j) (g.each j);
}

grows_both : (a b : Lists) → Grows a b → Grows b a → b ≡ a
grows_both a b f g = ext_get_or [] b a f.one_each (λ j lt. begins_both (items_at a j) (items_at b j) (f.each j) (g.each j))

visit_grows : (net : Net) (j : ℕ) (old new : Lists) → IsVisited net j old new → Grows old new
visit_grows net j old new v = subst (Grows old) (sym v.after) (record {
  one_each = length-set old j v.items;
  each = λ k. elim (cases_eq k j) [
    | inl same ↦ subst (λ (i : ℕ). Begins (items_at old i) (items_at (set old j v.items) i)) (sym same) here
    | inr other ↦ ([], get_or-set_other old j k v.items [] other ∙ sym (append-nil (items_at old k)))
  ];
})
  where
    here : Begins (items_at old j) (items_at (set old j v.items) j)
    here = elim (cases_lt j (length old)) [
      | inl lt ↦ subst (Begins (items_at old j)) (sym (get_or-set_same old j v.items [] lt)) (added_begins (items_at old j) (offered_at net old j) v.items v.added)
      | inr past ↦ ([], ap (λ (l : Lists). items_at l j) (set_past old j v.items past) ∙ sym (append-nil (items_at old j)))
    ]

pub visits_grow : (net : Net) (n : ℕ) (old new : Lists) → AreVisited net n old new → Grows old new
visits_grow net n old new (begun lists) = grows_self lists
visits_grow net n old new (next m a b c before visit) = grows_on a b c (visits_grow net m a b before) (visit_grows net m b c visit)

-- Where visits leave the lists, each visit leaves them.
still : (net : Net) (n : ℕ) (old new : Lists) → AreVisited net n old new → new ≡ old → (j : ℕ) → j < n → IsVisited net j old old
still net n old new (begun lists) same j lt = absurd (omega (arith, lt))
still net n old new (next m a b c before visit) same j lt =
    let back : Grows b a = subst (Grows b) same (visit_grows net m b c visit) in
    let now : b ≡ a = grows_both a b (visits_grow net m a b before) back in
    elim (cases_eq j m) [
      | inl here ↦ subst (λ (i : ℕ). IsVisited net i a a) (sym here) (subst (λ (l : Lists). IsVisited net m l a) now (subst (IsVisited net m b) same visit))
      | inr other ↦ still net m a b before now j (omega (arith, lt, other))
    ]

passed_length : (net : Net) (lists : Lists) → ArePassed net lists → length lists ≡ length net.joints
passed_length net lists empty = length-map net.joints (λ _. [])
passed_length net lists (pass old new before is) = (visits_grow net (length net.joints) old new is).one_each ∙ passed_length net old before

-- What is offered at a joint is in its list.
offers_there : (net : Net) (lists : Lists) → AreItemLists net lists → (j : ℕ) → j < length net.joints → (y : Value) → Contains (offered_at net lists j) y → Contains (items_at lists j) y
offers_there net lists are j lt y has =
    let v : IsVisited net j lists lists = still net (length net.joints) lists lists are.last refl j lt in
    let n : length lists ≡ length net.joints = passed_length net lists are.passed in
    let is : items_at lists j ≡ v.items = ap (λ (l : Lists). items_at l j) v.after ∙ get_or-set_same lists j v.items [] (omega (arith, n, lt)) in
    subst (λ (l : List Value). Contains l y) (sym is) (added_has (items_at lists j) (offered_at net lists j) v.items v.added y has)

flat_has : {X : Type 0} (f : X → List Value) (xs : List X) (x : X) (y : Value) → Contains xs x → Contains (f x) y → Contains (flat_map f xs) y
flat_has f [] x y has g = absurd (omega (arith, has.1))
flat_has f (z ∷ xs) x y has g = elim (first_or z xs x has) [
  | inl same ↦ Contains-append_left (f z) (flat_map f xs) y (subst (λ w. Contains (f w) y) (sym same) g)
  | inr more ↦ Contains-append_right (f z) (flat_map f xs) y (flat_has f xs x y more g)
]

pub range_has : (n k : ℕ) → k < n → Contains (range_with_len 0 n) k
range_has n k lt = (k, rw (length-range_with_len 0 n) lt, get_or-range_with_len 0 n k k lt ∙ omega arith)

listed_has : (o : Option Value) (x : Value) → o ≡ Some x → Contains (listed o) x
listed_has o x is = subst (λ (o : Option Value). Contains (listed o) x) (sym is) (0, omega arith, refl)

pub same_given : (net : Net) (row : ℕ) (e : End) (o : Option Value) → reach_given net row e o ≡ given_for net row e o
unfolding reach_given given_for
same_given net row e o = refl

pub same_passes : (net : Net) (row : ℕ) (e : End) (x : Value) → reach_passes net row e x ≡ passes_in net row e x
unfolding reach_passes passes_in
same_passes net row e x = refl

pub joint_is : (net : Net) → IsWired net → (e : End) (k : ℕ) → k < length net.joints → taker_of net k ≡ e → joint_into net e ≡ k
joint_is net wired e k lt is =
    position_or_len_is (λ (joint : Joint). end_eq joint.taker e) net.joints k no_joint (omega (arith, lt))
    (λ i i_lt. elim (cases_Bool (end_eq (get_or net.joints i no_joint).taker e)) [
      | inl holds ↦
          let same : i ≡ k = (ends_joined net wired).one_taker i k no_joint (omega (arith, lt, i_lt)) lt (end_is (get_or net.joints i no_joint).taker e holds ∙ sym is) in
          absurd (omega (arith, same, i_lt))
      | inr off ↦ off
    ])
    (λ _. ap (λ (x : End). end_eq x e) is ∙ end_self e)

module _ (net : Net) (wired : IsWired net) (lists : Lists) (are : AreItemLists net lists) where
  by_row : (j row : ℕ) (item : Value) → j < length net.joints → FlowsAt net (giver_of net j) row → Contains (given_from net lists row (giver_of net j) (from_in net row (giver_of net j))) item → Contains (items_at lists j) item
  by_row j row item lt flows has =
      let e : End = giver_of net j in
      let given : Contains (given_by net lists j row) item = subst (λ (m : Mark). Contains (cond (is_flow m) (given_from net lists row e (from_in net row e)) []) item) (sym flows.flows) has in
      offers_there net lists are j lt item
      (flat_has (given_by net lists j) (range_with_len 0 (plain_rows net e)) row item (range_has (plain_rows net e) row (omega (arith, flows.plain))) given)

  pub contained : (j : ℕ) (item : Value) → CanStand net j item → Contains (items_at lists j) item
  contained j item (alone i row x lt gives) =
      by_row i row x lt gives.flows
      (subst (λ (o : Option ℕ). Contains (given_from net lists row (giver_of net i) o) x) (sym gives.alone) (listed_has (given_for net row (giver_of net i) None) x (sym (same_given net row (giver_of net i) None) ∙ gives.given)))
  contained j item (passed i row k taken x lt gives before) =
      let e : End = giver_of net i in
      let b = gives.brings in
      let source : End = end_of e.primitive b.from in
      let there : Contains (items_at lists (joint_into net source)) taken = subst (λ (n : ℕ). Contains (items_at lists n) taken) (sym (joint_is net wired source k b.in_range b.taker)) (contained k taken before) in
      let lets : passes_in net row source taken ≡ true = ap (λ (s : End). passes_in net row s taken) (sym b.taker) ∙ sym (same_passes net row (taker_of net k) taken) ∙ gives.given.let_in in
      let is : given_for net row e (Some taken) ≡ Some x = sym (same_given net row e (Some taken)) ∙ gives.given.given in
      let on : Contains (given_on net row e source taken) x = subst (λ (t : Bool). Contains (cond t (listed (given_for net row e (Some taken))) []) x) (sym lets) (listed_has (given_for net row e (Some taken)) x is) in
      by_row i row x lt b.flows
      (subst (λ (o : Option ℕ). Contains (given_from net lists row e o) x) (sym b.decides) (flat_has (given_on net row e source) (items_at lists (joint_into net source)) taken x there on))
