-- The items in item lists can stand.
use Rattle.std.proofs.Common.{◌≡◌, ◌⊎◌, inl, inr, ℕ, zero, suc, ◌+◌, ◌<◌, ◌≤◌, List, [], ◌∷◌, ◌++◌, true, false, cond, Option, None, Some, length, get_or, set, map, Contains, refl, ap, sym, ◌∙◌, subst, arith}
use Rattle.std.specs.List.{flat_map, range_with_len}
use Rattle.std.proofs.lemmas.List.{get_or_past, get_or-set_same, get_or-set_other, length-map, get_or-map}
use Rattle.std.proofs.lemmas.List.Elements.{Contains-push_cases, Contains-append_cases}
use Rattle.std.proofs.lemmas.List.FromFn.{get_or-range_with_len, length-range_with_len}
use Rattle.std.proofs.lemmas.List.Sums.{passes_at_first}
use Rattle.std.proofs.lemmas.Bool.{cases_eq, cases_lt}
use Rattle.reo_values.specs.declared.value.Value.{Value}
use Rattle.reo_net_base.specs.declared.mark.Mark.TheVariants.{F, G, R, J}
use Rattle.reo_net_base.specs.declared.joint.End.{End}
use Rattle.reo_net_base.specs.declared.joint.Joint.{Joint}
use Rattle.reo_net_base.specs.Marks.{is_flow}
use Rattle.reo_net_base.specs.Net.{Net, end_of, end_eq}
use Rattle.reo_net_laws.specs.Ends.{mark_in, from_in}
use Rattle.reo_net_laws.proofs.Items.{end_is}
use Rattle.reo_joint_values.specs.Values.{no_joint}
use Rattle.reo_joint_values.specs.Fitting.{given_for, passes_in}
use Rattle.reo_joint_values.specs.Standing.{giver_of, CanStand}
use Rattle.reo_joint_values.specs.Standing.CanStand.{alone, passed}
use Rattle.reo_refute_base.specs.Items.{Lists, items_at, joint_into, listed, given_on, given_from, given_by, plain_rows, offered_at, IsAdded, IsVisited, AreVisited, ArePassed}
use Rattle.reo_refute_base.specs.Items.IsAdded.{none, known, fresh}
use Rattle.reo_refute_base.specs.Items.AreVisited.{begun, next}
use Rattle.reo_refute_base.specs.Items.ArePassed.{empty, pass}
use Rattle.reo_refute_base.specs.laws.Laws.{ItemsAreListed}
use Rattle.reo_refute_base.proofs.laws.Listing.{same_given, same_passes, visits_grow, contained}

rest_has : {X : Type 0} (x : X) (rest : List X) (y : X) → Contains rest y → Contains (x ∷ rest) y
rest_has x rest y has = (suc has.0, omega (arith, has.1), has.2)

-- What is in a list was there, or was offered.
pub added_from : (items offered new : List Value) → IsAdded items offered new → (y : Value) → Contains new y → Contains items y ⊎ Contains offered y
added_from items offered new (none xs) y has = inl has
added_from items offered new (known xs rest ys x there added) y has =
    elim (added_from xs rest ys added y has) [ inl old ↦ inl old | inr more ↦ inr (rest_has x rest y more) ]
added_from items offered new (fresh xs rest ys x not added) y has =
    elim (added_from (xs ++ (x ∷ [])) rest ys added y has) [
      | inl old ↦ elim (Contains-push_cases xs x y old) [ inl here ↦ inl here | inr same ↦ inr (0, omega arith, same) ]
      | inr more ↦ inr (rest_has x rest y more)
    ]

pub flat_from : {X : Type 0} (f : X → List Value) (xs : List X) (y : Value) → Contains (flat_map f xs) y → (x : X) × Contains xs x × Contains (f x) y
flat_from f [] y has = absurd (omega (arith, has.1))
flat_from f (z ∷ xs) y has = elim (Contains-append_cases (f z) (flat_map f xs) y has) [
  | inl here ↦ (z, (0, omega arith, refl), here)
  | inr more ↦ let r = flat_from f xs y more in (r.0, rest_has z xs r.0 r.1, r.2)
]

range_below : (n k : ℕ) → Contains (range_with_len 0 n) k → k < n
range_below n k has =
    let lt : has.0 < n = subst (λ (m : ℕ). has.0 < m) (length-range_with_len 0 n) has.1 in
    let is : 0 + has.0 ≡ k = sym (get_or-range_with_len 0 n has.0 k lt) ∙ has.2 in
    omega (arith, lt, is)

listed_from : (o : Option Value) (y : Value) → Contains (listed o) y → o ≡ Some y
listed_from None y has = absurd (omega (arith, has.1))
listed_from (Some x) y (zero, lt, is) = ap Some is
listed_from (Some x) y (suc k, lt, is) = absurd (omega (arith, lt))

abbrev pub AreSound : Net → Lists → Type 0
AreSound net lists = (j : ℕ) (item : Value) → j < length net.joints → Contains (items_at lists j) item → CanStand net j item

module _ (net : Net) (lists : Lists) (one_each : length lists ≡ length net.joints) (sound : AreSound net lists) (j : ℕ) (lt : j < length net.joints) (row : ℕ) (row_in : row < plain_rows net (giver_of net j)) (item : Value) (flows : mark_in net row (giver_of net j) ≡ F) where
  abbrev e : End
  e = giver_of net j

  let_in : (source : End) (taken : Value) → Contains (given_on net row (giver_of net j) source taken) item → (passes_in net row source taken ≡ true) × (given_for net row (giver_of net j) (Some taken) ≡ Some item)
  let_in source taken has =
      elim (passes_in net row source taken) as (λ t. passes_in net row source taken ≡ t → Contains (cond t (listed (given_for net row (giver_of net j) (Some taken))) []) item → (passes_in net row source taken ≡ true) × (given_for net row (giver_of net j) (Some taken) ≡ Some item)) [
        | true ↦ λ is h. (is, listed_from (given_for net row (giver_of net j) (Some taken)) item h)
        | false ↦ λ is h. absurd (omega (arith, h.1))
      ] refl has

  into : (source : End) (taken : Value) → Contains (items_at lists (joint_into net source)) taken → joint_into net source < length net.joints
  into source taken has = elim (cases_lt (joint_into net source) (length net.joints)) [
    | inl lt ↦ lt
    | inr past ↦
        let none : items_at lists (joint_into net source) ≡ [] = get_or_past lists (joint_into net source) [] (omega (arith, past, one_each)) in
        let n : length (items_at lists (joint_into net source)) ≡ 0 = ap length none in
        absurd (omega (arith, has.1, n))
  ]

  stand_from : (o : Option ℕ) → from_in net row (giver_of net j) ≡ o → Contains (given_from net lists row (giver_of net j) o) item → CanStand net j item
  stand_from None is has = alone j row item lt (record {
    flows = record { plain = omega (arith, row_in); flows = flows };
    alone = is;
    given = same_given net row (giver_of net j) None ∙ listed_from (given_for net row (giver_of net j) None) item has;
  })
  stand_from (Some f) is has =
      let source : End = end_of (giver_of net j).primitive f in
      let k : ℕ = joint_into net source in
      let r = flat_from (given_on net row (giver_of net j) source) (items_at lists k) item has in
      let k_in : k < length net.joints = into source r.0 r.1 in
      let taker : (get_or net.joints k no_joint).taker ≡ source = end_is (get_or net.joints k no_joint).taker source (passes_at_first (λ (joint : Joint). end_eq joint.taker source) net.joints no_joint k_in) in
      let both = let_in source r.0 r.2 in
      passed j row k r.0 item lt
      (record {
        brings = record { flows = record { plain = omega (arith, row_in); flows = flows }; in_range = k_in; from = f; decides = is; taker = taker };
        given = record {
          let_in = same_passes net row (get_or net.joints k no_joint).taker r.0 ∙ ap (λ (s : End). passes_in net row s r.0) taker ∙ both.0;
          given = same_given net row (giver_of net j) (Some r.0) ∙ both.1;
        };
      })
      (sound k r.0 k_in r.1)

pub offered_stand : (net : Net) (lists : Lists) → length lists ≡ length net.joints → AreSound net lists → (j : ℕ) → j < length net.joints → (y : Value) → Contains (offered_at net lists j) y → CanStand net j y
offered_stand net lists one_each sound j lt y has =
    let e : End = giver_of net j in
    let r = flat_from (given_by net lists j) (range_with_len 0 (plain_rows net e)) y has in
    let row : ℕ = r.0 in
    let row_in : row < plain_rows net e = range_below (plain_rows net e) row r.1 in
    elim (mark_in net row e) as (λ m. mark_in net row e ≡ m → Contains (cond (is_flow m) (given_from net lists row e (from_in net row e)) []) y → CanStand net j y) [
      | F ↦ λ is h. stand_from net lists one_each sound j lt row row_in y is (from_in net row e) refl h
      | G ↦ λ is h. absurd (omega (arith, h.1))
      | R ↦ λ is h. absurd (omega (arith, h.1))
      | J ↦ λ is h. absurd (omega (arith, h.1))
    ] refl r.2

pub visit_sound : (net : Net) (j : ℕ) (old new : Lists) → length old ≡ length net.joints → j < length net.joints → AreSound net old → IsVisited net j old new → AreSound net new
visit_sound net j old new one_each lt sound v = subst (AreSound net) (sym v.after) (λ i item i_lt has.
    elim (cases_eq i j) [
      | inl same ↦
          let is : items_at (set old j v.items) i ≡ v.items = ap (items_at (set old j v.items)) same ∙ get_or-set_same old j v.items [] (omega (arith, one_each, lt)) in
          let now : Contains v.items item = subst (λ (l : List Value). Contains l item) is has in
          subst (λ (k : ℕ). CanStand net k item) (sym same) (elim (added_from (items_at old j) (offered_at net old j) v.items v.added item now) [
            | inl there ↦ sound j item lt there
            | inr offered ↦ offered_stand net old one_each sound j lt item offered
          ])
      | inr other ↦ sound i item i_lt (subst (λ (l : List Value). Contains l item) (get_or-set_other old j i v.items [] other) has)
    ])

visits_sound : (net : Net) (n : ℕ) (old new : Lists) → AreVisited net n old new → n ≤ length net.joints → length old ≡ length net.joints → AreSound net old → AreSound net new
visits_sound net n old new (begun lists) le one_each sound = sound
visits_sound net n old new (next m a b c before visit) le one_each sound =
    visit_sound net m b c ((visits_grow net m a b before).one_each ∙ one_each) (omega (arith, le)) (visits_sound net m a b before (omega (arith, le)) one_each sound) visit

pub passed_length : (net : Net) (lists : Lists) → ArePassed net lists → length lists ≡ length net.joints
passed_length net lists empty = length-map net.joints (λ _. [])
passed_length net lists (pass old new before is) = (visits_grow net (length net.joints) old new is).one_each ∙ passed_length net old before

pub passed_sound : (net : Net) (lists : Lists) → ArePassed net lists → AreSound net lists
passed_sound net lists empty j item lt has =
    let none : items_at (map (λ (_ : Joint). []) net.joints) j ≡ [] = get_or-map (λ (_ : Joint). []) net.joints j no_joint [] lt in
    let n : length (items_at (map (λ (_ : Joint). []) net.joints) j) ≡ 0 = ap length none in
    absurd (omega (arith, has.1, n))
passed_sound net lists (pass old new before is) j item lt has =
    visits_sound net (length net.joints) old new is (omega arith) (passed_length net old before) (λ i x i_lt there. passed_sound net old before i x i_lt there) j item lt has

pub items_are_listed : ItemsAreListed
items_are_listed net wired lists are j item lt = (λ has. passed_sound net lists are.passed j item lt has, λ can. contained net wired lists are j item can)
