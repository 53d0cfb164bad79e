-- Bounds on items bound widths and weights.
use Rattle.std.proofs.Common.{◌≡◌, inl, inr, ℕ, ◌+◌, ◌<◌, ◌≤◌, List, [], ◌∷◌, ◌++◌, Bool, Option, Some, None, true, length, get_or, refl, ap, sym, ◌∙◌, subst, arith, length-append}
use Rattle.std.specs.Prelude.{Contains, map}
use Rattle.std.specs.Option.{is_some}
use Rattle.std.proofs.lemmas.List.{length-map, get_or-map}
use Rattle.std.proofs.lemmas.List.Elements.{Contains-get_or, Contains-append_left, Contains-append_right}
use Rattle.reo_values.specs.declared.value.Value.{Value}
use Rattle.reo_net_base.specs.Net.{Net}
use Rattle.reo_net_base.specs.Wired.{IsWired, IsOrder}
use Rattle.reo_net_laws.specs.Parts.{IsClosed}
use Rattle.reo_joint_values.specs.Standing.{CanStand}
use Rattle.reo_joint_values.specs.Many.{IsJointIn}
use Rattle.reo_joint_values.specs.declared.value.JointValue.{JointValue}
use Rattle.reo_joint_values.specs.declared.value.JointValue.TheVariants.{Flow, RG, GR, GG, Jam}
use Rattle.reo_joint_values.specs.Values.{Names, giver_side}
use Rattle.reo_weights.specs.Bounds.{HasAtMost, AreBounds, AreLoopsIn, most_choices, WeightIsAtMost, BoundedPartsAreWithin}
use Rattle.reo_weights.specs.Over.{IsWithin}
use Rattle.reo_weights.specs.Weights.{AreNamed, all_values, AreSupported, IsWeight, product_of, capped}
use Rattle.reo_weights.proofs.BoundLemmas.{few_stand}
use Rattle.reo_weights.proofs.ExistLemmas.{some_weight}
use Rattle.reo_weights.proofs.FewerWeights.{product_le, capped_le}
use Rattle.reo_weights.proofs.ListLemmas.{fewer, same_increasing}
use Rattle.reo_weights.proofs.Listings.{at_head, behind_head, head_or_behind, not_in_none}

-- What a value says: the item that flows, or one of four values without flow.
data Said : Type 0 where
  item : Value → Said
  rest : ℕ → Said

item_said : Option Value → Said
item_said None = rest 4
item_said (Some x) = item x

in_map : (xs : List Value) (x : Value) → Contains xs x → Contains (map item xs) (item x)
in_map [] x h = absurd (not_in_none x h)
in_map (y ∷ ys) x h = elim (head_or_behind y ys x h) [
  | inl same ↦ subst (λ (z : Value). Contains (item y ∷ map item ys) (item z)) same (at_head (item y) (map item ys))
  | inr there ↦ behind_head (item y) (map item ys) (item x) (in_map ys x there)
]

module _ (net : Net) (inside : ℕ → Bool) (names : Names) (named : AreNamed net inside names) (j : ℕ) (is : IsJointIn net inside j) where
  said : JointValue → Said
  said (Flow n) = item_said (names j n)
  said RG = rest 0
  said GR = rest 1
  said GG = rest 2
  said Jam = rest 3

  some_named : (n : ℕ) → is_some (names j n) ≡ true → (x : Value) × (names j n ≡ Some x)
  some_named n whole = elim (names j n) as (λ o. is_some o ≡ true → (x : Value) × (o ≡ Some x)) [ None ↦ λ h. cc | Some x ↦ λ h. (x, refl) ] whole

  not_rest : (n k : ℕ) → is_some (names j n) ≡ true → item_said (names j n) ≡ rest k → ⊥
  unfolding item_said
  not_rest n k whole same = let x = some_named n whole in let wrong : item x.0 ≡ rest k = ap item_said (sym x.1) ∙ same in cc

  -- Values that say the same are one.
  said_apart : (v w : JointValue) → all_values names j v ≡ true → all_values names j w ≡ true → said v ≡ said w → v ≡ w
  unfolding said item_said
  said_apart (Flow m) (Flow n) p q same =
      let x = some_named m p in
      let y = some_named n q in
      let items : item x.0 ≡ item y.0 = ap item_said (sym x.1) ∙ same ∙ ap item_said y.1 in
      let one : x.0 ≡ y.0 = cc in
      ap Flow (named.once j m n x.0 is x.1 (y.1 ∙ ap (λ (z : Value). Some z) (sym one)))
  said_apart (Flow m) RG p q same = absurd (not_rest m 0 p same)
  said_apart (Flow m) GR p q same = absurd (not_rest m 1 p same)
  said_apart (Flow m) GG p q same = absurd (not_rest m 2 p same)
  said_apart (Flow m) Jam p q same = absurd (not_rest m 3 p same)
  said_apart RG (Flow n) p q same = absurd (not_rest n 0 q (sym same))
  said_apart GR (Flow n) p q same = absurd (not_rest n 1 q (sym same))
  said_apart GG (Flow n) p q same = absurd (not_rest n 2 q (sym same))
  said_apart Jam (Flow n) p q same = absurd (not_rest n 3 q (sym same))
  said_apart RG RG p q same = refl
  said_apart GR GR p q same = refl
  said_apart GG GG p q same = refl
  said_apart Jam Jam p q same = refl
  said_apart v w p q same = cc

  -- All that values say where these items can stand.
  abbrev four : List Said
  four = rest 0 ∷ rest 1 ∷ rest 2 ∷ rest 3 ∷ []

  module _ (n : ℕ) (few : HasAtMost (CanStand net j) n) where
    abbrev all_said : List Said
    all_said = map item few.items ++ four

    said_in : (v : JointValue) → all_values names j v ≡ true → Contains all_said (said v)
    unfolding said item_said
    said_in (Flow m) whole =
        let x = some_named m whole in
        subst (λ (s : Said). Contains all_said s) (ap item_said (sym x.1))
        (Contains-append_left (map item few.items) four (item x.0) (in_map few.items x.0 (few.all x.0 (named.sound j m x.0 is x.1))))
    said_in RG whole = Contains-append_right (map item few.items) four (rest 0) (0, omega arith, refl)
    said_in GR whole = Contains-append_right (map item few.items) four (rest 1) (1, omega arith, refl)
    said_in GG whole = Contains-append_right (map item few.items) four (rest 2) (2, omega arith, refl)
    said_in Jam whole = Contains-append_right (map item few.items) four (rest 3) (3, omega arith, refl)

    few_values : (values : List JointValue) → AreSupported net names inside j values → length values ≤ n + 4
    few_values values are =
        let whole : (v : JointValue) → Contains values v → all_values names j v ≡ true = λ v h. let g = (are.exact v).0 h in g.within j (giver_side net j) v is.0 (inl refl) is.1 g.has in
        let le = fewer values all_said said (λ k m d lt m_in. are.once k m lt m_in d) (λ v w v_in w_in same. said_apart v w (whole v v_in) (whole w w_in) same) (λ v v_in. said_in v (whole v v_in)) in
        let long : length all_said ≡ length (map item few.items) + 4 = length-append (map item few.items) four in
        let same : length (map item few.items) ≡ length few.items = length-map few.items item in
        let most = few.few in
        omega (arith, le, long, same, most)

module _ (net : Net) (wired : IsWired net) (order : List ℕ) (is_order : IsOrder net order) (inside : ℕ → Bool) (closed : IsClosed net inside) (bound : ℕ → ℕ) (are : AreBounds net inside bound)
    (loops : List ℕ) (are_loops : AreLoopsIn net inside loops) where
  few_here : (j : ℕ) → IsJointIn net inside j → HasAtMost (CanStand net j) (bound j)
  few_here = few_stand net wired order is_order inside closed bound are

  weighs_at_most : (weight : ℕ) → IsWeight net inside weight → weight ≤ most_choices bound loops
  weighs_at_most weight w =
      let same : w.loops ≡ loops = same_increasing w.loops loops w.are_loops.increasing are_loops.increasing (λ j. (
        λ h. (are_loops.exact j).1 ((w.are_loops.exact j).0 h),
        λ h. (w.are_loops.exact j).1 ((are_loops.exact j).0 h),
      )) in
      let bounds : List ℕ = map (λ j. bound j + 4) w.loops in
      let counts_long : length (map length w.values) ≡ length w.values = length-map w.values length in
      let bounds_long : length bounds ≡ length w.loops = length-map w.loops (λ j. bound j + 4) in
      let le = product_le (map length w.values) bounds (counts_long ∙ w.one_each ∙ sym bounds_long) (λ k lt.
      let v_in : k < length w.values = omega (arith, lt, counts_long) in
      let k_in : k < length w.loops = omega (arith, v_in, w.one_each) in
      let j : ℕ = get_or w.loops k 0 in
      let at = ((w.are_loops.exact j).0 (Contains-get_or w.loops k 0 k_in)).0 in
      let few = few_values net inside w.names w.named j at (bound j) (few_here j at) (get_or w.values k []) (w.supported k k_in) in
      let count : get_or (map length w.values) k 0 ≡ length (get_or w.values k []) = get_or-map length w.values k [] 0 v_in in
      let most : get_or bounds k 0 ≡ bound j + 4 = get_or-map (λ j. bound j + 4) w.loops k 0 0 k_in in
      omega (arith, few, count, most)) in
      let below = capped_le (product_of (map length w.values)) (product_of bounds) le in
      let is : capped (product_of bounds) ≡ most_choices bound loops = ap (most_choices bound) same in
      omega (arith, below, is, w.is)

  bounded : ((j : ℕ) → IsJointIn net inside j → bound j ≤ 256) → (budget : ℕ) → most_choices bound loops ≤ budget → IsWithin budget net inside
  bounded narrow budget enough =
      let found = some_weight net wired order is_order inside in
      record {
        narrow = λ wide.
            let few = few_here wide.joint wide.is_joint in
            let le = fewer wide.many.items few.items (λ x. x) wide.many.distinct (λ x y x_in y_in e. e) (λ x h. few.all x (wide.many.stand x h)) in
            let most = few.few in
            let small = narrow wide.joint wide.is_joint in
            let many = wide.many.many in
            omega (arith, le, most, small, many);
        weight = found.0;
        weighs = found.1;
        few = let le = weighs_at_most found.0 found.1 in omega (arith, le, enough);
      }

pub at_most : WeightIsAtMost
at_most net wired order is_order inside closed bound are loops are_loops weight w = weighs_at_most net wired order is_order inside closed bound are loops are_loops weight w

pub bounded_within : BoundedPartsAreWithin
bounded_within net wired order is_order inside closed bound are narrow loops are_loops budget enough = bounded net wired order is_order inside closed bound are loops are_loops narrow budget enough
