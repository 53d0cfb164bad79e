-- The greatest supported family exists.
use Rattle.std.proofs.Common.{◌≡◌, ◌⊎◌, inl, inr, ◌↔◌, ℕ, zero, suc, ◌<◌, List, Bool, true, false, not, length, refl, ap, sym, subst, arith}
use Rattle.std.specs.Prelude.{Contains}
use Rattle.std.specs.List.{filter}
use Rattle.std.specs.Option.{is_some}
use Rattle.std.proofs.lemmas.Bool.{cases_eq, cases_lt, not_from_false, not_from_true}
use Rattle.reo_net_base.specs.Net.{Net}
use Rattle.reo_net_base.specs.Sides.{side_count}
use Rattle.reo_net_base.specs.Wired.{IsWired}
use Rattle.reo_weights.proofs.Sides.{side_in_range}
use Rattle.reo_joint_values.specs.Many.{IsJointIn}
use Rattle.reo_joint_values.specs.declared.value.JointValue.{JointValue}
use Rattle.reo_joint_values.specs.declared.value.JointValue.TheVariants.{Flow, RG, GR, GG, Jam}
use Rattle.reo_joint_values.specs.Values.{Names, Family, no_joint, joint_of, giver_side, taker_side, AtSide}
use Rattle.reo_joint_values.specs.Supported.{IsUsed, IsSupported, IsInGreatest, IsNarrowed}
use Rattle.reo_joint_values.proofs.Narrowing.{narrowed_further, narrowed_whole}
use Rattle.reo_weights.specs.Weights.{all_values, AreSupported}
use Rattle.reo_weights.proofs.Decisions.{IsDecided, is_so, so_true, true_so, both_decided, same_decided, true_decided, some_in}
use Rattle.reo_weights.proofs.ListLemmas.{AreOnce}
use Rattle.reo_weights.proofs.Listings.{HasList, in_filter, filter_shorter, listed_same, listed_one, listed_either, listed_below, listed_where, listed_over, listed_once, contains_decided}
use Rattle.reo_weights.proofs.UseLemmas.{values_decided, used_decided}

-- All values of a joint, where the numbers of items there have a bound.
module _ (names : Names) (j bound : ℕ) (below : (n : ℕ) → is_some (names j n) ≡ true → n < bound) where
  abbrev IsSome : JointValue → Type 0
  IsSome v = ((n : ℕ) × (n < bound) × (Flow n ≡ v)) ⊎ ((RG ≡ v) ⊎ ((GR ≡ v) ⊎ ((GG ≡ v) ⊎ (Jam ≡ v))))

  some_value : (v : JointValue) → all_values names j v ≡ true → IsSome v
  some_value (Flow n) whole = inl (n, below n whole, refl)
  some_value RG whole = inr (inl refl)
  some_value GR whole = inr (inr (inl refl))
  some_value GG whole = inr (inr (inr (inl refl)))
  some_value Jam whole = inr (inr (inr (inr refl)))

  listed_some : HasList IsSome
  listed_some =
      listed_either (λ (v : JointValue). (n : ℕ) × (n < bound) × (Flow n ≡ v)) (λ (v : JointValue). (RG ≡ v) ⊎ ((GR ≡ v) ⊎ ((GG ≡ v) ⊎ (Jam ≡ v))))
      (listed_below (λ n (v : JointValue). Flow n ≡ v) bound (λ n lt. listed_one (Flow n)))
      (listed_either (λ (v : JointValue). RG ≡ v) (λ (v : JointValue). (GR ≡ v) ⊎ ((GG ≡ v) ⊎ (Jam ≡ v))) (listed_one RG)
      (listed_either (λ (v : JointValue). GR ≡ v) (λ (v : JointValue). (GG ≡ v) ⊎ (Jam ≡ v)) (listed_one GR)
      (listed_either (λ (v : JointValue). GG ≡ v) (λ (v : JointValue). Jam ≡ v) (listed_one GG) (listed_one Jam))))

  -- The values of a joint, listed.
  pub value_list : HasList (λ (v : JointValue). all_values names j v ≡ true)
  value_list =
      listed_same (λ (v : JointValue). IsSome v × (all_values names j v ≡ true)) (λ (v : JointValue). all_values names j v ≡ true) (λ v h. h.1) (λ v whole. (some_value v whole, whole))
      (listed_where IsSome (λ (v : JointValue). all_values names j v ≡ true) (λ v. true_decided (all_values names j v)) listed_some)

-- A value at a joint.
abbrev Place : Type 0
Place = ℕ × JointValue

places_decided : (p q : Place) → IsDecided (p ≡ q)
places_decided p q =
    same_decided (λ h i. (h.0 i, h.1 i)) (λ e. (ap (λ (x : Place). x.0) e, ap (λ (x : Place). x.1) e)) (both_decided (cases_eq p.0 q.0) (values_decided p.1 q.1))

-- The family of the values in a list.
abbrev family_in : List Place → Family
family_in xs j v = is_so (contains_decided places_decided xs (j, v))

in_family : (xs : List Place) (j : ℕ) (v : JointValue) → Contains xs (j, v) → family_in xs j v ≡ true
in_family xs j v h = so_true (contains_decided places_decided xs (j, v)) h

from_family : (xs : List Place) (j : ℕ) (v : JointValue) → family_in xs j v ≡ true → Contains xs (j, v)
from_family xs j v h = true_so (contains_decided places_decided xs (j, v)) h

module _ (net : Net) (names : Names) (wired : IsWired net) (values : (j : ℕ) → HasList (λ (v : JointValue). all_values names j v ≡ true)) where
  -- All values at the joints of the circuit.
  abbrev IsPlace : Place → Type 0
  IsPlace p = (p.0 < length net.joints) × (all_values names p.0 p.1 ≡ true)

  abbrev PlaceAt : ℕ → Place → Type 0
  PlaceAt k p = (v : JointValue) × (all_values names k v ≡ true) × ((k, v) ≡ p)

  place_list : HasList IsPlace
  place_list =
      listed_same (λ (p : Place). (k : ℕ) × (k < length net.joints) × PlaceAt k p) IsPlace
      (λ p h. subst IsPlace h.2.2 (h.1, h.2.1)) (λ p h. (p.0, h.0, (p.1, h.1, refl)))
      (listed_below PlaceAt (length net.joints) (λ k lt.
      listed_over (λ (v : JointValue) (p : Place). (k, v) ≡ p) (λ (v : JointValue). all_values names k v ≡ true) (values k) (λ v whole. listed_one (k, v))))

  at_in_range : (j side : ℕ) → j < length net.joints → AtSide net j side → side < side_count net
  at_in_range j side lt (inl gives) = subst (λ (s : ℕ). s < side_count net) gives (side_in_range net wired (joint_of net j).giver (wired.givers j no_joint lt))
  at_in_range j side lt (inr takes) = subst (λ (s : ℕ). s < side_count net) takes (side_in_range net wired (joint_of net j).taker (wired.takers j no_joint lt))

  module _ (inside : ℕ → Bool) where
    -- Values of the circuit, out of which no value of a supported family has gone.
    record AreLeft (xs : List Place) : Type 0 where
      are : (p : Place) → Contains xs p → all_values names p.0 p.1 ≡ true
      narrowed : IsNarrowed net names inside (all_values names) (family_in xs)

    module _ (xs : List Place) (left : AreLeft xs) where
      use_decided : (side j : ℕ) (v : JointValue) → j < length net.joints → AtSide net j side → IsDecided (IsUsed net names (family_in xs) side j v)
      use_decided side j v lt at = used_decided net names wired values (family_in xs) (λ i w h. left.are (i, w) (from_family xs i w h)) side j v (at_in_range j side lt at) lt at

      -- A value that is not used at a side of the set.
      abbrev IsUnusedAt : ℕ → ℕ → JointValue → Type 0
      IsUnusedAt side j v = (inside side ≡ true) × (IsUsed net names (family_in xs) side j v → ⊥)

      abbrev IsUnused : Place → Type 0
      IsUnused p = (p.0 < length net.joints) × ((side : ℕ) × AtSide net p.0 side × IsUnusedAt side p.0 p.1)

      unused_at : (side j : ℕ) (v : JointValue) → j < length net.joints → AtSide net j side → IsDecided (IsUnusedAt side j v)
      unused_at side j v lt at = both_decided (true_decided (inside side)) (not_decided (use_decided side j v lt at))
        where
          not_decided : {A : Type 0} → IsDecided A → IsDecided (A → ⊥)
          not_decided (inl a) = inr (λ h. h a)
          not_decided (inr a) = inl a

      unused_decided : (p : Place) → IsDecided (IsUnused p)
      unused_decided p = elim (cases_lt p.0 (length net.joints)) [
        | inr past ↦ inr (λ h. omega (arith, past, h.0))
        | inl lt ↦ elim (unused_at (giver_side net p.0) p.0 p.1 lt (inl refl)) [
          | inl giver ↦ inl (lt, (giver_side net p.0, inl refl, giver))
          | inr giver ↦ elim (unused_at (taker_side net p.0) p.0 p.1 lt (inr refl)) [
            | inl taker ↦ inl (lt, (taker_side net p.0, inr refl, taker))
            | inr taker ↦ inr (λ h. neither p giver taker h.1.0 h.1.1 h.1.2)
          ]
        ]
      ]
        where
          neither : (p : Place) → (IsUnusedAt (giver_side net p.0) p.0 p.1 → ⊥) → (IsUnusedAt (taker_side net p.0) p.0 p.1 → ⊥) → (side : ℕ) → AtSide net p.0 side → IsUnusedAt side p.0 p.1 → ⊥
          neither p giver taker side (inl gives) h = giver (subst (λ (s : ℕ). IsUnusedAt s p.0 p.1) (sym gives) h)
          neither p giver taker side (inr takes) h = taker (subst (λ (s : ℕ). IsUnusedAt s p.0 p.1) (sym takes) h)

      -- Where each is used, the family is supported.
      all_used : ((p : Place) × Contains xs p × IsUnused p → ⊥) → IsSupported net names inside (family_in xs)
      all_used none side is j v lt at has = elim (use_decided side j v lt at) [
        | inl used ↦ used
        | inr unused ↦ absurd (none ((j, v), from_family xs j v has, (lt, (side, at, (is, unused)))))
      ]

      -- The rest without a place.
      abbrev rest_of : Place → List Place
      rest_of p = filter (λ q. not (is_so (places_decided p q))) xs

      -- What is not used may go.
      rest_left : (p : Place) → IsUnused p → AreLeft (rest_of p)
      rest_left p unused =
          let stays : (q : Place) → Bool = λ q. not (is_so (places_decided p q)) in
          record {
            are = λ q h. left.are q ((in_filter stays xs q).0 h).0;
            narrowed = narrowed_further net names inside (all_values names) (family_in xs) (family_in (rest_of p)) left.narrowed
                (λ j side v lt at is h. in_family xs j v ((in_filter stays xs (j, v)).0 (from_family (rest_of p) j v h)).0)
                (λ j side v lt at is h. elim (places_decided p (j, v)) [
                  | inl same ↦ inr (gone (j, v) same)
                  | inr other ↦ inl (in_family (rest_of p) j v ((in_filter stays xs (j, v)).1 (from_family xs j v h, not_from_false (is_so (places_decided p (j, v))) (so_false (places_decided p (j, v)) other))))
                ]);
          }
        where
          gone : (q : Place) → p ≡ q → (k : ℕ) × (AtSide net q.0 k) × (inside k ≡ true) × (IsUsed net names (family_in xs) k q.0 q.1 → ⊥)
          gone q same = subst (λ (x : Place). (k : ℕ) × (AtSide net x.0 k) × (inside k ≡ true) × (IsUsed net names (family_in xs) k x.0 x.1 → ⊥)) same (unused.1.0, unused.1.1, unused.1.2.0, unused.1.2.1)

          so_false : {A : Type 0} → (d : IsDecided A) → (A → ⊥) → is_so d ≡ false
          so_false (inl a) no_more = absurd (no_more a)
          so_false (inr a) no_more = refl

      fewer_left : (p : Place) → Contains xs p → length (rest_of p) < length xs
      fewer_left p h = filter_shorter (λ q. not (is_so (places_decided p q))) xs p h (not_from_true (is_so (places_decided p p)) (so_true (places_decided p p) refl))

    -- A supported family out of which no value of a supported family has gone.
    record HasNarrowed : Type 0 where
      family : Family
      narrowed : IsNarrowed net names inside (all_values names) family
      supported : IsSupported net names inside family

    -- Values that are not used are taken away one by one.
    narrow : (n : ℕ) (xs : List Place) → length xs < n → AreLeft xs → HasNarrowed
    narrow zero xs lt left = absurd (omega arith)
    narrow (suc n) xs lt left = elim (some_in (IsUnused xs left) (unused_decided xs left) xs) [
      | inr none ↦ record { family = family_in xs; narrowed = left.narrowed; supported = all_used xs left none }
      | inl some ↦ narrow n (rest_of xs left some.0) (omega (arith, lt, fewer_left xs left some.0 some.1)) (rest_left xs left some.0 some.2)
    ]

    greatest : HasNarrowed
    greatest = narrow (suc (length place_list.list)) place_list.list (omega arith) (record {
      are = λ p h. ((place_list.exact p).0 h).1;
      narrowed = record {
        smaller = λ j side v lt at is h. ((place_list.exact (j, v)).0 (from_family place_list.list j v h)).1;
        keeps = λ family within supported j side v lt at is h. in_family place_list.list j v ((place_list.exact (j, v)).1 (lt, within j side v lt at is h));
      };
    })

    supported_list : (j : ℕ) → (l : HasList (λ (v : JointValue). (all_values names j v ≡ true) × (greatest.family j v ≡ true))) × AreOnce l.list
    supported_list j =
        listed_once values_decided (λ (v : JointValue). (all_values names j v ≡ true) × (greatest.family j v ≡ true))
        (listed_where (λ (v : JointValue). all_values names j v ≡ true) (λ (v : JointValue). greatest.family j v ≡ true) (λ v. true_decided (greatest.family j v)) (values j))

    -- The values of it at a joint, none twice.
    pub supported_values : ℕ → List JointValue
    supported_values j = (supported_list j).0.list

    -- These are the values that are supported.
    pub supported_are : (j : ℕ) → IsJointIn net inside j → AreSupported net names inside j (supported_values j)
    unfolding supported_values
    supported_are j is =
        let they = supported_list j in
        let whole : (v : JointValue) → (greatest.family j v ≡ true) ↔ IsInGreatest net names inside (all_values names) j v =
        λ v. narrowed_whole net names inside (all_values names) greatest.family greatest.narrowed greatest.supported j (giver_side net j) v is.0 (inl refl) is.1 in
        record {
          exact = λ v. (
            λ h. (whole v).0 ((they.0.exact v).0 h).1,
            λ g. (they.0.exact v).1 (g.within j (giver_side net j) v is.0 (inl refl) is.1 g.has, (whole v).1 g),
          );
          once = λ m n lt n_in d. they.1 m n d lt n_in;
        }
