-- A branch leaves no choice of live values that allowed rows fit.
use Rattle.std.proofs.Common.{◌≡◌, inl, inr, ℕ, suc, ◌<◌, ◌==◌, ◌&&◌, not, List, [], ◌∷◌, Bool, true, false, cond, length, get_or, filter, Contains, ap, sym, ◌∙◌, subst, arith}
use Rattle.std.proofs.lemmas.List.{get_or_default}
use Rattle.std.proofs.lemmas.Bool.{cases_Bool, and_parts}
use Rattle.std.proofs.lemmas.Bool.Decides.{nat_tests}
use Rattle.reo_values.proofs.Truths.{and_or_left, and_or_right}
use Rattle.reo_net_base.specs.Net.{Net}
use Rattle.reo_net_base.specs.Sides.{side_count}
use Rattle.reo_net_base.specs.Wired.{IsWired}
use Rattle.reo_refute_base.proofs.laws.Listing.{first_or}
use Rattle.reo_joint_values.specs.declared.value.JointValue.{JointValue}
use Rattle.reo_joint_values.specs.declared.value.JointValue.TheVariants.{Jam}
use Rattle.reo_joint_values.specs.Values.{Choice, Family, value_eq}
use Rattle.reo_joint_values.specs.Fitting.{Fits}
use Rattle.reo_refute_base.proofs.Narrowing.{value_same, same_value}
use Rattle.reo_joint_values.proofs.Inside.{side_below}
use Rattle.reo_refute_base.specs.declared.line.LogLine.{LogLine}
use Rattle.reo_refute_base.specs.Items.{Lists, numbered}
use Rattle.reo_refute_base.specs.Live.{values_of, live_at, without, alone}
use Rattle.reo_refute_base.specs.Logs.{MayGo, live_value, IsBranch}
use Rattle.reo_refute_base.specs.Logs.IsBranch.{drop, empty, split}

-- What passes a test is in the filtered list.
pub filter_has : {X : Type 0} (p : X → Bool) (xs : List X) (x : X) → Contains xs x → p x ≡ true → Contains (filter p xs) x
filter_has {X = X} p [] x has is = absurd (omega (arith, has.1))
filter_has {X = X} p (y ∷ xs) x has is =
    elim (cases_Bool (p y)) [
      | inl holds ↦ elim (first_or y xs x has) [
        | inl same ↦ subst (λ l. Contains l x) (sym (kept holds)) (0, omega arith, same)
        | inr more ↦ subst (λ l. Contains l x) (sym (kept holds)) (further (filter p xs) (filter_has p xs x more is))
      ]
      | inr off ↦ elim (first_or y xs x has) [
        | inl same ↦ absurd (wrong off same)
        | inr more ↦ subst (λ l. Contains l x) (sym (left off)) (filter_has p xs x more is)
      ]
    ]
  where
    kept : p y ≡ true → filter p (y ∷ xs) ≡ y ∷ filter p xs
    kept holds = ap (λ t. cond t (y ∷ filter p xs) (filter p xs)) holds

    left : p y ≡ false → filter p (y ∷ xs) ≡ filter p xs
    left off = ap (λ t. cond t (y ∷ filter p xs) (filter p xs)) off

    wrong : p y ≡ false → y ≡ x → ⊥
    wrong off same = let e : true ≡ false = sym is ∙ ap p (sym same) ∙ off in cc

    further : (zs : List X) → Contains zs x → Contains (y ∷ zs) x
    further zs (k, lt, same) = (suc k, omega (arith, lt), same)

-- A choice of values that rows fit, all of them allowed.
pub record IsFitting (net : Net) (lists : Lists) (allowed : ℕ → ℕ → Type 0) (rows : ℕ → ℕ) (choice : Choice) : Type 0 where
  pub fits : (side : ℕ) → side < side_count net → Fits net (numbered lists) choice side (rows side)
  pub are : (side : ℕ) → side < side_count net → allowed side (rows side)
  pub among : (j : ℕ) → j < length net.joints → Contains (values_of lists j) (choice j)

eq_from : (i j : ℕ) → i == j ≡ true → i ≡ j
eq_from i j h = grind (arith, nat_tests)

and_not : (a b : Bool) → a ≡ true → b ≡ false → a && not b ≡ true
and_not a b h e = grind (arith, nat_tests)

module _ (net : Net) (wired : IsWired net) (lists : Lists) (allowed : ℕ → ℕ → Type 0) (rows : ℕ → ℕ) (choice : Choice) (fitting : IsFitting net lists allowed rows choice) where
  -- The values of the choice are live.
  abbrev AreLive : Family → Type 0
  AreLive live = (j : ℕ) → j < length net.joints → live j (choice j) ≡ true

  -- They are not among those that may go.
  stay : (live : Family) (j : ℕ) (v : JointValue) (side : ℕ) → MayGo net lists allowed live j v side → AreLive live → AreLive (without live j v)
  stay live j v side may are i lt =
      elim (cases_Bool ((i == j) && value_eq (choice i) v)) [
        | inl holds ↦
            let parts = and_parts (i == j) (value_eq (choice i) v) holds in
            let here : i ≡ j = eq_from i j parts.0 in
            let chosen : choice j ≡ v = ap choice (sym here) ∙ same_value (choice i) v parts.1 in
            let below : side < side_count net = side_below net wired j side may.in_range may.at_side in
            absurd (may.unsupported (record {
              used = record { row = rows side; choice = choice; fits = fitting.fits side below; chosen = chosen; from = λ k k_lt at. are k k_lt };
              allowed_row = fitting.are side below;
            }))
        | inr off ↦ and_not (live i (choice i)) ((i == j) && value_eq (choice i) v) (are i lt) off
      ]

  held : (live : Family) (j : ℕ) (v : JointValue) → choice j ≡ v → AreLive live → AreLive (alone live j v)
  held live j v is are i lt =
      elim (cases_Bool (i == j)) [
        | inl holds ↦
            let same : choice i ≡ v = ap choice (eq_from i j holds) ∙ is in
            and_or_right (live i (choice i)) (i == j) (value_eq (choice i) v) (are i lt) (ap (λ (w : JointValue). value_eq w v) same ∙ value_same v)
        | inr off ↦ and_or_left (live i (choice i)) (i == j) (value_eq (choice i) v) (are i lt) off
      ]

  there : (live : Family) (j : ℕ) → j < length net.joints → AreLive live → Contains (live_at lists live j) (choice j)
  there live j lt are = filter_has (live j) (values_of lists j) (choice j) (fitting.among j lt) (are j lt)

  pub none_left : (live : Family) (lines : List LogLine) → AreLive live → IsBranch net lists allowed live lines → ⊥
  none_left live lines are (drop now j v side rest may branch) =
      none_left (without now j v) rest (stay now j v side may are) branch
  none_left live lines are (empty now j is) =
      let has : Contains (live_at lists now j) (choice j) = there now j is.in_range are in
      let n : length (live_at lists now j) ≡ 0 = ap length is.none in
      absurd (omega (arith, has.1, n))
  none_left live lines are (split now j pieces may count branches) =
      let has : Contains (live_at lists now j) (choice j) = there now j may.in_range are in
      let is : choice j ≡ live_value lists now j has.0 = sym (sym (get_or_default (live_at lists now j) has.0 (choice j) Jam has.1) ∙ has.2) in
      none_left (alone now j (live_value lists now j has.0)) (get_or pieces has.0 []) (held now j (live_value lists now j has.0) is are) (branches has.0 (omega (arith, has.1, count)))
