-- Values of a joint of which one stays.
use Rattle.std.proofs.Common.{◌≡◌, inl, inr, ℕ, zero, suc, ◌+◌, ◌<◌, ◌≤◌, ◌&&◌, ◌||◌, not, nat_lt, Bool, true, false, cond, List, [], ◌∷◌, ◌++◌, length, get_or, map, take, refl, ap, sym, ◌∙◌, subst, arith}
use Rattle.std.specs.Prelude.{filter}
use Rattle.std.specs.Bool.{◌==◌}
use Rattle.std.specs.List.{range_with_len}
use Rattle.std.proofs.lemmas.Bool.{cases_eq, cases_Bool, or_left, or_right, eqb-true, eq-eqb, not-false}
use Rattle.std.proofs.lemmas.Bool.Decides.{nat_tests}
use Rattle.std.proofs.lemmas.List.{take_more, take_all}
use Rattle.reo_joint_values.specs.declared.value.JointValue.{JointValue}
use Rattle.reo_joint_values.specs.declared.value.JointValue.TheVariants.{Flow, RG, GR, GG, Jam}
use Rattle.reo_joint_values.specs.Values.{Family, value_eq}
use Rattle.reo_joint_values.proofs.Narrowing.{same_value}
use Rattle.reo_refute_base.specs.Items.{Lists, items_at}
use Rattle.reo_refute_base.specs.Live.{all_live, live_at, values_of, without, alone}
use Rattle.reo_refute_live.specs.declared.support.live.LiveAt.{LiveAt}
use Rattle.reo_refute_live.specs.support.Families.{family_of, AreLive}
use Rattle.reo_refute_live.proofs.TrailLemmas.{live_one}

-- Whether a value is among some.
abbrev pub is_among : JointValue → List JointValue → Bool
is_among w [] = false
is_among w (v ∷ vs) = value_eq w v || is_among w vs

or_assoc : (a b c : Bool) → a || (b || c) ≡ (a || b) || c
or_assoc a b c = grind (arith, nat_tests)

among_append : (w : JointValue) (xs ys : List JointValue) → is_among w (xs ++ ys) ≡ is_among w xs || is_among w ys
among_append w [] ys = refl
among_append w (x ∷ xs) ys = ap (λ (b : Bool). value_eq w x || b) (among_append w xs ys) ∙ or_assoc (value_eq w x) (is_among w xs) (is_among w ys)

or_none : (a : Bool) → a || false ≡ a
or_none a = grind (arith, nat_tests)

among_last : (w v : JointValue) (xs : List JointValue) → is_among w (xs ++ (v ∷ [])) ≡ is_among w xs || value_eq w v
among_last w v xs = among_append w xs (v ∷ []) ∙ ap (λ (b : Bool). is_among w xs || b) (or_none (value_eq w v))

or_rest : (a b : Bool) → a ≡ false → a || b ≡ true → b ≡ true
or_rest a b h k = grind (arith, nat_tests)

-- What is live is among the values that are live.
among_filter : (p : JointValue → Bool) (w : JointValue) (vs : List JointValue) → p w ≡ true → is_among w vs ≡ true → is_among w (filter p vs) ≡ true
among_filter p w [] h is = is
among_filter p w (v ∷ vs) h is = elim (cases_Bool (value_eq w v)) [
  | inl same ↦
      let here : p v ≡ true = ap p (sym (same_value w v same)) ∙ h in
      subst (λ (b : Bool). is_among w (cond b (v ∷ filter p vs) (filter p vs)) ≡ true) (sym here) (or_left (value_eq w v) (is_among w (filter p vs)) same)
  | inr other ↦
      let rest = among_filter p w vs h (or_rest (value_eq w v) (is_among w vs) other is) in
      elim (p v) as (λ b. is_among w (cond b (v ∷ filter p vs) (filter p vs)) ≡ true) [
        | true ↦ or_right (value_eq w v) (is_among w (filter p vs)) rest
        | false ↦ rest
      ]
]

among_flows : (n k count : ℕ) → k ≤ n → n < k + count → is_among (Flow n) (map Flow (range_with_len k count)) ≡ true
among_flows n k zero le lt = absurd (omega (arith, le, lt))
among_flows n k (suc count) le lt = elim (cases_eq n k) [
  | inl e ↦ or_left (n == k) (is_among (Flow n) (map Flow (range_with_len (k + 1) count))) (eq-eqb n k e)
  | inr off ↦ or_right (n == k) (is_among (Flow n) (map Flow (range_with_len (k + 1) count))) (among_flows n (k + 1) count (omega (arith, le, off)) (omega (arith, lt)))
]

below_from : (k n : ℕ) → nat_lt n k ≡ true → n < k
below_from k n is = grind (arith, nat_tests)

module _ (lists : Lists) (joint : ℕ) where
  abbrev flows : List JointValue
  flows = map Flow (range_with_len 0 (length (items_at lists joint)))

  abbrev marks : List JointValue
  marks = RG ∷ GR ∷ GG ∷ Jam ∷ []

  in_marks : (w : JointValue) → is_among w marks ≡ true → is_among w (values_of lists joint) ≡ true
  in_marks w is = among_append w flows marks ∙ or_right (is_among w flows) (is_among w marks) is

  all_among : (w : JointValue) → all_live lists joint w ≡ true → is_among w (values_of lists joint) ≡ true
  all_among (Flow n) is =
      let lt : n < 0 + length (items_at lists joint) = omega (arith, below_from (length (items_at lists joint)) n is) in
      among_append (Flow n) flows marks ∙ or_left (is_among (Flow n) flows) (is_among (Flow n) marks) (among_flows n 0 (length (items_at lists joint)) (omega arith) lt)
  all_among RG is = in_marks RG refl
  all_among GR is = in_marks GR refl
  all_among GG is = in_marks GG refl
  all_among Jam is = in_marks Jam refl

  pub live_among : (table : List LiveAt) → AreLive lists table → (w : JointValue) → family_of table joint w ≡ true → is_among w (live_at lists (family_of table) joint) ≡ true
  live_among table are w is = among_filter (family_of table joint) w (values_of lists joint) is (all_among w (live_one lists table are joint w is))

-- What is live when of these values of a joint only one is left, if it is among them.
abbrev pub held : Family → ℕ → JointValue → List JointValue → Family
held live joint keep vs i w = live i w && not ((i == joint) && (is_among w vs && not (value_eq w keep)))

none_held : (a e q : Bool) → a && not (e && (false && q)) ≡ a
none_held a e q = grind (arith, nat_tests)

left_out : (a e m s q : Bool) → (s ≡ true → q ≡ false) → (a && not (e && (m && not q))) && not (e && s) ≡ a && not (e && ((m || s) && not q))
left_out a e m true q h = let off = h refl in grind (arith, nat_tests)
left_out a e m false q h = grind (arith, nat_tests)

left_in : (a e m s q : Bool) → (s ≡ true → q ≡ true) → a && not (e && (m && not q)) ≡ a && not (e && ((m || s) && not q))
left_in a e m true q h = let on = h refl in grind (arith, nat_tests)
left_in a e m false q h = grind (arith, nat_tests)

left_dead : (a e m s q : Bool) → (e ≡ true → s ≡ true → a && not (e && (m && not q)) ≡ false) → a && not (e && (m && not q)) ≡ a && not (e && ((m || s) && not q))
left_dead a true m true q h = let dead = h refl refl in grind (arith, nat_tests)
left_dead a false m true q h = grind (arith, nat_tests)
left_dead a e m false q h = grind (arith, nat_tests)

all_held : (a e m q : Bool) → (a ≡ true → e ≡ true → m ≡ true) → a && not (e && (m && not q)) ≡ a && (not e || q)
all_held true true m q h = let on = h refl refl in grind (arith, nat_tests)
all_held false e m q h = grind (arith, nat_tests)
all_held a false m q h = grind (arith, nat_tests)

and_left : (a b : Bool) → a && b ≡ false → a ≡ true → b ≡ false
and_left a b h k = grind (arith, nat_tests)

and_both : (a b : Bool) → a && not b ≡ true → (a ≡ true) × (b ≡ false)
and_both true false h = (refl, refl)
and_both true true h = absurd cc
and_both false b h = absurd cc

module _ (live : Family) (joint : ℕ) (keep : JointValue) where
  pub held_none : held live joint keep [] ≡ live
  held_none i j w = none_held (live j w) (j == joint) (not (value_eq w keep)) i

  module _ (vs : List JointValue) (n : ℕ) (v : JointValue) (lt : n < length vs) (is : v ≡ get_or vs n v) where
    more : take (n + 1) vs ≡ take n vs ++ (v ∷ [])
    more = take_more vs n v lt ∙ ap (λ (x : JointValue). take n vs ++ (x ∷ [])) (sym is)

    among_more : (w : JointValue) → is_among w (take (n + 1) vs) ≡ is_among w (take n vs) || value_eq w v
    among_more w = ap (is_among w) more ∙ among_last w v (take n vs)

    by_among : (j : ℕ) (w : JointValue) → live j w && not ((j == joint) && ((is_among w (take n vs) || value_eq w v) && not (value_eq w keep))) ≡ held live joint keep (take (n + 1) vs) j w
    by_among j w = ap (λ (b : Bool). live j w && not ((j == joint) && (b && not (value_eq w keep)))) (sym (among_more w))

    module _ (now : Family) (now_is : now ≡ held live joint keep (take n vs)) where
      now_at : (j : ℕ) (w : JointValue) → now j w ≡ held live joint keep (take n vs) j w
      now_at j w = ap (λ (f : Family). f j w) now_is

      -- The next value goes.
      pub held_gone : now joint v && not (value_eq v keep) ≡ true → (after : Family) → after ≡ without now joint v → after ≡ held live joint keep (take (n + 1) vs)
      held_gone goes after after_is = after_is ∙ (λ i j w. at j w i)
        where
          at : (j : ℕ) (w : JointValue) → without now joint v j w ≡ held live joint keep (take (n + 1) vs) j w
          at j w =
              let off : value_eq w v ≡ true → value_eq w keep ≡ false = λ same. ap (λ (x : JointValue). value_eq x keep) (same_value w v same) ∙ (and_both (now joint v) (value_eq v keep) goes).1 in
              ap (λ (b : Bool). b && not ((j == joint) && value_eq w v)) (now_at j w) ∙ left_out (live j w) (j == joint) (is_among w (take n vs)) (value_eq w v) (value_eq w keep) off ∙ by_among j w

      -- It stays, or is not live.
      pub held_stays : now joint v && not (value_eq v keep) ≡ false → now ≡ held live joint keep (take (n + 1) vs)
      held_stays stays = now_is ∙ (λ i j w. at j w i)
        where
          at : (j : ℕ) (w : JointValue) → held live joint keep (take n vs) j w ≡ held live joint keep (take (n + 1) vs) j w
          at j w = elim (cases_Bool (now joint v)) [
            | inl on ↦
                let kept : value_eq v keep ≡ true = not-false (value_eq v keep) (and_left (now joint v) (not (value_eq v keep)) stays on) in
                let yes : value_eq w v ≡ true → value_eq w keep ≡ true = λ same. ap (λ (x : JointValue). value_eq x keep) (same_value w v same) ∙ kept in
                left_in (live j w) (j == joint) (is_among w (take n vs)) (value_eq w v) (value_eq w keep) yes ∙ by_among j w
            | inr dead ↦
                let none : (j == joint) ≡ true → value_eq w v ≡ true → held live joint keep (take n vs) j w ≡ false =
                λ here same. sym (now_at j w) ∙ ap (λ (k : ℕ). now k w) (eqb-true j joint here) ∙ ap (now joint) (same_value w v same) ∙ dead in
                left_dead (live j w) (j == joint) (is_among w (take n vs)) (value_eq w v) (value_eq w keep) none ∙ by_among j w
          ]

  -- All but one went.
  pub held_all : (vs : List JointValue) (n : ℕ) → length vs ≤ n → ((w : JointValue) → live joint w ≡ true → is_among w vs ≡ true) → held live joint keep (take n vs) ≡ alone live joint keep
  held_all vs n le all = ap (held live joint keep) (take_all n vs le) ∙ (λ i j w. at j w i)
    where
      at : (j : ℕ) (w : JointValue) → held live joint keep vs j w ≡ alone live joint keep j w
      at j w =
          all_held (live j w) (j == joint) (is_among w vs) (value_eq w keep)
          (λ on here. all w (ap (λ (k : ℕ). live k w) (sym (eqb-true j joint here)) ∙ on))
