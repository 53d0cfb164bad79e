-- The joints of a closed set, in an order.
use Rattle.std.proofs.Common.{◌≡◌, ◌≢◌, inl, inr, ℕ, zero, suc, ◌+◌, ◌<◌, ◌≤◌, List, [], ◌∷◌, ◌++◌, Bool, true, false, cond, length, get_or, take, ap, sym, ◌∙◌, subst, arith, below_more, append-nil, length-append}
use Rattle.std.specs.List.{filter}
use Rattle.std.proofs.Math.Seq.{get_or-append_seam}
use Rattle.std.proofs.lemmas.Bool.{cases_Bool}
use Rattle.std.proofs.lemmas.List.{get_or_append_left, take_all}
use Rattle.std.proofs.lemmas.List.Elements.{filter_more}
use Rattle.reo_net_base.specs.Net.{Net, side_at}
use Rattle.reo_joint_values.specs.Standing.{no_joint, giver_of, Brings}
use Rattle.reo_joint_values.specs.InOrder.{AreInOrder, PartsAreInOrder}
use Rattle.reo_joint_values.proofs.InOrder.{brings_feeds, order_in_order}

module _ (net : Net) (order : List ℕ) (is : AreInOrder net order) (test : ℕ → Bool)
    (closed : (j row k : ℕ) → j < length net.joints → test j ≡ true → Brings net (giver_of net j) row k → test k ≡ true) where
  -- Those of the first n joints of the order that pass the test.
  record IsPicked (n : ℕ) (xs : List ℕ) : Type 0 where
    in_order : AreInOrder net xs
    from : (p : ℕ) → p < length xs → (m : ℕ) × (m < n) × (get_or order m 0 ≡ get_or xs p 0) × (test (get_or xs p 0) ≡ true)
    has : (m : ℕ) → m < n → test (get_or order m 0) ≡ true → (p : ℕ) × (p < length xs) × (get_or xs p 0 ≡ get_or order m 0)

  none_picked : IsPicked 0 []
  none_picked = record {
    in_order = record {
      in_range = λ m lt. absurd (omega arith);
      once = λ m n lt n_in. absurd (omega arith);
      brought = λ m row k lt brings. absurd (omega arith);
    };
    from = λ p lt. absurd (omega arith);
    has = λ m lt held. absurd (omega arith);
  }

  skipped : (n : ℕ) (xs : List ℕ) → test (get_or order n 0) ≡ false → IsPicked n xs → IsPicked (n + 1) xs
  skipped n xs fails are = record {
    in_order = are.in_order;
    from = λ p lt. let it = are.from p lt in (it.0, omega (arith, it.1), it.2, it.3);
    has = below_more (λ (m : ℕ). test (get_or order m 0) ≡ true → (p : ℕ) × (p < length xs) × (get_or xs p 0 ≡ get_or order m 0)) n are.has
        (λ held. let wrong : false ≡ true = sym fails ∙ held in absurd cc);
  }

  module _ (n : ℕ) (xs : List ℕ) (lt : n < length order) (passes : test (get_or order n 0) ≡ true) (are : IsPicked n xs) where
    abbrev x : ℕ
    x = get_or order n 0

    abbrev more : List ℕ
    more = xs ++ get_or order n 0 ∷ []

    count : length more ≡ length xs + 1
    count = omega (arith, length-append xs (x ∷ []))

    left : (p : ℕ) → p < length xs → get_or more p 0 ≡ get_or xs p 0
    left p p_in = get_or_append_left xs (x ∷ []) 0 p p_in

    last : get_or more (length xs) 0 ≡ x
    last = get_or-append_seam xs x [] 0

    from_more : (p : ℕ) → p < length xs + 1 → (m : ℕ) × (m < n + 1) × (get_or order m 0 ≡ get_or more p 0) × (test (get_or more p 0) ≡ true)
    from_more =
        below_more (λ (p : ℕ). (m : ℕ) × (m < n + 1) × (get_or order m 0 ≡ get_or more p 0) × (test (get_or more p 0) ≡ true)) (length xs)
        (λ p p_in. let it = are.from p p_in in (it.0, omega (arith, it.1), it.2 ∙ sym (left p p_in), ap test (left p p_in) ∙ it.3))
        (n, omega arith, sym last, ap test last ∙ passes)

    has_more : (m : ℕ) → m < n + 1 → test (get_or order m 0) ≡ true → (p : ℕ) × (p < length more) × (get_or more p 0 ≡ get_or order m 0)
    has_more =
        below_more (λ (m : ℕ). test (get_or order m 0) ≡ true → (p : ℕ) × (p < length more) × (get_or more p 0 ≡ get_or order m 0)) n
        (λ m m_lt held. let it = are.has m m_lt held in (it.0, omega (arith, it.1, count), left it.0 it.1 ∙ it.2))
        (λ held. (length xs, omega (arith, count), last))

    in_range_more : (p : ℕ) → p < length xs + 1 → get_or more p 0 < length net.joints
    in_range_more =
        below_more (λ (p : ℕ). get_or more p 0 < length net.joints) (length xs) (λ p p_in. rw (left p p_in) (are.in_order.in_range p p_in)) (rw last (is.in_range n lt))

    once_more : (q : ℕ) → q < length xs + 1 → (p : ℕ) → p < q → get_or more p 0 ≢ get_or more q 0
    once_more =
        below_more (λ (q : ℕ). (p : ℕ) → p < q → get_or more p 0 ≢ get_or more q 0) (length xs)
        (λ q q_in p p_lt same. are.in_order.once p q p_lt q_in (sym (left p (omega arith)) ∙ same ∙ left q q_in))
        (λ p p_lt same. let it = are.from p p_lt in is.once it.0 n it.1 lt (it.2 ∙ sym (left p p_lt) ∙ same ∙ last))

    brought_more : (p : ℕ) → p < length xs + 1 → (row k : ℕ) → Brings net (giver_of net (get_or more p 0)) row k → (q : ℕ) × (q < p) × (get_or more q 0 ≡ k)
    brought_more =
        below_more (λ (p : ℕ). (row k : ℕ) → Brings net (giver_of net (get_or more p 0)) row k → (q : ℕ) × (q < p) × (get_or more q 0 ≡ k)) (length xs)
        (λ p p_in row k brings.
        let it = are.in_order.brought p row k p_in (subst (λ (j : ℕ). Brings net (giver_of net j) row k) (left p p_in) brings) in
        (it.0, it.1, left it.0 (omega (arith, it.1)) ∙ it.2))
        (λ row k brings.
        let brings_x : Brings net (giver_of net x) row k = subst (λ (j : ℕ). Brings net (giver_of net j) row k) last brings in
        let before = is.brought n row k lt brings_x in
        let held : test k ≡ true = closed x row k (is.in_range n lt) passes brings_x in
        let it = are.has before.0 before.1 (ap test before.2 ∙ held) in
        (it.0, it.1, left it.0 it.1 ∙ it.2 ∙ before.2))

    picked : IsPicked (n + 1) more
    picked = record {
      in_order = record {
        in_range = λ p p_in. in_range_more p (omega (arith, count));
        once = λ p q p_lt q_in. once_more q (omega (arith, count)) p p_lt;
        brought = λ p row k p_in brings. brought_more p (omega (arith, count)) row k brings;
      };
      from = λ p p_in. from_more p (omega (arith, count));
      has = has_more;
    }

  picked_to : (n : ℕ) → n ≤ length order → IsPicked n (filter test (take n order))
  picked_to zero le = none_picked
  picked_to (suc n) le =
      let before = picked_to n (omega arith) in
      let lt : n < length order = omega arith in
      let step : filter test (take (n + 1) order) ≡ filter test (take n order) ++ cond (test (get_or order n 0)) (get_or order n 0 ∷ []) [] = filter_more test order n 0 lt in
      let next : IsPicked (n + 1) (filter test (take (n + 1) order)) = elim (cases_Bool (test (get_or order n 0))) [
        | inl held ↦
            let is_more : filter test (take (n + 1) order) ≡ filter test (take n order) ++ get_or order n 0 ∷ [] = step ∙ ap (λ (t : Bool). filter test (take n order) ++ cond t (get_or order n 0 ∷ []) []) held in
            subst (λ (xs : List ℕ). IsPicked (n + 1) xs) (sym is_more) (picked n (filter test (take n order)) lt held before)
        | inr not_it ↦
            let is_same : filter test (take (n + 1) order) ≡ filter test (take n order) =
            step ∙ ap (λ (t : Bool). filter test (take n order) ++ cond t (get_or order n 0 ∷ []) []) not_it ∙ append-nil (filter test (take n order)) in
            subst (λ (xs : List ℕ). IsPicked (n + 1) xs) (sym is_same) (skipped n (filter test (take n order)) not_it before)
      ] in
      let same : n + 1 ≡ suc n = omega arith in
      subst (λ (m : ℕ). IsPicked m (filter test (take m order))) same next

  pub filter_in_order : AreInOrder net (filter test order)
  filter_in_order =
      let all = picked_to (length order) (omega arith) in
      subst (λ (xs : List ℕ). AreInOrder net (filter test xs)) (take_all (length order) order (omega arith)) all.in_order

pub parts_in_order : PartsAreInOrder
parts_in_order net wired order is inside closed =
    filter_in_order net order (order_in_order net wired order is) (λ j. inside (side_at net (giver_of net j)))
    (λ j row k lt held brings. closed.along k no_joint brings.in_range ∙ ap inside (brings_feeds net wired j row k lt brings) ∙ held)
