-- Rows and values that grow along joints: from a side to all that joints link to it.
use Rattle.std.proofs.Common.{◌≡◌, ◌≢◌, ◌⊎◌, inl, inr, ℕ, zero, suc, ◌<◌, ◌≤◌, Bool, true, cond, refl, ap, sym, ◌∙◌, subst, arith}
use Rattle.std.specs.Bool.{◌==◌}
use Rattle.std.specs.Prelude.{◌||◌}
use Rattle.std.proofs.lemmas.Bool.{cases_eq, cases_Bool, cond-true, cond-false, eqb-true, eq-eqb, ne_eqb, or_cases, cases_lt}
use Rattle.reo_support.proofs.Labels.{label, label_joins, label_stays, label_along, label_before}
use Rattle.reo_support.proofs.Labels.Before.{one, down, up}
use Rattle.std.proofs.lemmas.Bool.{or_left as either_left, or_right as either_right}

-- A joint comes from a side or goes there.
abbrev pub At : (ℕ → ℕ) → (ℕ → ℕ) → ℕ → ℕ → Type 0
At giver taker j k = (giver j ≡ k) ⊎ (taker j ≡ k)

-- Two numbers for the sides of a joint: both are the same, or they are those of its two sides.
module _ (giver taker : ℕ → ℕ) (i b d : ℕ) where
  at_joined : (l : ℕ → ℕ) → At giver taker i b → At giver taker i d → l (giver i) ≡ l (taker i) → l b ≡ l d
  at_joined l (inl x) (inl y) e = sym (ap l x) ∙ ap l y
  at_joined l (inl x) (inr y) e = sym (ap l x) ∙ e ∙ ap l y
  at_joined l (inr x) (inl y) e = sym (ap l x) ∙ sym e ∙ ap l y
  at_joined l (inr x) (inr y) e = sym (ap l x) ∙ ap l y

  at_both : (l : ℕ → ℕ) → At giver taker i b → At giver taker i d → b ≢ d → l b ≡ l d → l (giver i) ≡ l (taker i)
  at_both l (inl x) (inl y) apart e = absurd (apart (sym x ∙ y))
  at_both l (inl x) (inr y) apart e = ap l x ∙ e ∙ sym (ap l y)
  at_both l (inr x) (inl y) apart e = ap l y ∙ sym e ∙ sym (ap l x)
  at_both l (inr x) (inr y) apart e = absurd (apart (sym x ∙ y))

-- A side with its row and the values at its joints.
pub record Suits (V : Type 0) (count : ℕ) (giver taker : ℕ → ℕ) (Fits : (ℕ → V) → ℕ → ℕ → Type 0) (S : ℕ → V → Bool) (Inside : ℕ → Type 0) (choice : ℕ → V) (b row : ℕ) : Type 0 where
  pub inside : Inside b
  pub fits : Fits choice b row
  pub from : (j : ℕ) → j < count → At giver taker j b → S j (choice j) ≡ true

-- A value at a joint, with a row and values for the other joints of a side.
pub record Offer (V : Type 0) (count : ℕ) (giver taker : ℕ → ℕ) (Fits : (ℕ → V) → ℕ → ℕ → Type 0) (S : ℕ → V → Bool) (Inside : ℕ → Type 0) (k j : ℕ) (v : V) : Type 0 where
  pub row : ℕ
  pub choice : ℕ → V
  pub suits : Suits V count giver taker Fits S Inside choice k row
  pub chosen : choice j ≡ v

-- Rows and values for all that the first n joints link to a side, where they are the given ones.
pub record Growth (V : Type 0) (count : ℕ) (giver taker : ℕ → ℕ) (Fits : (ℕ → V) → ℕ → ℕ → Type 0) (S : ℕ → V → Bool) (Inside : ℕ → Type 0) (n a row : ℕ) (c : ℕ → V) : Type 0 where
  pub rows : ℕ → ℕ
  pub choice : ℕ → V
  pub row_is : rows a ≡ row
  pub same : (j : ℕ) → j < count → At giver taker j a → choice j ≡ c j
  pub each : (b : ℕ) → label giver taker n b ≡ label giver taker n a → Suits V count giver taker Fits S Inside choice b (rows b)

module _ (V : Type 0) (count : ℕ) (giver taker : ℕ → ℕ) (Fits : (ℕ → V) → ℕ → ℕ → Type 0) (S : ℕ → V → Bool) (Inside : ℕ → Type 0)
    (local : (c d : ℕ → V) (k row : ℕ) → ((j : ℕ) → j < count → At giver taker j k → c j ≡ d j) → Fits c k row → Fits d k row)
    (across : (j a b : ℕ) → j < count → At giver taker j a → At giver taker j b → Inside a → Inside b)
    (offers : (j k : ℕ) (v : V) → j < count → At giver taker j k → Inside k → S j v ≡ true → Offer V count giver taker Fits S Inside k j v)
    (single : (j : ℕ) (v w : V) → j < count → Inside (giver j) → label giver taker j (giver j) ≡ label giver taker j (taker j) → S j v ≡ true → S j w ≡ true → v ≡ w) where
  abbrev Grows : ℕ → ℕ → ℕ → (ℕ → V) → Type 0
  Grows n a row c = Growth V count giver taker Fits S Inside n a row c

  abbrev Good : (ℕ → V) → ℕ → ℕ → Type 0
  Good c a row = Suits V count giver taker Fits S Inside c a row

  -- The same row, and values that agree at the joints of the side.
  alike : (c d : ℕ → V) (b row other : ℕ) → other ≡ row → ((j : ℕ) → j < count → At giver taker j b → d j ≡ c j) → Good c b row → Good d b other
  alike c d b row other e agree good = record {
    inside = good.inside;
    fits = subst (λ (r : ℕ). Fits d b r) (sym e) (local c d b row (λ j lt at. sym (agree j lt at)) good.fits);
    from = λ j lt at. subst (λ v. S j v ≡ true) (sym (agree j lt at)) (good.from j lt at);
  }

  -- The joint n is at the side near, to which a is linked, and at the side far, to which it is not.
  module _ (n : ℕ) (n_in : n < count) (a row : ℕ) (c : ℕ → V) (g : Grows n a row c) (near far : ℕ) (at_near : At giver taker n near) (at_far : At giver taker n far)
      (linked : label giver taker n near ≡ label giver taker n a) (apart : label giver taker n far ≢ label giver taker n a)
      (grow : (b r : ℕ) (d : ℕ → V) → Good d b r → Grows n b r d) where
    o : Offer V count giver taker Fits S Inside far n (g.choice n)
    o =
        let here = g.each near linked in
        offers n far (g.choice n) n_in at_far (across n near far n_in at_near at_far here.inside) (here.from n n_in at_near)

    f : Grows n far o.row o.choice
    f = grow far o.row o.choice o.suits

    -- The joint n links the two classes.
    bridged : (b d : ℕ) → label giver taker n b ≡ label giver taker n a → label giver taker n d ≡ label giver taker n far → label giver taker (suc n) b ≡ label giver taker (suc n) d
    bridged b d b_is d_is =
        label_stays giver taker n (suc n) b near (omega arith) (b_is ∙ sym linked)
        ∙ at_joined giver taker n near far (λ k. label giver taker (suc n) k) at_near at_far (label_joins giver taker n)
        ∙ label_stays giver taker n (suc n) far d (omega arith) (sym d_is)

    -- A joint between the two classes has one value in both.
    agree : (i b d : ℕ) → i < count → At giver taker i b → label giver taker n b ≡ label giver taker n a → At giver taker i d → label giver taker n d ≡ label giver taker n far → f.choice i ≡ g.choice i
    agree i b d i_in at_b b_is at_d d_is =
        let split : label giver taker n b ≢ label giver taker n d = λ e. apart (sym d_is ∙ sym e ∙ b_is) in
        elim (cases_lt i n) [
          | inl earlier ↦ absurd (split (at_joined giver taker i b d (λ k. label giver taker n k) at_b at_d (label_along giver taker i n earlier)))
          | inr from_n ↦ elim (cases_eq i n) [
            | inl here ↦ subst (λ (k : ℕ). f.choice k ≡ g.choice k) (sym here) (f.same n n_in at_far ∙ o.chosen)
            | inr later ↦
                let joined = label_stays giver taker (suc n) i b d (omega (arith, later)) (bridged b d b_is d_is) in
                let closes = at_both giver taker i b d (λ k. label giver taker i k) at_b at_d (λ e. split (ap (λ k. label giver taker n k) e)) joined in
                single i (f.choice i) (g.choice i) i_in (across i b (giver i) i_in at_b (inl refl) (g.each b b_is).inside) closes
                ((f.each d d_is).from i i_in at_d) ((g.each b b_is).from i i_in at_b)
          ]
        ]

    -- Whether a side of a joint is linked to the side far.
    touches : ℕ → Bool
    touches i = (label giver taker n (giver i) == label giver taker n far) || (label giver taker n (taker i) == label giver taker n far)

    touches_at : (i d : ℕ) → At giver taker i d → label giver taker n d ≡ label giver taker n far → touches i ≡ true
    unfolding touches
    touches_at i d (inl x) d_is =
        either_left (label giver taker n (giver i) == label giver taker n far) (label giver taker n (taker i) == label giver taker n far)
        (eq-eqb (label giver taker n (giver i)) (label giver taker n far) (ap (λ k. label giver taker n k) x ∙ d_is))
    touches_at i d (inr x) d_is =
        either_right (label giver taker n (giver i) == label giver taker n far) (label giver taker n (taker i) == label giver taker n far)
        (eq-eqb (label giver taker n (taker i)) (label giver taker n far) (ap (λ k. label giver taker n k) x ∙ d_is))

    touched : (i : ℕ) → touches i ≡ true → (d : ℕ) × At giver taker i d × (label giver taker n d ≡ label giver taker n far)
    unfolding touches
    touched i h = elim (or_cases (label giver taker n (giver i) == label giver taker n far) (label giver taker n (taker i) == label giver taker n far) h) [
      | inl x ↦ (giver i, inl refl, eqb-true (label giver taker n (giver i)) (label giver taker n far) x)
      | inr x ↦ (taker i, inr refl, eqb-true (label giver taker n (taker i)) (label giver taker n far) x)
    ]

    -- What grew from the side far at its joints, and what grew from a at all others.
    both : ℕ → V
    both i = cond (touches i) (f.choice i) (g.choice i)

    both_far : (i d : ℕ) → At giver taker i d → label giver taker n d ≡ label giver taker n far → both i ≡ f.choice i
    unfolding both
    both_far i d at d_is = cond-true (touches i) (f.choice i) (g.choice i) (touches_at i d at d_is)

    both_near : (i b : ℕ) → i < count → At giver taker i b → label giver taker n b ≡ label giver taker n a → both i ≡ g.choice i
    unfolding both
    both_near i b i_in at b_is = elim (cases_Bool (touches i)) [
      | inl there ↦
          let t = touched i there in
          cond-true (touches i) (f.choice i) (g.choice i) there ∙ agree i b t.0 i_in at b_is t.1 t.2
      | inr never ↦ cond-false (touches i) (f.choice i) (g.choice i) never
    ]

    rows : ℕ → ℕ
    rows b = cond (label giver taker n b == label giver taker n far) (f.rows b) (g.rows b)

    rows_far : (b : ℕ) → label giver taker n b ≡ label giver taker n far → rows b ≡ f.rows b
    unfolding rows
    rows_far b b_is = cond-true (label giver taker n b == label giver taker n far) (f.rows b) (g.rows b) (eq-eqb (label giver taker n b) (label giver taker n far) b_is)

    rows_near : (b : ℕ) → label giver taker n b ≡ label giver taker n a → rows b ≡ g.rows b
    unfolding rows
    rows_near b b_is =
        cond-false (label giver taker n b == label giver taker n far) (f.rows b) (g.rows b)
        (ne_eqb (label giver taker n b) (label giver taker n far) (λ e. apart (sym e ∙ b_is)))

    -- What is linked to a now was linked to a, or to the side far.
    merged : ((b : ℕ) → label giver taker (suc n) b ≡ label giver taker (suc n) a → (label giver taker n b ≡ label giver taker n a) ⊎ (label giver taker n b ≡ label giver taker n far))
        → Grows (suc n) a row c
    merged was = record {
      rows = rows;
      choice = both;
      row_is = rows_near a refl ∙ g.row_is;
      same = λ j lt at. both_near j a lt at refl ∙ g.same j lt at;
      each = λ b b_is. elim (was b b_is) [
        | inl x ↦ alike g.choice both b (g.rows b) (rows b) (rows_near b x) (λ j lt at. both_near j b lt at x) (g.each b x)
        | inr x ↦ alike f.choice both b (f.rows b) (rows b) (rows_far b x) (λ j lt at. both_far j b at x) (f.each b x)
      ];
    }

  -- The joint n links nothing new to a.
  kept : (n a row : ℕ) (c : ℕ → V) → ((b : ℕ) → label giver taker (suc n) b ≡ label giver taker (suc n) a → label giver taker n b ≡ label giver taker n a) → Grows n a row c → Grows (suc n) a row c
  kept n a row c was g = record { rows = g.rows; choice = g.choice; row_is = g.row_is; same = g.same; each = λ b b_is. g.each b (was b b_is) }

  -- One more joint: it closes a loop, or it is at a class that is linked to a, or at no such class.
  step : (n : ℕ) → n < count → ((b r : ℕ) (d : ℕ → V) → Good d b r → Grows n b r d) → (a row : ℕ) (c : ℕ → V) → Grows n a row c → Grows (suc n) a row c
  step n n_in grow a row c g =
      let p : ℕ = label giver taker n (giver n) in
      let q : ℕ = label giver taker n (taker n) in
      let here : ℕ = label giver taker n a in
      elim (cases_eq p q) [
        | inl loop ↦ kept n a row c (λ b e. elim (label_before giver taker n b a e) [
          | one x ↦ x
          | down x y ↦ x ∙ sym loop ∙ sym y
          | up x y ↦ x ∙ loop ∙ sym y
        ]) g
        | inr apart ↦ elim (cases_eq here p) [
          | inl x ↦ merged n n_in a row c g (giver n) (taker n) (inl refl) (inr refl) (sym x) (λ e. apart (sym x ∙ sym e)) grow (λ b e. elim (label_before giver taker n b a e) [
            | one y ↦ inl y
            | down y z ↦ inr y
            | up y z ↦ absurd (apart (sym x ∙ z))
          ])
          | inr not_p ↦ elim (cases_eq here q) [
            | inl x ↦ merged n n_in a row c g (taker n) (giver n) (inr refl) (inl refl) (sym x) (λ e. apart (e ∙ x)) grow (λ b e. elim (label_before giver taker n b a e) [
              | one y ↦ inl y
              | down y z ↦ absurd (not_p z)
              | up y z ↦ inr y
            ])
            | inr not_q ↦ kept n a row c (λ b e. elim (label_before giver taker n b a e) [
              | one y ↦ y
              | down y z ↦ absurd (not_p z)
              | up y z ↦ absurd (not_q z)
            ]) g
          ]
        ]
      ]

  -- A row that fits, with values of the sets, grows to all that the first n joints link to its side.
  pub grown : (n : ℕ) → n ≤ count → (a row : ℕ) (c : ℕ → V) → Good c a row → Grows n a row c
  grown zero n_in a row c good = record {
    rows = λ b. row;
    choice = c;
    row_is = refl;
    same = λ j lt at. refl;
    each = λ b b_is. subst (λ (k : ℕ). Suits V count giver taker Fits S Inside c k row) (sym b_is) good;
  }
  grown (suc n) n_in a row c good =
      step n (omega arith) (λ b r d suits. grown n (omega arith) b r d suits) a row c (grown n (omega arith) a row c good)
