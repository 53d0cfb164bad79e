-- Joints of which one value alone is left.
use Rattle.std.proofs.Common.{◌≡◌, ◌≢◌, ◌⊎◌, inl, inr, ℕ, ◌+◌, ◌<◌, Bool, true, false, not, ◌&&◌, List, [], length, get_or, refl, sym, ◌∙◌, subst, arith, below_more}
use Rattle.std.specs.Bool.{◌==◌}
use Rattle.std.proofs.lemmas.Bool.{cases_eq, both_ways}
use Rattle.reo_rows.specs.RowFlags.{flag, AreAlikeTables}
use Rattle.reo_rows.proofs.Codes.{flag_in}
use Rattle.reo_propagate.specs.declared.thinning.Loss.{Loss}
use Rattle.reo_walk.specs.Pins.{IsPinnedBelow, IsPinned, ArePinned}
use Rattle.reo_walk.proofs.Holding.{kept_flag, other_flag, gone_flag}

module _ (joint code n : ℕ) (old now : List (List Bool)) (loss : Loss) (h : IsPinnedBelow joint code n old now loss) where
  -- The one value stays, and what is not there.
  pub pin_keep : (n ≡ code) ⊎ (flag now joint n ≡ false) → IsPinnedBelow joint code (n + 1) old now loss
  pin_keep good = record {
    alike = h.alike;
    elsewhere = h.elsewhere;
    less = h.less;
    keeps = h.keeps;
    only = below_more (λ c. flag now joint c ≡ true → c ≡ code) n h.only (λ f. elim good [ inl e ↦ e | inr gone ↦ absurd (both_ways (flag now joint n) gone f) ]);
    same = h.same;
    flows = h.flows;
  }

  -- Another value goes.
  pub pin_clear : (new : List (List Bool)) (more : Loss) → AreAlikeTables now new → ((k q : ℕ) → flag new k q ≡ (flag now k q && not ((k == joint) && (q == n)))) → n ≢ code
      → more.some ≡ true → (more.flow ≡ false → (loss.flow ≡ false) × (n < 4)) → IsPinnedBelow joint code (n + 1) old new more
  pin_clear new more alike is apart some flow = record {
    alike = record { rows = alike.rows ∙ h.alike.rows; width = λ r. alike.width r ∙ h.alike.width r };
    elsewhere = λ i c off. other_flag now new joint n is i c (inl off) ∙ h.elsewhere i c off;
    less = λ c f. h.less c (kept_flag now new joint n is joint c f);
    keeps = λ f. other_flag now new joint n is joint code (inr (λ e. apart (sym e))) ∙ h.keeps f;
    only = below_more (λ c. flag new joint c ≡ true → c ≡ code) n
        (λ c lt f. h.only c lt (kept_flag now new joint n is joint c f))
        (λ f. absurd (gone_flag now new joint n is f));
    same = λ e. absurd (both_ways more.some e some);
    flows = λ e c four.
        let parts = flow e in
        other_flag now new joint n is joint c (inr (λ same. omega (arith, parts.1))) ∙ h.flows parts.0 c four;
  }

  -- No flag has come.
  pub pinned_less : (i c : ℕ) → flag now i c ≡ true → flag old i c ≡ true
  pinned_less i c f = elim (cases_eq i joint) [
    | inl e ↦ subst (λ (x : ℕ). flag old x c ≡ true) (sym e) (h.less c (subst (λ (x : ℕ). flag now x c ≡ true) e f))
    | inr apart ↦ sym (h.elsewhere i c apart) ∙ f
  ]

  -- At its end one value alone is left.
  pub pin_end : n ≡ length (get_or old joint []) → IsPinned joint code old now
  pin_end last = record {
    alike = h.alike;
    elsewhere = h.elsewhere;
    less = h.less;
    keeps = h.keeps;
    only = λ c f. let there = flag_in now joint c f in h.only c (omega (arith, last, there, h.alike.width joint)) f;
  }

-- At no joint yet.
pub pins_none : (joints codes : List ℕ) (old : List (List Bool)) → ArePinned joints codes 0 old old
pins_none joints codes old = record {
  alike = record { rows = refl; width = λ r. refl };
  less = λ j c f. f;
  keeps = λ j c f all. f;
  only = λ m c lt f. absurd (omega arith);
}

-- At one joint more.
pub pins_more : (joints codes : List ℕ) (n joint code : ℕ) (old mid now : List (List Bool)) → joint ≡ get_or joints n 0 → code ≡ get_or codes n 0
    → ArePinned joints codes n old mid → IsPinned joint code mid now → ArePinned joints codes (n + 1) old now
pins_more joints codes n joint code old mid now is code_is before here = record {
  alike = record { rows = here.alike.rows ∙ before.alike.rows; width = λ r. here.alike.width r ∙ before.alike.width r };
  less = λ j c f. before.less j c (less j c f);
  keeps = λ j c f all.
      let mid_f = before.keeps j c f (λ m lt e. all m (omega arith) e) in
      elim (cases_eq j joint) [
        | inl e ↦
            let c_is : c ≡ code = all n (omega arith) (sym is ∙ sym e) ∙ sym code_is in
            let at_mid : flag mid joint code ≡ true = subst (λ (k : ℕ). flag mid joint k ≡ true) c_is (subst (λ (k : ℕ). flag mid k c ≡ true) e mid_f) in
            subst (λ (k : ℕ). flag now k c ≡ true) (sym e) (subst (λ (k : ℕ). flag now joint k ≡ true) (sym c_is) (here.keeps at_mid))
        | inr apart ↦ here.elsewhere j c apart ∙ mid_f
      ];
  only = λ m c lt f. below_more (λ k. (b : ℕ) → flag now (get_or joints k 0) b ≡ true → b ≡ get_or codes k 0) n
      (λ k k_lt b g. before.only k b k_lt (less (get_or joints k 0) b g))
      (λ b g. here.only b (subst (λ (k : ℕ). flag now k b ≡ true) (sym is) g) ∙ code_is)
      m lt c f;
}
  where
    less : (j c : ℕ) → flag now j c ≡ true → flag mid j c ≡ true
    less j c f = elim (cases_eq j joint) [
      | inl e ↦ subst (λ (x : ℕ). flag mid x c ≡ true) (sym e) (here.less c (subst (λ (x : ℕ). flag now x c ≡ true) e f))
      | inr apart ↦ sym (here.elsewhere j c apart) ∙ f
    ]
