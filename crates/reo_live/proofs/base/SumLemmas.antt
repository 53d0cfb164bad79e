-- After two pieces, and after their sum.
use Rattle.std.proofs.Common.{◌≡◌, ◌∙◌, ℕ, Bool, true, false, cond, inl, inr, List, [], ◌∷◌, ◌++◌, ap, sym, refl, subst, append_assoc}
use Rattle.reo_net_base.specs.declared.port.Port.{Port}
use Rattle.reo_rounds.specs.Rules.{Rules}
use Rattle.reo_live.specs.base.Lines.{begun_by, are_none, ended_lines, open_line}
use Rattle.reo_live.specs.base.Held.{Held, joined}
use Rattle.reo_live.specs.base.Live.{Stand, Live, fresh, held_open}
use Rattle.reo_live.specs.declared.base.answer.Answer.{Answer}
use Rattle.reo_live.specs.base.Hearing.{Judges, HearsAll, Hears, After, cleaned}
use Rattle.reo_live.proofs.base.CutLemmas.{lines-append, open-append, joined-twice}

module _ {P : Type 0} where
  -- It stays open, and over.
  open-over : (s : Live P) (x : List ℕ) → s.stand.over ≡ true → held_open s x ≡ s
  open-over s x e = ap (λ b. cond b s (record s { line = joined s.line x })) e

  open-on : (s : Live P) (x : List ℕ) → s.stand.over ≡ false → held_open s x ≡ record s { line = joined s.line x }
  open-on s x e = ap (λ b. cond b s (record s { line = joined s.line x })) e

  open-stand : (a : Stand P) (h : Held) (x : List ℕ) (b : Bool) → (cond {A = Live P} b (record { stand = a; line = h }) (record { stand = a; line = joined h x })).stand ≡ a
  open-stand a h x true = refl
  open-stand a h x false = refl

  pub stand-stays : (s : Live P) (x : List ℕ) → (held_open s x).stand ≡ s.stand
  stand-stays s x = open-stand s.stand s.line x s.stand.over

  open-two : (a : Stand P) (h : Held) (x y : List ℕ) (b : Bool) → a.over ≡ b → held_open (held_open (record { stand = a; line = h }) x) y ≡ held_open (record { stand = a; line = h }) (x ++ y)
  open-two a h x y true e =
      ap (λ t. held_open t y) (open-over (record { stand = a; line = h }) x e) ∙ (open-over (record { stand = a; line = h }) y e ∙ sym (open-over (record { stand = a; line = h }) (x ++ y) e))
  open-two a h x y false e =
      ap (λ t. held_open t y) (open-on (record { stand = a; line = h }) x e)
      ∙ (open-on (record { stand = a; line = joined h x }) y e
      ∙ (ap (λ k. record { stand = a; line = k }) (joined-twice h x y) ∙ sym (open-on (record { stand = a; line = h }) (x ++ y) e)))

  pub open-twice : (s : Live P) (x y : List ℕ) → held_open (held_open s x) y ≡ held_open s (x ++ y)
  open-twice s x y = open-two s.stand s.line x y s.stand.over refl

module _ {P : Type 0} (r : Rules P) (ports : List Port) (budget : ℕ) where
  -- Once it is over it stays.
  stays-over : (m t : Live P) (ys : List (List ℕ)) (y : List Answer) → m.stand.over ≡ true → HearsAll r ports budget m ys t y → (t ≡ m) × (y ≡ [])
  stays-over m t [] y e h = h
  stays-over m t (l ∷ ls) y e (inl h) = (h.1, h.2)
  stays-over m t (l ∷ ls) y e (inr h) = let f = h.0 in absurd (cc)

  -- Lines and then other lines.
  pub all-append : (s m t : Live P) (xs ys : List (List ℕ)) (x y : List Answer) → HearsAll r ports budget s xs m x → HearsAll r ports budget m ys t y → HearsAll r ports budget s (xs ++ ys) t (x ++ y)
  all-append s m t [] ys x y h g =
      let from : HearsAll r ports budget s ys t y = subst (λ (v : Live P). HearsAll r ports budget v ys t y) h.0 g in
      subst (λ (z : List Answer). HearsAll r ports budget s ys t z) (sym (ap (λ (z : List Answer). z ++ y) h.1)) from
  all-append s m t (l ∷ xs) ys x y (inl h) g =
      let there : m.stand.over ≡ true = ap (λ (v : Live P). v.stand.over) h.1 ∙ h.0 in
      let end = stays-over m t ys y there g in
      inl (h.0, end.0 ∙ h.1, (λ i. h.2 i ++ end.1 i))
  all-append s m t (l ∷ xs) ys x y (inr h) g =
      inr (h.0, h.1, h.2 ++ y, h.3, all-append (fresh h.1.stand) m t xs ys h.2 y h.4 g, ap (λ (z : List Answer). z ++ y) h.5 ∙ append_assoc h.1.answers h.2 y)

  -- The first of some lines has begun before.
  begun-on : (m t : Live P) (o l : List ℕ) (ls : List (List ℕ)) (y : List Answer) → m.stand.over ≡ false
      → HearsAll r ports budget (record m { line = joined m.line o }) (l ∷ ls) t y → HearsAll r ports budget m ((o ++ l) ∷ ls) t y
  begun-on m t o l ls y e (inl g) = let f = g.0 in absurd (cc)
  begun-on m t o l ls y e (inr g) = inr (e, g.1, g.2, subst (λ (k : Held). Judges r ports budget m.stand (cleaned k) g.1) (joined-twice m.line o l) g.3, g.4, g.5)

  begun : (m t : Live P) (o l : List ℕ) (ls : List (List ℕ)) (y : List Answer) (b : Bool) → m.stand.over ≡ b
      → HearsAll r ports budget (held_open m o) (l ∷ ls) t y → HearsAll r ports budget m ((o ++ l) ∷ ls) t y
  begun m t o l ls y true e h =
      let same = open-over m o e in
      let end = stays-over (held_open m o) t (l ∷ ls) y (ap (λ (a : Stand P). a.over) (stand-stays m o) ∙ e) h in
      inl (e, end.0 ∙ same, end.1)
  begun m t o l ls y false e h = begun-on m t o l ls y e (subst (λ (v : Live P). HearsAll r ports budget v (l ∷ ls) t y) (open-on m o e) h)

  both : (s t u : Live P) (la lb : List (List ℕ)) (oa ob : List ℕ) (x y : List Answer) → Hears r ports budget s la oa t x → Hears r ports budget t lb ob u y
      → Hears r ports budget s (la ++ begun_by oa lb) (cond (are_none lb) (oa ++ ob) ob) u (x ++ y)
  both s t u la [] oa ob x y h g = record {
    between = h.between;
    heard = all-append s h.between h.between la [] x y h.heard (refl, g.heard.1);
    is = g.is ∙ (ap (λ (v : Live P). held_open v ob) (g.heard.0 ∙ h.is) ∙ open-twice h.between oa ob);
  }
  both s t u la (l ∷ ls) oa ob x y h g = record {
    between = g.between;
    heard = all-append s h.between g.between la ((oa ++ l) ∷ ls) x y h.heard
        (begun h.between g.between oa l ls y h.between.stand.over refl (subst (λ (v : Live P). HearsAll r ports budget v (l ∷ ls) g.between y) h.is g.heard));
    is = g.is;
  }

  pub after-sum : (s t u : Live P) (a b : List ℕ) (x y : List Answer) → After r ports budget s a t x → After r ports budget t b u y → After r ports budget s (a ++ b) u (x ++ y)
  after-sum s t u a b x y h g =
      subst (λ (ls : List (List ℕ)). Hears r ports budget s ls (open_line (a ++ b)) u (x ++ y)) (sym (lines-append a b))
      (subst (λ (o : List ℕ). Hears r ports budget s (ended_lines a ++ begun_by (open_line a) (ended_lines b)) o u (x ++ y)) (sym (open-append a b))
      (both s t u (ended_lines a) (ended_lines b) (open_line a) (open_line b) x y h g))
