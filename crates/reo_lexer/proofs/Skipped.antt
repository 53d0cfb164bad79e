-- Gaps: what stands behind one.
use Rattle.std.proofs.Common.{◌≡◌, ℕ, Bool, true, false, cond, List, [], ◌∷◌, ◌++◌, refl, ◌∙◌, ap, append_assoc, append-nil, arith, ◌==◌}
use Rattle.std.proofs.lemmas.Bool.{and_parts, and_from}
use Rattle.std.specs.List.{list_all}
use Rattle.std.proofs.lemmas.Bool.Decides.{nat_tests}
use Rattle.reo_lexer.specs.Gaps.{is_space, is_no_lf, IsGap}
use Rattle.reo_lexer.specs.Gaps.IsGap.{no_gap, space, comment}
use Rattle.reo_lexer.specs.Skipping.{behind}

comment-skipped : (c g rest : List ℕ) → list_all is_no_lf c ≡ true → behind true ((c ++ (10 ∷ g)) ++ rest) ≡ behind false (g ++ rest)
comment-skipped [] g rest e = refl
comment-skipped (b ∷ c) g rest e =
    let n : is_no_lf b ≡ true = (and_parts (is_no_lf b) (list_all is_no_lf c) e).0 in
    rw (n, behind) (comment-skipped c g rest ((and_parts (is_no_lf b) (list_all is_no_lf c) e).1))

-- Behind a gap stands what no gap begins.
pub gap-skipped : (g rest : List ℕ) → IsGap g → behind false (g ++ rest) ≡ behind false rest
gap-skipped g rest no_gap = refl
gap-skipped g rest (space b h e i) = rw e (gap-skipped h rest i)
gap-skipped g rest (comment c h e i) = comment-skipped c h rest e ∙ gap-skipped h rest i

-- The gap in front of what stands behind it.
abbrev pub Skipped : Bool → List ℕ → List ℕ → Type 0
Skipped true bs r = (c : List ℕ) × (g : List ℕ) × (list_all is_no_lf c ≡ true) × IsGap g × (bs ≡ c ++ (10 ∷ (g ++ r)))
Skipped false bs r = (g : List ℕ) × IsGap g × (bs ≡ g ++ r)

in_comment : (x : ℕ) (bs r : List ℕ) (y : Bool) → is_no_lf x ≡ y → Skipped y bs r → Skipped true (x ∷ bs) r
in_comment x bs r true e (c, g, h, i, w) = (x ∷ c, g, and_from (is_no_lf x) (list_all is_no_lf c) e h, i, ap (λ l. x ∷ l) w)
in_comment x bs r false e (g, i, w) = let n : x ≡ 10 = grind (arith, nat_tests) in ([], g, refl, i, rw (n, w) refl)

in_gap : (x : ℕ) (bs r : List ℕ) (y z : Bool) → is_space x ≡ y → (x == 35) ≡ z → (y ≡ true → Skipped false bs r) → (z ≡ true → Skipped true bs r)
    → (y ≡ false → z ≡ false → x ∷ bs ≡ r) → Skipped false (x ∷ bs) r
in_gap x bs r true z e f h i w = let (g, k, v) = h refl in (x ∷ g, space x g e k, ap (λ l. x ∷ l) v)
in_gap x bs r false true e f h i w = let (c, g, k, l, v) = i refl in let n : x ≡ 35 = grind (arith, nat_tests) in (35 ∷ (c ++ (10 ∷ g)), comment c g k l, rw (n, v, append_assoc) refl)
in_gap x bs r false false e f h i w = ([], no_gap, w refl refl)

not_space : (x : ℕ) → (x == 35) ≡ true → is_space x ≡ false
not_space x h = let e : x ≡ 35 = grind (arith, nat_tests) in rw e refl

pub behind-gap : (y : Bool) (bs : List ℕ) (b : ℕ) (r : List ℕ) → behind y bs ≡ b ∷ r → Skipped y bs (b ∷ r)
behind-gap true [] b r e = absurd (cc)
behind-gap false [] b r e = absurd (cc)
behind-gap true (x ∷ bs) b r e = in_comment x bs (b ∷ r) (is_no_lf x) refl (behind-gap (is_no_lf x) bs b r e)
behind-gap false (x ∷ bs) b r e =
    in_gap x bs (b ∷ r) (is_space x) (x == 35) refl refl
    (λ q. behind-gap false bs b r (rw q at e))
    (λ q. let s : is_space x ≡ false = not_space x q in behind-gap true bs b r (rw q at (rw s at e)))
    (λ q p. rw p at (rw q at e))

-- Where nothing stands behind the gap, the text is a gap once it ends with an LF.
abbrev pub Ended : Bool → List ℕ → Type 0
Ended y bs = Skipped y (bs ++ 10 ∷ []) []

pub behind-end : (y : Bool) (bs : List ℕ) → behind y bs ≡ [] → Ended y bs
behind-end true [] e = ([], [], refl, no_gap, refl)
behind-end false [] e = (10 ∷ [], space 10 [] refl no_gap, refl)
behind-end true (x ∷ bs) e = in_comment x (bs ++ 10 ∷ []) [] (is_no_lf x) refl (behind-end (is_no_lf x) bs e)
behind-end false (x ∷ bs) e =
    in_gap x (bs ++ 10 ∷ []) [] (is_space x) (x == 35) refl refl
    (λ q. behind-end false bs (rw q at e))
    (λ q. let s : is_space x ≡ false = not_space x q in behind-end true bs (rw q at (rw s at e)))
    (λ q p. absurd (let k = rw p at (rw q at e) in cc))

-- What stands behind a gap stays behind it when more follows.
pub behind-more : (y : Bool) (bs : List ℕ) (b : ℕ) (r s : List ℕ) → behind y bs ≡ b ∷ r → behind y (bs ++ s) ≡ b ∷ (r ++ s)
behind-more true [] b r s e = absurd (cc)
behind-more false [] b r s e = absurd (cc)
behind-more true (x ∷ bs) b r s e = behind-more (is_no_lf x) bs b r s e
behind-more false (x ∷ bs) b r s e = by (is_space x) (x == 35) e (λ q. behind-more false bs b r s q) (λ q. behind-more true bs b r s q)
  where
    by : (y z : Bool) → cond y (behind false bs) (cond z (behind true bs) (x ∷ bs)) ≡ b ∷ r
        → (behind false bs ≡ b ∷ r → behind false (bs ++ s) ≡ b ∷ (r ++ s)) → (behind true bs ≡ b ∷ r → behind true (bs ++ s) ≡ b ∷ (r ++ s))
        → cond y (behind false (bs ++ s)) (cond z (behind true (bs ++ s)) (x ∷ (bs ++ s))) ≡ b ∷ (r ++ s)
    by true z e h i = h e
    by false true e h i = i e
    by false false e h i = let p : x ≡ b = cc in let q : bs ≡ r = cc in rw (p, q) refl

-- A gap that ends a text has nothing behind it.
pub end-behind : (bs : List ℕ) → IsGap (bs ++ 10 ∷ []) → behind false bs ≡ []
end-behind bs h = by (behind false bs) refl
  where
    by : (l : List ℕ) → behind false bs ≡ l → l ≡ []
    by [] e = refl
    by (b ∷ r) e =
        let f : behind false (bs ++ 10 ∷ []) ≡ b ∷ (r ++ 10 ∷ []) = behind-more false bs b r (10 ∷ []) e in
        let g : behind false ((bs ++ 10 ∷ []) ++ []) ≡ [] = gap-skipped (bs ++ 10 ∷ []) [] h in
        let k : behind false (bs ++ 10 ∷ []) ≡ [] = rw append-nil at g in
        absurd (cc)

-- A byte that is no space and no `#` stands behind no gap.
pub behind-here : (b : ℕ) (r : List ℕ) → is_space b ≡ false → (b == 35) ≡ false → behind false (b ∷ r) ≡ b ∷ r
behind-here b r e f = rw (e, f) refl
