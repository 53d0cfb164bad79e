-- The next token from a place on.
use Rattle.std.proofs.Common.{◌≡◌, ℕ, zero, suc, ◌+◌, ◌-◌, ◌≤◌, ◌<◌, Bool, true, false, cond, List, [], ◌∷◌, ◌++◌, length, take, drop, get_or, refl, sym, ◌∙◌, ap, subst, arith, append-nil, length-drop, drop-drop, ◌==◌, Err}
use Rattle.std.proofs.lemmas.List.{take-append-drop}
use Rattle.reo_grammar.specs.declared.kind.TokenKind.{TokenKind}
use Rattle.reo_lexer.specs.declared.token.LexFault.{LexFault}
use Rattle.reo_lexer.specs.declared.token.LexFault.TheVariants as faults
use Rattle.reo_grammar.specs.Spelling.{spells}
use Rattle.reo_lexer.specs.Gaps.{is_space, is_no_lf, IsGap, lines_in}
use Rattle.reo_lexer.specs.Lexing.{Leads, AtEnd}
use Rattle.reo_lexer.specs.Faults.{BeginsFault, AtFault}
use Rattle.reo_lexer.specs.Skipping.{behind, IsFront, Finds}
use Rattle.reo_lexer.proofs.Skipped.{behind-gap, behind-end}
use Rattle.reo_lexer.proofs.Spelled.{no-empty}
use Rattle.reo_lexer.proofs.Fronts.{cancel}
use Rattle.reo_lexer.proofs.Found.{take-all}

-- What is left from a place on, as code takes it.
abbrev pub from : List ℕ → ℕ → List ℕ
from text at = take (length text - at) (drop at text)

pub from-drop : (text : List ℕ) (at : ℕ) → at ≤ length text → from text at ≡ drop at text
from-drop text at h = take-all (length text - at) (drop at text) (omega (arith, length-drop at text))

pub below : (text : List ℕ) (at n : ℕ) → at ≤ length text → n ≤ length (from text at) → (at + n ≡ length text → ⊥) → at + n < length text
below text at n h i j =
    let e : length (from text at) ≡ length text - at = ap length (from-drop text at h) ∙ length-drop at text in omega arith

-- What stands behind a gap begins with no space and no `#`.
pub behind-stops : (y : Bool) (bs : List ℕ) (b : ℕ) (r : List ℕ) → behind y bs ≡ b ∷ r → (is_space b ≡ false) × ((b == 35) ≡ false)
behind-stops true [] b r e = absurd (cc)
behind-stops false [] b r e = absurd (cc)
behind-stops true (x ∷ bs) b r e = behind-stops (is_no_lf x) bs b r e
behind-stops false (x ∷ bs) b r e = by (is_space x) (x == 35) refl refl e (λ q. behind-stops false bs b r q) (λ q. behind-stops true bs b r q)
  where
    by : (y z : Bool) → is_space x ≡ y → (x == 35) ≡ z → cond y (behind false bs) (cond z (behind true bs) (x ∷ bs)) ≡ b ∷ r
        → (behind false bs ≡ b ∷ r → (is_space b ≡ false) × ((b == 35) ≡ false)) → (behind true bs ≡ b ∷ r → (is_space b ≡ false) × ((b == 35) ≡ false))
        → (is_space b ≡ false) × ((b == 35) ≡ false)
    by true z p q e h i = h e
    by false true p q e h i = i e
    by false false p q e h i = let w : x ≡ b = cc in (rw w at p, rw w at q)

drop-all : (n : ℕ) (l : List ℕ) → n ≡ length l → drop n l ≡ []
drop-all zero [] h = refl
drop-all (suc n) [] h = absurd (omega arith)
drop-all zero (x ∷ l) h = absurd (omega arith)
drop-all (suc n) (x ∷ l) h = drop-all n l (omega arith)

drop-some : (n : ℕ) (l : List ℕ) → n < length l → (b : ℕ) × (r : List ℕ) × (drop n l ≡ b ∷ r)
drop-some n [] h = absurd (omega arith)
drop-some zero (x ∷ l) h = (x, l, refl)
drop-some (suc n) (x ∷ l) h = drop-some n l (omega arith)

length-take : (n : ℕ) (l : List ℕ) → n ≤ length l → length (take n l) ≡ n
length-take zero l h = refl
length-take (suc n) [] h = absurd (omega arith)
length-take (suc n) (x ∷ l) h = ap suc (length-take n l (omega arith))

-- The same for a list that the gap stands in front of.
module _ (l : List ℕ) (n : ℕ) (g : drop n l ≡ behind false l) where
  gap-ends : n ≡ length l → IsGap (l ++ 10 ∷ [])
  gap-ends h =
      let e : behind false l ≡ [] = sym g ∙ drop-all n l h in
      let (gap, i, w) = behind-end false l e in
      let v : gap ≡ l ++ 10 ∷ [] = sym (w ∙ append-nil gap) in subst IsGap v i

  gap-front : n < length l → IsGap (take n l)
  gap-front h =
      let (b, r, e) = drop-some n l h in
      let (gap, i, w) = behind-gap false l b r (sym g ∙ e) in
      let k : take n l ++ (b ∷ r) ≡ gap ++ (b ∷ r) = (rw e at (take-append-drop n l)) ∙ w in
      rw (cancel (take n l) gap (b ∷ r) k) i

  head-stops : n < length l → (is_space (get_or (drop n l) 0 0) ≡ false) × ((get_or (drop n l) 0 0 == 35) ≡ false)
  head-stops h =
      let (b, r, e) = drop-some n l h in rw e (behind-stops false l b r (sym g ∙ e))

module _ (text : List ℕ) (at line n : ℕ) (within : at ≤ length text) (g : drop n (from text at) ≡ behind false (from text at)) where
  here : drop n (drop at text) ≡ behind false (drop at text)
  here = rw (from-drop text at within) at g

  further : at + n ≤ length text → from text (at + n) ≡ drop n (drop at text)
  further h = from-drop text (at + n) h ∙ sym (drop-drop n at text)

  pub at-end : at + n ≡ length text → AtEnd line (drop at text)
  at-end h = gap-ends (drop at text) n here (omega (arith, length-drop at text))

  pub no-space : at + n < length text → is_space (get_or (from text (at + n)) 0 0) ≡ false
  no-space h = rw (further (omega arith)) (head-stops (drop at text) n here (omega (arith, length-drop at text))).0

  pub no-comment : at + n < length text → (get_or (from text (at + n)) 0 0 == 35) ≡ false
  no-comment h = rw (further (omega arith)) (head-stops (drop at text) n here (omega (arith, length-drop at text))).1

  pub fault-found : at + n < length text → (c : ℕ) → c ≡ lines_in (take n (from text at)) → (f : LexFault) → BeginsFault f (line + c) (from text (at + n)) → AtFault f line (drop at text)
  fault-found h c e f b =
      let w : c ≡ lines_in (take n (drop at text)) = rw (from-drop text at within) at e in
      let v : BeginsFault f (line + c) (drop n (drop at text)) = rw (further (omega arith)) at b in
      (take n (drop at text), drop n (drop at text), sym (take-append-drop n (drop at text)), gap-front (drop at text) n here (omega (arith, length-drop at text)), rw w at v)

  pub lead-found : at + n < length text → (c : ℕ) → c ≡ lines_in (take n (from text at)) → (k : TokenKind) (m : ℕ) → IsFront k m (from text (at + n))
      → Leads at line (drop at text) (record { kind = k; start = at + n; end = at + n + m; line = line + c }) (drop (at + n + m) text) × (0 < m) × (at + n + m ≤ length text)
  lead-found h c e k m f =
      let w : c ≡ lines_in (take n (drop at text)) = rw (from-drop text at within) at e in
      let v : IsFront k m (drop n (drop at text)) = rw (further (omega arith)) at f in
      let s : n ≤ length (drop at text) = omega (arith, length-drop at text) in
      let d : drop m (drop n (drop at text)) ≡ drop (at + n + m) text = ap (drop m) (drop-drop n at text) ∙ drop-drop m (at + n) text in (
        record {
          gap = take n (drop at text);
          bytes = take m (drop n (drop at text));
          cut = sym (take-append-drop n (drop at text)) ∙ ap (λ l. take n (drop at text) ++ l) (sym (take-append-drop m (drop n (drop at text))) ∙ ap (λ l. take m (drop n (drop at text)) ++ l) d);
          between = gap-front (drop at text) n here (omega (arith, length-drop at text));
          token = rw (← d) v.1;
          start = ap (λ z. at + z) (sym (length-take n (drop at text) s));
          end = ap (λ z. at + n + z) (sym (length-take m (drop n (drop at text)) v.0));
          line = ap (λ z. line + z) w;
        },
        some k m (drop n (drop at text)) v.1.spelled,
        omega (arith, length-drop at text, length-drop n (drop at text), v.0),
      )
    where
      some : (k : TokenKind) (m : ℕ) (l : List ℕ) → spells k (take m l) ≡ true → 0 < m
      some k zero l s = absurd (no-empty k s)
      some k (suc m) l s = omega arith

pub finds-fault : (text : List ℕ) (at line : ℕ) (f : LexFault) → AtFault f line (drop at text) → Finds text at line (Err f)
finds-fault text at line (faults.BadByte l) h = h
finds-fault text at line (faults.OpenText l) h = h
finds-fault text at line (faults.NumberTooLong l) h = h
finds-fault text at line faults.NoMemory h = tt

pub few-lines : (c n : ℕ) (l : List ℕ) → c ≤ length (take n l) → c ≤ n
few-lines c n l h = omega (arith, short n l)
  where
    short : (n : ℕ) (l : List ℕ) → length (take n l) ≤ n
    short zero l = omega arith
    short (suc n) [] = omega arith
    short (suc n) (x ∷ l) = omega (arith, short n l)
