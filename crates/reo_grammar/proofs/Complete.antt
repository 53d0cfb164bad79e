-- What is derived is read again, whatever follows that does not go on with it.
use Rattle.std.proofs.Common.{◌≡◌, ℕ, zero, suc, ◌≤◌, ◌<◌, Bool, true, false, ◌&&◌, not, cond, List, [], ◌∷◌, ◌++◌, length, ◌⊎◌, inl, inr, refl, sym, ◌∙◌, ap, append_assoc, arith, length-append}
use Rattle.std.proofs.lemmas.Bool.{and_parts, or_left, or_right}
use Rattle.reo_grammar.specs.Tokens.{Lexeme, Class, matches}
use Rattle.reo_grammar.specs.Conditions.{is_nullable, is_productive}
use Rattle.reo_grammar.specs.Sight.{apart_from, all_apart, all_inside, firsts, mores, is_sighted}
use Rattle.reo_grammar.specs.Grammar.{Grammar, Outcome, Derives, Links, read, loop, then, starts, line_of}
use Rattle.reo_grammar.specs.Grammar.Grammar.{nothing, token, both, made, either, chain, lined, rule}
use Rattle.reo_grammar.specs.Grammar.Outcome.{got, bad, out}
use Rattle.reo_grammar.proofs.Sound.{Good, Base, good, not-true, null, line_of-append}
use Rattle.reo_grammar.proofs.Classes.{matches_any, false-not, starts_of, apart_from-no, all_apart-no, matches_any-append}

-- Nothing of these classes stands next.
abbrev pub Stops : List Class → List Lexeme → Type 0
Stops cs [] = Unit {0}
Stops cs (t ∷ ts) = matches_any cs t ≡ true → ⊥

pub Stops-left : (cs ds : List Class) (s : List Lexeme) → Stops (cs ++ ds) s → Stops cs s
Stops-left cs ds [] h = tt
Stops-left cs ds (t ∷ s) h = λ e. h (matches_any-append cs ds t ∙ or_left _ _ e)

pub Stops-right : (cs ds : List Class) (s : List Lexeme) → Stops (cs ++ ds) s → Stops ds s
Stops-right cs ds [] h = tt
Stops-right cs ds (t ∷ s) h = λ e. h (matches_any-append cs ds t ∙ or_right _ _ e)

pub Stops-starts : (c : Class) (cs : List Class) (s : List Lexeme) → Stops (c ∷ cs) s → starts c s ≡ false
Stops-starts c cs [] h = refl
Stops-starts c cs (t ∷ s) h = false-not (matches c t) (λ e. h (or_left _ _ e))

pub split_front : (a b ts : List Lexeme) (t : Lexeme) → t ∷ ts ≡ a ++ b → (([] ≡ a) × (t ∷ ts ≡ b)) ⊎ ((c : List Lexeme) × (a ≡ t ∷ c))
split_front [] b ts t e = inl (refl, e)
split_front (u ∷ a) b ts t e = inr (a, cc)

cond-true : {A : Type 0} (b : Bool) (x y : A) → b ≡ true → cond b x y ≡ x
cond-true true x y h = refl
cond-true false x y h = absurd (cc)

cond-false : {A : Type 0} (b : Bool) (x y : A) → b ≡ false → cond b x y ≡ y
cond-false true x y h = absurd (cc)
cond-false false x y h = refl

any-left : (cs ds : List Class) (t : Lexeme) → matches_any cs t ≡ true → matches_any (cs ++ ds) t ≡ true
any-left cs ds t h = matches_any-append cs ds t ∙ or_left _ _ h

any-right : (cs ds : List Class) (t : Lexeme) → matches_any ds t ≡ true → matches_any (cs ++ ds) t ≡ true
any-right cs ds t h = matches_any-append cs ds t ∙ or_right _ _ h

-- What is derived begins with a first token.
pub begin : {Ref : Type 0} {tree : Ref → Type 0} {A : Type 0} (F : Ref → List Class) (R : (r : Ref) → List Lexeme → tree r → Type 0)
    (never : (r : Ref) (ts : List Lexeme) (x : tree r) → [] ≡ ts → R r ts x → ⊥)
    (each : (r : Ref) (ts : List Lexeme) (t : Lexeme) (us : List Lexeme) (x : tree r) → t ∷ us ≡ ts → R r ts x → matches_any (F r) t ≡ true)
    (g : Grammar Ref tree A) (ts : List Lexeme) (t : Lexeme) (us : List Lexeme) (x : A) → t ∷ us ≡ ts → Derives R g ts x → matches_any (firsts F g) t ≡ true
begin F R never each (nothing y) ts t us x e d = absurd (let k = e ∙ d.0 in cc)
begin F R never each (token c) ts t us x e d = let k : t ≡ x = (let w = e ∙ d.0 in cc) in or_left (matches c t) false (rw k d.1)
begin F R never each (both f g h) ts t us x e (a, b, y, z, w, d1, d2, _) =
    elim (split_front a b us t (e ∙ w)) [
      | inl p ↦ any-right (firsts F g) (cond (is_nullable g) (firsts F h) []) t (rw (cond-true (is_nullable g) (firsts F h) [] (null R never g a y p.0 d1)) (begin F R never each h b t us z p.1 d2))
      | inr q ↦ any-left (firsts F g) (cond (is_nullable g) (firsts F h) []) t (begin F R never each g a t q.0 y (sym q.1) d1)
    ]
begin F R never each (made f g) ts t us x e (y, d, _) = begin F R never each g ts t us y e d
begin F R never each (either c g h) ts t us x e (inl d) = any-left (firsts F g) (firsts F h) t (begin F R never each g ts t us x e d)
begin F R never each (either c g h) ts t us x e (inr d) = any-right (firsts F g) (firsts F h) t (begin F R never each h ts t us x e d)
begin F R never each (chain f c g h) ts t us x e (zero, d) = any-left (firsts F g) (cond (is_nullable g) (firsts F h) []) t (begin F R never each g ts t us x e d)
begin F R never each (chain f c g h) ts t us x e (suc n, (a, b, y, z, w, d1, d2, _)) =
    elim (split_front a b us t (e ∙ w)) [
      | inl p ↦ any-right (firsts F g) (cond (is_nullable g) (firsts F h) []) t (rw (cond-true (is_nullable g) (firsts F h) [] (null R never (chain f c g h) a y p.0 (n, d1))) (begin F R never each h b t us z p.1 d2))
      | inr q ↦ begin F R never each (chain f c g h) a t q.0 y (sym q.1) (n, d1)
    ]
begin F R never each (lined f g) ts t us x e (y, d, _) = begin F R never each g ts t us y e d
begin F R never each (rule r) ts t us x e d = each r ts t us x e d

-- A loop has turns enough where it has as many as there are tokens.
pub loop-enough : {A B : Type 0} (f : A → B → A) (c : Class) (next : List Lexeme → Outcome B)
    → ((ts : List Lexeme) (y : B) (r : List Lexeme) → next ts ≡ got y r → length r < length ts)
    → (n m : ℕ) (x : A) (ts : List Lexeme) → length ts ≤ n → length ts ≤ m → loop f c next n x ts ≡ loop f c next m x ts
loop-enough f c next less zero zero x ts h k = refl
loop-enough f c next less zero (suc m) x [] h k = refl
loop-enough f c next less zero (suc m) x (t ∷ ts) h k = absurd (omega arith)
loop-enough f c next less (suc n) zero x [] h k = refl
loop-enough f c next less (suc n) zero x (t ∷ ts) h k = absurd (omega arith)
loop-enough {A = A} {B = B} f c next less (suc n) (suc m) x ts h k = ap (λ o. cond (starts c ts) o (got x ts)) (same (next ts) (λ y r e. loop-enough f c next less n m (f x y) r (let l : length r < length ts = less ts y r e in omega arith) (let l : length r < length ts = less ts y r e in omega arith)))
  where
    same : (o : Outcome B) → ((y : B) (r : List Lexeme) → o ≡ got y r → loop f c next n (f x y) r ≡ loop f c next m (f x y) r)
        → then o (λ y r. loop f c next n (f x y) r) ≡ then o (λ y r. loop f c next m (f x y) r)
    same (got y r) i = i y r refl
    same (bad r) i = refl
    same out i = refl

-- What stands between two parts lets the first end.
between : {Ref : Type 0} {tree : Ref → Type 0} {A B : Type 0} (F M : Ref → List Class) (R : (r : Ref) → List Lexeme → tree r → Type 0)
    (never : (r : Ref) (ts : List Lexeme) (x : tree r) → [] ≡ ts → R r ts x → ⊥)
    (each : (r : Ref) (ts : List Lexeme) (t : Lexeme) (us : List Lexeme) (x : tree r) → t ∷ us ≡ ts → R r ts x → matches_any (F r) t ≡ true)
    (g : Grammar Ref tree A) (h : Grammar Ref tree B) (b s : List Lexeme) (y : B)
    → all_apart (firsts F h) (mores M g) ≡ true → Derives R h b y → Stops (cond (is_nullable h) (mores M g) []) s → Stops (mores M g) (b ++ s)
between F M R never each g h [] s y p d st = let e : is_nullable h ≡ true = null R never h [] y refl d in rw (cond-true (is_nullable h) (mores M g) [] e) at st
between F M R never each g h (t ∷ b) s y p d st = λ e. all_apart-no (firsts F h) (mores M g) t p (begin F R never each h (t ∷ b) t b y refl d) e

-- A loop makes one turn at each further part.
loop-turn : {A B : Type 0} (f : A → B → A) (c : Class) (next : List Lexeme → Outcome B)
    → ((ts : List Lexeme) (y : B) (r : List Lexeme) → next ts ≡ got y r → length r < length ts)
    → (x : A) (y : B) (t : Lexeme) (ts r : List Lexeme) → matches c t ≡ true → next (t ∷ ts) ≡ got y r
    → loop f c next (length (t ∷ ts)) x (t ∷ ts) ≡ loop f c next (length r) (f x y) r
loop-turn f c next less x y t ts r m e =
    let l : length r < length (t ∷ ts) = less (t ∷ ts) y r e in
    let k : loop f c next (length ts) (f x y) r ≡ loop f c next (length r) (f x y) r = loop-enough f c next less (length ts) (length r) (f x y) r (omega arith) (omega arith) in
    rw (m, e) k

pub got-good : {A : Type 0} (D : List Lexeme → A → Type 0) (ts : List Lexeme) (o : Outcome A) (y : A) (r : List Lexeme) → Good D ts o → o ≡ got y r → (a : List Lexeme) × (ts ≡ a ++ r) × D a y
got-good D ts (got x s) y r (a, w, d) e = let p : x ≡ y = cc in let q : s ≡ r = cc in (a, rw (← q) w, rw (← p) d)
got-good D ts (bad s) y r h e = absurd (cc)
got-good D ts out y r h e = absurd (cc)

pub longer : (a r ts : List Lexeme) → ts ≡ a ++ r → ([] ≡ a → ⊥) → length r < length ts
longer [] r ts e h = absurd (h refl)
longer (t ∷ a) r ts e h = omega (arith, ap length e, length-append a r)

-- A form that derives no empty list takes a token.
pub shrinks : {Ref : Type 0} {tree : Ref → Type 0} {A : Type 0} (k : Base Ref tree) (g : Grammar Ref tree A) → is_productive g ≡ true → not (is_nullable g) ≡ true
    → (ts : List Lexeme) (y : A) (r : List Lexeme) → read k.reader g ts ≡ got y r → length r < length ts
shrinks k g p n ts y r e =
    let (a, w, d) = got-good (Derives k.derives g) ts (read k.reader g ts) y r (good k g p ts) e in
    longer a r ts w (λ i. not-true (is_nullable g) n (null k.derives k.never g a y i d))

-- What the readers of rules owe.
pub record Ready (Ref : Type 0) (tree : Ref → Type 0) : Type 1 where
  pub base : Base Ref tree
  pub given : (r : Ref) → List Lexeme → tree r → Type 0
  pub first : Ref → List Class
  pub more : Ref → List Class
  pub never : (r : Ref) (ts : List Lexeme) (x : tree r) → [] ≡ ts → given r ts x → ⊥
  pub begins : (r : Ref) (ts : List Lexeme) (t : Lexeme) (us : List Lexeme) (x : tree r) → t ∷ us ≡ ts → given r ts x → matches_any (first r) t ≡ true
  pub complete : (r : Ref) (ts s : List Lexeme) (x : tree r) → given r ts x → Stops (more r) s → base.reader r (ts ++ s) ≡ got x s

five : (a b c d e : Bool) → (a && (b && (c && (d && e)))) ≡ true → (a ≡ true) × (b ≡ true) × (c ≡ true) × (d ≡ true) × (e ≡ true)
five true true true d e h = (refl, refl, refl, (and_parts _ _ h).0, (and_parts _ _ h).1)
five false b c d e h = absurd (cc)
five true false c d e h = absurd (cc)
five true true false d e h = absurd (cc)

module _ {Ref : Type 0} {tree : Ref → Type 0} (k : Ready Ref tree) where
  starts-yes : {A : Type 0} (g : Grammar Ref tree A) (c : Class) (ts s : List Lexeme) (x : A) → all_inside (firsts k.first g) c ≡ true → not (is_nullable g) ≡ true
      → Derives k.given g ts x → starts c (ts ++ s) ≡ true
  starts-yes g c [] s x h n d = absurd (not-true (is_nullable g) n (null k.given k.never g [] x refl d))
  starts-yes g c (t ∷ ts) s x h n d = starts_of (firsts k.first g) c t h (begin k.first k.given k.never k.begins g (t ∷ ts) t ts x refl d)

  starts-no : {A : Type 0} (g : Grammar Ref tree A) (c : Class) (cs : List Class) (ts s : List Lexeme) (x : A) → apart_from c (firsts k.first g) ≡ true
      → Derives k.given g ts x → Stops (cond (is_nullable g) (c ∷ []) [] ++ cs) s → starts c (ts ++ s) ≡ false
  starts-no g c cs [] s x h d st = Stops-starts c cs s (rw (cond-true (is_nullable g) (c ∷ []) [] (null k.given k.never g [] x refl d)) at st)
  starts-no g c cs (t ∷ ts) s x h d st = false-not (matches c t) (λ e. apart_from-no c (firsts k.first g) t h e (begin k.first k.given k.never k.begins g (t ∷ ts) t ts x refl d))

  pub loop-ends : {A B : Type 0} (f : A → B → A) (c : Class) (next : List Lexeme → Outcome B) (x : A) (s : List Lexeme) → starts c s ≡ false → loop f c next (length s) x s ≡ got x s
  loop-ends f c next x [] h = refl
  loop-ends f c next x (t ∷ s) h = cond-false (matches c t) _ (got x (t ∷ s)) h

  links : {A B : Type 0} (f : A → B → A) (c : Class) (g : Grammar Ref tree A) (h : Grammar Ref tree B)
      → ((a s : List Lexeme) (x : A) → Derives k.given g a x → Stops (mores k.more g) s → read k.base.reader g (a ++ s) ≡ got x s)
      → ((a s : List Lexeme) (x : B) → Derives k.given h a x → Stops (mores k.more h) s → read k.base.reader h (a ++ s) ≡ got x s)
      → ((ts : List Lexeme) (y : B) (r : List Lexeme) → read k.base.reader h ts ≡ got y r → length r < length ts)
      → not (is_nullable h) ≡ true → all_inside (firsts k.first h) c ≡ true → apart_from c (mores k.more g ++ mores k.more h) ≡ true
      → (n : ℕ) (a s : List Lexeme) (x : A) → Links f (Derives k.given g) (Derives k.given h) n a x → Stops (mores k.more g ++ mores k.more h) s
      → read k.base.reader (chain f c g h) (a ++ s) ≡ loop f c (read k.base.reader h) (length s) x s
  links f c g h cg ch less nn ins ap zero a s x d st =
      let e : read k.base.reader g (a ++ s) ≡ got x s = cg a s x d (Stops-left (mores k.more g) (mores k.more h) s st) in rw e refl
  links f c g h cg ch less nn ins ap (suc n) ts s x (a, [], y, z, w, d1, d2, v) st = absurd (not-true (is_nullable h) nn (null k.given k.never h [] z refl d2))
  links f c g h cg ch less nn ins ap (suc n) ts s x (a, t ∷ b, y, z, w, d1, d2, v) st =
      let m : matches c t ≡ true = starts_of (firsts k.first h) c t ins (begin k.first k.given k.never k.begins h (t ∷ b) t b z refl d2) in
      let e1 : read k.base.reader (chain f c g h) (a ++ (t ∷ (b ++ s))) ≡ loop f c (read k.base.reader h) (length (t ∷ (b ++ s))) y (t ∷ (b ++ s))
      = links f c g h cg ch less nn ins ap n a (t ∷ (b ++ s)) y d1 (λ e. apart_from-no c (mores k.more g ++ mores k.more h) t ap m e) in
      let e2 : read k.base.reader h (t ∷ (b ++ s)) ≡ got z s = ch (t ∷ b) s z d2 (Stops-right (mores k.more g) (mores k.more h) s st) in
      let e3 : loop f c (read k.base.reader h) (length (t ∷ (b ++ s))) y (t ∷ (b ++ s)) ≡ loop f c (read k.base.reader h) (length s) (f y z) s
      = loop-turn f c (read k.base.reader h) less y z t (b ++ s) s m e2 in
      let e4 : ts ++ s ≡ a ++ (t ∷ (b ++ s)) = rw w (append_assoc a (t ∷ b) s) in
      rw (← v) (rw e4 (e1 ∙ e3))

  pub complete : {A : Type 0} (g : Grammar Ref tree A) → is_productive g ≡ true → is_sighted k.first k.more g ≡ true → (ts s : List Lexeme) (x : A)
      → Derives k.given g ts x → Stops (mores k.more g) s → read k.base.reader g (ts ++ s) ≡ got x s
  complete (nothing y) p i ts s x (e, w) st = rw (e, w) refl
  complete (token c) p i ts s x (e, m) st = rw (e, m) refl
  complete (both f g h) p i ts s x (a, b, y, z, w, d1, d2, v) st =
      let st1 : Stops (mores k.more g) (b ++ s) = between k.first k.more k.given k.never k.begins g h b s z ((and_parts _ _ i).0) d2 (Stops-right (mores k.more h) (cond (is_nullable h) (mores k.more g) []) s st) in
      let st2 : Stops (mores k.more h) s = Stops-left (mores k.more h) (cond (is_nullable h) (mores k.more g) []) s st in
      let e1 : read k.base.reader g (a ++ (b ++ s)) ≡ got y (b ++ s) = complete g ((and_parts _ _ p).0) ((and_parts _ _ ((and_parts _ _ i).1)).0) a (b ++ s) y d1 st1 in
      let e2 : read k.base.reader h (b ++ s) ≡ got z s = complete h ((and_parts _ _ p).1) ((and_parts _ _ ((and_parts _ _ i).1)).1) b s z d2 st2 in
      rw (w, append_assoc a b s, e1, e2, v) refl
  complete (made f g) p i ts s x (y, d, v) st = rw (complete g p i ts s y d st, v) refl
  complete (either c g h) p i ts s x (inl d) st =
      let q = five (not (is_nullable g)) (all_inside (firsts k.first g) c) (apart_from c (firsts k.first h)) (is_sighted k.first k.more g) (is_sighted k.first k.more h) i in
      let e : starts c (ts ++ s) ≡ true = starts-yes g c ts s x q.1 q.0 d in
      let e2 : read k.base.reader g (ts ++ s) ≡ got x s = complete g ((and_parts _ _ p).0) q.3 ts s x d
      (Stops-left (mores k.more g) (mores k.more h) s (Stops-right (cond (is_nullable h) (c ∷ []) []) (mores k.more g ++ mores k.more h) s st)) in
      rw (e, e2) refl
  complete (either c g h) p i ts s x (inr d) st =
      let q = five (not (is_nullable g)) (all_inside (firsts k.first g) c) (apart_from c (firsts k.first h)) (is_sighted k.first k.more g) (is_sighted k.first k.more h) i in
      let e : starts c (ts ++ s) ≡ false = starts-no h c (mores k.more g ++ mores k.more h) ts s x q.2 d st in
      let e2 : read k.base.reader h (ts ++ s) ≡ got x s = complete h ((and_parts _ _ p).1) q.4 ts s x d
      (Stops-right (mores k.more g) (mores k.more h) s (Stops-right (cond (is_nullable h) (c ∷ []) []) (mores k.more g ++ mores k.more h) s st)) in
      rw (e, e2) refl
  complete (chain f c g h) p i ts s x (n, l) st =
      let q = five (not (is_nullable h)) (all_inside (firsts k.first h) c) (apart_from c (mores k.more g ++ mores k.more h)) (is_sighted k.first k.more g) (is_sighted k.first k.more h) i in
      links f c g h
      (λ a r y d t. complete g ((and_parts _ _ ((and_parts _ _ p).1)).0) q.3 a r y d t)
      (λ a r y d t. complete h ((and_parts _ _ ((and_parts _ _ p).1)).1) q.4 a r y d t)
      (shrinks k.base h ((and_parts _ _ ((and_parts _ _ p).1)).1) q.0) q.0 q.1 q.2
      n ts s x l (Stops-right (c ∷ []) (mores k.more g ++ mores k.more h) s st)
      ∙ loop-ends f c (read k.base.reader h) x s (Stops-starts c (mores k.more g ++ mores k.more h) s st)
  complete (lined f g) p i ts s x (y, d, v) st =
      let e : read k.base.reader g (ts ++ s) ≡ got y s = complete g ((and_parts _ _ p).1) i ts s y d st in
      let e2 : line_of (ts ++ s) ≡ line_of ts = line_of-append ts s (λ w. not-true (is_nullable g) ((and_parts _ _ p).0) (null k.given k.never g ts y w d)) in
      rw (e, e2, v) refl
  complete (rule r) p i ts s x d st = k.complete r ts s x d st

-- One turn of a loop, by the outcome of its further part.
pub turn : {A B : Type 0} (f : A → B → A) (c : Class) (next : List Lexeme → Outcome B)
    → ((ts : List Lexeme) (y : B) (r : List Lexeme) → next ts ≡ got y r → length r < length ts)
    → (x : A) (y : B) (ts r : List Lexeme) → starts c ts ≡ true → next ts ≡ got y r
    → loop f c next (length ts) x ts ≡ loop f c next (length r) (f x y) r
turn f c next less x y [] r h e = absurd (cc)
turn f c next less x y (t ∷ ts) r h e = loop-turn f c next less x y t ts r h e

pub turn_bad : {A B : Type 0} (f : A → B → A) (c : Class) (next : List Lexeme → Outcome B) (x : A) (ts r : List Lexeme) → starts c ts ≡ true → next ts ≡ bad r
    → loop f c next (length ts) x ts ≡ bad r
turn_bad f c next x [] r h e = absurd (cc)
turn_bad f c next x (t ∷ ts) r h e = rw (h, e) refl

pub turn_out : {A B : Type 0} (f : A → B → A) (c : Class) (next : List Lexeme → Outcome B) (x : A) (ts : List Lexeme) → starts c ts ≡ true → next ts ≡ out
    → loop f c next (length ts) x ts ≡ out
turn_out f c next x [] h e = absurd (cc)
turn_out f c next x (t ∷ ts) h e = rw (h, e) refl

pub turn_end : {A B : Type 0} (f : A → B → A) (c : Class) (next : List Lexeme → Outcome B) (x : A) (s : List Lexeme) → starts c s ≡ false → loop f c next (length s) x s ≡ got x s
turn_end f c next x [] h = refl
turn_end f c next x (t ∷ s) h = cond-false (matches c t) _ (got x (t ∷ s)) h
