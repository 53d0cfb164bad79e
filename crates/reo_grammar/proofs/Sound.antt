-- What is got is derived, and what stands before a bad token begins something derived.
use Rattle.std.proofs.Common.{◌≡◌, ℕ, zero, suc, Bool, true, false, not, cond, List, [], ◌∷◌, ◌++◌, length, inl, inr, refl, sym, ◌∙◌, ap, append_assoc, append-nil}
use Rattle.std.proofs.lemmas.Bool.{and_parts, or_left, or_right, and_from}
use Rattle.reo_grammar.specs.Tokens.{Lexeme, Class, matches, AreReal}
use Rattle.reo_grammar.specs.Conditions.{sample, is_nullable, is_productive}
use Rattle.reo_grammar.specs.Language.{Sound}
use Rattle.reo_grammar.specs.Grammar.{Grammar, Outcome, Derives, Links, read, reads, Within, loop, then, starts, line_of}
use Rattle.reo_grammar.specs.Grammar.Grammar.{nothing, token, both, made, either, chain, lined, rule}
use Rattle.reo_grammar.specs.Grammar.Outcome.{got, bad, out}

pub real-append : (a b : List Lexeme) → AreReal a → AreReal b → AreReal (a ++ b)
real-append [] b h k = k
real-append (t ∷ a) b (h, hs) k = (h, real-append a b hs k)

-- A part derives some tokens that texts have.
abbrev pub Some : {A : Type 0} → (List Lexeme → A → Type 0) → Type 0
Some {A = A} D = (ts : List Lexeme) × (x : A) × AreReal ts × D ts x

-- Tokens that texts have go on behind these to something derived.
abbrev pub Opens : {A : Type 0} → (List Lexeme → A → Type 0) → List Lexeme → Type 0
Opens {A = A} D a = (c : List Lexeme) × (x : A) × AreReal c × D (a ++ c) x

-- What was got is derived from what was taken. What was taken before a bad token begins what is derived.
abbrev pub Good : {A : Type 0} → (List Lexeme → A → Type 0) → List Lexeme → Outcome A → Type 0
Good D ts (got x s) = (a : List Lexeme) × (ts ≡ a ++ s) × D a x
Good D ts (bad s) = (a : List Lexeme) × (ts ≡ a ++ s) × Opens D a
Good D ts out = Unit {0}

-- Something that is derived.
pub some : {Ref : Type 0} {tree : Ref → Type 0} {A : Type 0} (R : (r : Ref) → List Lexeme → tree r → Type 0) (each : (r : Ref) → Some (R r))
    (g : Grammar Ref tree A) → is_productive g ≡ true → Some (Derives R g)
some R each (nothing x) p = ([], x, tt, (refl, refl))
some R each (token c) p = (sample c ∷ [], sample c, ((and_parts _ _ p).1, tt), (refl, (and_parts _ _ p).0))
some R each (both f g h) p =
    let (a, x, r, d) = some R each g ((and_parts _ _ p).0) in
    let (b, y, q, e) = some R each h ((and_parts _ _ p).1) in
    (a ++ b, f x y, real-append a b r q, (a, b, x, y, refl, d, e, refl))
some R each (made f g) p = let (a, x, r, d) = some R each g p in (a, f x, r, (x, d, refl))
some R each (either c g h) p = let (a, x, r, d) = some R each g ((and_parts _ _ p).0) in (a, x, r, inl d)
some R each (chain f c g h) p = let (a, x, r, d) = some R each g ((and_parts _ _ ((and_parts _ _ p).1)).0) in (a, x, r, (0, d))
some R each (lined f g) p = let (a, x, r, d) = some R each g ((and_parts _ _ p).1) in (a, f (line_of a) x, r, (x, d, refl))
some R each (rule r) p = each r

-- A step after a first part.
pub Good-then : {A B : Type 0} (D : List Lexeme → A → Type 0) (E : List Lexeme → B → Type 0) (ts : List Lexeme) (o : Outcome A) (k : A → List Lexeme → Outcome B)
    → Good D ts o
    → ((a s : List Lexeme) (x : A) → ts ≡ a ++ s → D a x → Good E ts (k x s))
    → ((a : List Lexeme) (x : A) → D a x → Opens E a)
    → Good E ts (then o k)
Good-then D E ts (got x s) k (a, e, d) next more = next a s x e d
Good-then D E ts (bad s) k (a, e, (c, x, r, d)) next more = let (c', y, q, f) = more (a ++ c) x d in (a, e, (c ++ c', y, real-append c c' r q, rw (← append_assoc a c c') f))
Good-then D E ts out k h next more = tt

pub not-true : (b : Bool) → not b ≡ true → b ≡ true → ⊥
not-true true h e = cc
not-true false h e = cc

pub append-empty : {A : Type 0} (a b : List A) → [] ≡ a ++ b → ([] ≡ a) × ([] ≡ b)
append-empty [] b e = (refl, e)
append-empty (x ∷ a) b e = absurd (cc)

-- What derives no token is nullable.
pub null : {Ref : Type 0} {tree : Ref → Type 0} {A : Type 0} (R : (r : Ref) → List Lexeme → tree r → Type 0) (never : (r : Ref) (ts : List Lexeme) (x : tree r) → [] ≡ ts → R r ts x → ⊥)
    (g : Grammar Ref tree A) (ts : List Lexeme) (x : A) → [] ≡ ts → Derives R g ts x → is_nullable g ≡ true
null R never (nothing y) ts x e d = refl
null R never (token c) ts x e d = absurd (let k = e ∙ d.0 in cc)
null R never (both f g h) ts x e (a, b, y, z, w, d1, d2, _) =
    let (ea, eb) = append-empty a b (e ∙ w) in
    and_from _ _ (null R never g a y ea d1) (null R never h b z eb d2)
null R never (made f g) ts x e (y, d, _) = null R never g ts y e d
null R never (either c g h) ts x e (inl d) = or_left _ _ (null R never g ts x e d)
null R never (either c g h) ts x e (inr d) = or_right _ _ (null R never h ts x e d)
null R never (chain f c g h) ts x e (zero, d) = null R never g ts x e d
null R never (chain f c g h) ts x e (suc n, (a, b, y, z, w, d1, d2, _)) = null R never (chain f c g h) a y (append-empty a b (e ∙ w)).0 (n, d1)
null R never (lined f g) ts x e (y, d, _) = null R never g ts y e d
null R never (rule r) ts x e d = absurd (never r ts x e d)

-- A part behind what was taken already.
pub Good-after : {A B : Type 0} (D : List Lexeme → A → Type 0) (E : List Lexeme → B → Type 0) (f : A → B) (a s ts : List Lexeme) (o : Outcome A)
    → ts ≡ a ++ s → Good D s o → ((b : List Lexeme) (y : A) → D b y → E (a ++ b) (f y)) → Good E ts (then o (λ y r. got (f y) r))
Good-after D E f a s ts (got y r) e (b, w, d) k = (a ++ b, e ∙ ap (λ l. a ++ l) w ∙ sym (append_assoc a b r), k b y d)
Good-after D E f a s ts (bad r) e (b, w, (c, y, q, d)) k =
    (a ++ b, e ∙ ap (λ l. a ++ l) w ∙ sym (append_assoc a b r), (c, f y, q, rw append_assoc (k (b ++ c) y d)))
Good-after D E f a s ts out e h k = tt

pub Good-map : {A : Type 0} (D E : List Lexeme → A → Type 0) (ts : List Lexeme) (o : Outcome A)
    → ((a : List Lexeme) (x : A) → D a x → E a x) → Good D ts o → Good E ts o
Good-map D E ts (got x s) k (a, e, d) = (a, e, k a x d)
Good-map D E ts (bad s) k (a, e, (c, x, q, d)) = (a, e, (c, x, q, k (a ++ c) x d))
Good-map D E ts out k h = tt

pub Good-if : {A : Type 0} (D : List Lexeme → A → Type 0) (ts : List Lexeme) (b : Bool) (o p : Outcome A) → Good D ts o → Good D ts p → Good D ts (cond b o p)
Good-if D ts true o p g h = g
Good-if D ts false o p g h = h

pub line_of-append : (a s : List Lexeme) → ([] ≡ a → ⊥) → line_of (a ++ s) ≡ line_of a
line_of-append [] s h = absurd (h refl)
line_of-append (t ∷ a) s h = refl

-- What a reader of each rule owes.
pub record Base (Ref : Type 0) (tree : Ref → Type 0) : Type 1 where
  pub derives : (r : Ref) → List Lexeme → tree r → Type 0
  pub reader : (r : Ref) → List Lexeme → Outcome (tree r)
  pub each : (r : Ref) → Some (derives r)
  pub never : (r : Ref) (ts : List Lexeme) (x : tree r) → [] ≡ ts → derives r ts x → ⊥
  pub good : (r : Ref) (ts : List Lexeme) → Good (derives r) ts (reader r ts)

abbrev pub Chained : {A B : Type 0} → (A → B → A) → (List Lexeme → A → Type 0) → (List Lexeme → B → Type 0) → List Lexeme → A → Type 0
Chained f D H ts x = (n : ℕ) × Links f D H n ts x

link-good : {A B : Type 0} (f : A → B → A) (D : List Lexeme → A → Type 0) (H : List Lexeme → B → Type 0) (whole a ts : List Lexeme) (m : ℕ) (x : A) (o : Outcome B) (k : A → List Lexeme → Outcome A)
    → whole ≡ a ++ ts → Links f D H m a x → Good H ts o
    → ((b r : List Lexeme) (y : B) → whole ≡ (a ++ b) ++ r → Links f D H (suc m) (a ++ b) (f x y) → Good (Chained f D H) whole (k (f x y) r))
    → Good (Chained f D H) whole (then o (λ y r. k (f x y) r))
link-good f D H whole a ts m x (got y r) k e l (b, w, d) next = next b r y (e ∙ ap (λ t. a ++ t) w ∙ sym (append_assoc a b r)) (a, b, x, y, refl, l, d, refl)
link-good f D H whole a ts m x (bad r) k e l (b, w, (c, y, q, d)) next =
    (a ++ b, e ∙ ap (λ t. a ++ t) w ∙ sym (append_assoc a b r), (c, f x y, q, (suc m, (a, b ++ c, x, y, append_assoc a b c, l, d, refl))))
link-good f D H whole a ts m x out k e l h next = tt

loop-good : {A B : Type 0} (f : A → B → A) (c : Class) (next : List Lexeme → Outcome B) (D : List Lexeme → A → Type 0) (H : List Lexeme → B → Type 0) → ((ts : List Lexeme) → Good H ts (next ts))
    → (n : ℕ) (whole a ts : List Lexeme) (m : ℕ) (x : A) → whole ≡ a ++ ts → Links f D H m a x → Good (Chained f D H) whole (loop f c next n x ts)
loop-good f c next D H h zero whole a ts m x e l = (a, e, (m, l))
loop-good f c next D H h (suc n) whole a ts m x e l =
    Good-if (Chained f D H) whole (starts c ts) _ _
    (link-good f D H whole a ts m x (next ts) (λ z r. loop f c next n z r) e l (h ts) (λ b r y w l2. loop-good f c next D H h n whole (a ++ b) r (suc m) (f x y) w l2))
    (a, e, (m, l))

pub good : {Ref : Type 0} {tree : Ref → Type 0} {A : Type 0} (k : Base Ref tree) (g : Grammar Ref tree A) → is_productive g ≡ true → (ts : List Lexeme) → Good (Derives k.derives g) ts (read k.reader g ts)
good k (nothing x) p ts = ([], refl, (refl, refl))
good k (token c) p [] = ([], refl, (sample c ∷ [], sample c, ((and_parts _ _ p).1, tt), (refl, (and_parts _ _ p).0)))
good k (token c) p (t ∷ ts) = tested (matches c t) refl
  where
    tested : (b : Bool) → matches c t ≡ b → Good (Derives k.derives (token c)) (t ∷ ts) (cond b (got t ts) (bad (t ∷ ts)))
    tested true e = (t ∷ [], refl, (refl, e))
    tested false e = ([], refl, (sample c ∷ [], sample c, ((and_parts _ _ p).1, tt), (refl, (and_parts _ _ p).0)))
good k (both f g h) p ts =
    Good-then (Derives k.derives g) (Derives k.derives (both f g h)) ts (read k.reader g ts) _ (good k g ((and_parts _ _ p).0) ts)
    (λ a s x e d. Good-after (Derives k.derives h) (Derives k.derives (both f g h)) (f x) a s ts (read k.reader h s) e (good k h ((and_parts _ _ p).1) s)
    (λ b y d2. (a, b, x, y, refl, d, d2, refl)))
    (λ a x d. let (b, y, q, d2) = some k.derives k.each h ((and_parts _ _ p).1) in (b, f x y, q, (a, b, x, y, refl, d, d2, refl)))
good k (made f g) p ts =
    Good-after (Derives k.derives g) (Derives k.derives (made f g)) f [] ts ts (read k.reader g ts) refl (good k g p ts) (λ b y d. (y, d, refl))
good k (either c g h) p ts =
    Good-if (Derives k.derives (either c g h)) ts (starts c ts) (read k.reader g ts) (read k.reader h ts)
    (Good-map (Derives k.derives g) (Derives k.derives (either c g h)) ts (read k.reader g ts) (λ a x d. inl d) (good k g ((and_parts _ _ p).0) ts))
    (Good-map (Derives k.derives h) (Derives k.derives (either c g h)) ts (read k.reader h ts) (λ a x d. inr d) (good k h ((and_parts _ _ p).1) ts))
good k (chain f c g h) p ts =
    Good-then (Derives k.derives g) (Derives k.derives (chain f c g h)) ts (read k.reader g ts) _ (good k g ((and_parts _ _ ((and_parts _ _ p).1)).0) ts)
    (λ a s x e d. loop-good f c (read k.reader h) (Derives k.derives g) (Derives k.derives h) (good k h ((and_parts _ _ ((and_parts _ _ p).1)).1)) (length s) ts a s zero x e d)
    (λ a x d. ([], x, tt, (zero, rw append-nil d)))
good k (lined f g) p ts = lined-good f (read k.reader g ts) (Derives k.derives g) ts (good k g ((and_parts _ _ p).1) ts)
    (λ a x e d. not-true _ ((and_parts _ _ p).0) (null k.derives k.never g a x e d))
  where
    lined-good : {A B : Type 0} (f : ℕ → A → B) (o : Outcome A) (D : List Lexeme → A → Type 0) (ts : List Lexeme) → Good D ts o → ((a : List Lexeme) (x : A) → [] ≡ a → D a x → ⊥)
        → Good (λ a z. (x : A) × D a x × (f (line_of a) x ≡ z)) ts (then o (λ x r. got (f (line_of ts) x) r))
    lined-good f (got x s) D ts (a, e, d) h = (a, e, (x, d, ap (λ l. f l x) (sym (line_of-append a s (λ w. h a x w d)) ∙ ap line_of (sym e))))
    lined-good f (bad s) D ts (a, e, (c, x, q, d)) h = (a, e, (c, f (line_of (a ++ c)) x, q, (x, d, refl)))
    lined-good f out D ts g h = tt
good k (rule r) p ts = k.good r ts

pub never : {Ref : Type 0} {tree : Ref → Type 0} {rules : (r : Ref) → Grammar Ref tree (tree r)} (s : Sound Ref tree rules) (k : ℕ) (r : Ref) (ts : List Lexeme) (x : tree r) → [] ≡ ts → Within rules k r ts x → ⊥
never s zero r ts x e d = d
never {rules = rules} s (suc k) r ts x e d = let h : is_nullable (rules r) ≡ true = null (Within rules k) (never s k) (rules r) ts x e d in let i : is_nullable (rules r) ≡ false = s.something r in cc

pub reads-good : {Ref : Type 0} {tree : Ref → Type 0} {rules : (r : Ref) → Grammar Ref tree (tree r)} (s : Sound Ref tree rules) (k : ℕ) (r : Ref) (ts : List Lexeme) → Good (Within rules (suc k) r) ts (reads rules k r ts)
reads-good s zero r ts = tt
reads-good {rules = rules} s (suc k) r ts =
    good (record { derives = Within rules (suc k); reader = reads rules k; each = λ q. s.each q k; never = never s (suc k); good = reads-good s k }) (rules r) (s.productive r) ts

-- Reading by a table of rules, nested at most so deep.
abbrev pub base : {Ref : Type 0} {tree : Ref → Type 0} {rules : (r : Ref) → Grammar Ref tree (tree r)} → Sound Ref tree rules → ℕ → Base Ref tree
base {rules = rules} s k = record { derives = Within rules (suc k); reader = reads rules k; each = λ q. s.each q k; never = never s (suc k); good = reads-good s k }
