-- A depth above the number of tokens is enough.
use Rattle.std.proofs.Common.{◌≡◌, ℕ, zero, suc, ◌≤◌, ◌<◌, Bool, true, false, not, cond, List, [], ◌∷◌, length, inl, inr, refl, ap, arith, length-append}
use Rattle.std.proofs.lemmas.Bool.{and_parts}
use Rattle.reo_grammar.specs.Tokens.{Lexeme, Class, matches}
use Rattle.reo_grammar.specs.Conditions.{is_nullable, is_productive, is_guarded}
use Rattle.reo_grammar.specs.Grammar.{Grammar, Outcome, Derives, Links, read, reads, Within, loop, then, token_at, starts, line_of}
use Rattle.reo_grammar.specs.Grammar.Grammar.{nothing, token, both, made, either, chain, lined, rule}
use Rattle.reo_grammar.specs.Grammar.Outcome.{got, bad, out}
use Rattle.reo_grammar.specs.Language.{Sound}
use Rattle.reo_grammar.proofs.Sound.{Base, good, base}
use Rattle.reo_grammar.proofs.Classes.{or-cases}
use Rattle.reo_grammar.proofs.Complete.{got-good, shrinks}

abbrev pub Fine : {A : Type 0} → Outcome A → Outcome A → Type 0
Fine o p = (o ≡ p) × (o ≡ out → ⊥)

Fine-got : {A : Type 0} (x : A) (s : List Lexeme) → Fine (got x s) (got x s)
Fine-got x s = (refl, λ e. cc)

Fine-then : {A B : Type 0} (o p : Outcome A) (k l : A → List Lexeme → Outcome B) → Fine o p → ((x : A) (s : List Lexeme) → o ≡ got x s → Fine (k x s) (l x s)) → Fine (then o k) (then p l)
Fine-then (got x s) p k l (e, n) next = rw (← e) (next x s refl)
Fine-then (bad s) p k l (e, n) next = rw (← e) (refl, λ i. cc)
Fine-then out p k l (e, n) next = absurd (n refl)

Fine-if : {A : Type 0} (b : Bool) (o p q u : Outcome A) → Fine o p → Fine q u → Fine (cond b o q) (cond b p u)
Fine-if true o p q u h i = h
Fine-if false o p q u h i = i

Fine-at : (c : Class) (ts : List Lexeme) → Fine (token_at c ts) (token_at c ts)
Fine-at c [] = (refl, λ e. cc)
Fine-at c (t ∷ ts) = Fine-if (matches c t) (got t ts) (got t ts) (bad (t ∷ ts)) (bad (t ∷ ts)) (refl, λ e. cc) (refl, λ e. cc)

-- What is left is no longer.
pub keeps : {Ref : Type 0} {tree : Ref → Type 0} {A : Type 0} (k : Base Ref tree) (g : Grammar Ref tree A) → is_productive g ≡ true
    → (ts : List Lexeme) (y : A) (r : List Lexeme) → read k.reader g ts ≡ got y r → length r ≤ length ts
keeps k g p ts y r e = let (a, w, d) = got-good (Derives k.derives g) ts (read k.reader g ts) y r (good k g p ts) e in omega (arith, ap length w, length-append a r)

loop-fine : {A B : Type 0} (f : A → B → A) (c : Class) (next also : List Lexeme → Outcome B) (m : ℕ)
    → ((s : List Lexeme) → length s ≤ m → Fine (next s) (also s)) → ((s : List Lexeme) (y : B) (q : List Lexeme) → next s ≡ got y q → length q ≤ length s)
    → (n : ℕ) (x : A) (s : List Lexeme) → length s ≤ m → Fine (loop f c next n x s) (loop f c also n x s)
loop-fine f c next also m fine keep zero x s h = Fine-got x s
loop-fine f c next also m fine keep (suc n) x s h =
    Fine-if (starts c s) _ _ (got x s) (got x s)
    (Fine-then (next s) (also s) (λ y q. loop f c next n (f x y) q) (λ y q. loop f c also n (f x y) q) (fine s h)
    (λ y q e. loop-fine f c next also m fine keep n (f x y) q (let i : length q ≤ length s = keep s y q e in omega arith)))
    (Fine-got x s)

module _ {Ref : Type 0} {tree : Ref → Type 0} (k : Base Ref tree) (also : (r : Ref) → List Lexeme → Outcome (tree r)) (n : ℕ)
    (each : (r : Ref) (ts : List Lexeme) → length ts < n → Fine (k.reader r ts) (also r ts)) where
  pub below : {A : Type 0} (g : Grammar Ref tree A) → is_productive g ≡ true → (ts : List Lexeme) → length ts < n → Fine (read k.reader g ts) (read also g ts)
  below (nothing x) p ts h = Fine-got x ts
  below (token c) p ts h = Fine-at c ts
  below (both f g i) p ts h =
      Fine-then (read k.reader g ts) (read also g ts) _ _ (below g ((and_parts _ _ p).0) ts h)
      (λ x s e. Fine-then (read k.reader i s) (read also i s) (λ y q. got (f x y) q) (λ y q. got (f x y) q)
      (below i ((and_parts _ _ p).1) s (let l : length s ≤ length ts = keeps k g ((and_parts _ _ p).0) ts x s e in omega arith)) (λ y q e2. Fine-got (f x y) q))
  below (made f g) p ts h = Fine-then (read k.reader g ts) (read also g ts) (λ x s. got (f x) s) (λ x s. got (f x) s) (below g p ts h) (λ x s e. Fine-got (f x) s)
  below (either c g i) p ts h = Fine-if (starts c ts) _ _ _ _ (below g ((and_parts _ _ p).0) ts h) (below i ((and_parts _ _ p).1) ts h)
  below (chain f c g i) p ts h =
      Fine-then (read k.reader g ts) (read also g ts) (λ x s. loop f c (read k.reader i) (length s) x s) (λ x s. loop f c (read also i) (length s) x s)
      (below g ((and_parts _ _ ((and_parts _ _ p).1)).0) ts h)
      (λ x s e. loop-fine f c (read k.reader i) (read also i) (length ts) (λ q l. below i ((and_parts _ _ ((and_parts _ _ p).1)).1) q (omega arith)) (keeps k i ((and_parts _ _ ((and_parts _ _ p).1)).1)) (length s) x s
      (keeps k g ((and_parts _ _ ((and_parts _ _ p).1)).0) ts x s e))
  below (lined f g) p ts h = Fine-then (read k.reader g ts) (read also g ts) (λ x s. got (f (line_of ts) x) s) (λ x s. got (f (line_of ts) x) s) (below g ((and_parts _ _ p).1) ts h) (λ x s e. Fine-got (f (line_of ts) x) s)
  below (rule r) p ts h = each r ts h

  pub fine : {A : Type 0} (g : Grammar Ref tree A) → is_productive g ≡ true → is_guarded g ≡ true → (ts : List Lexeme) → length ts ≤ n → Fine (read k.reader g ts) (read also g ts)
  fine (nothing x) p w ts h = Fine-got x ts
  fine (token c) p w ts h = Fine-at c ts
  fine (both f g i) p w ts h =
      Fine-then (read k.reader g ts) (read also g ts) _ _ (fine g ((and_parts _ _ p).0) ((and_parts _ _ w).0) ts h)
      (λ x s e. Fine-then (read k.reader i s) (read also i s) (λ y q. got (f x y) q) (λ y q. got (f x y) q)
      (or-cases (not (is_nullable g)) (is_guarded i) ((and_parts _ _ w).1)
      (λ nn. below i ((and_parts _ _ p).1) s (let l : length s < length ts = shrinks k g ((and_parts _ _ p).0) nn ts x s e in omega arith))
      (λ gi. fine i ((and_parts _ _ p).1) gi s (let l : length s ≤ length ts = keeps k g ((and_parts _ _ p).0) ts x s e in omega arith)))
      (λ y q e2. Fine-got (f x y) q))
  fine (made f g) p w ts h = Fine-then (read k.reader g ts) (read also g ts) (λ x s. got (f x) s) (λ x s. got (f x) s) (fine g p w ts h) (λ x s e. Fine-got (f x) s)
  fine (either c g i) p w ts h = Fine-if (starts c ts) _ _ _ _ (fine g ((and_parts _ _ p).0) ((and_parts _ _ w).0) ts h) (fine i ((and_parts _ _ p).1) ((and_parts _ _ w).1) ts h)
  fine (chain f c g i) p w ts h =
      Fine-then (read k.reader g ts) (read also g ts) (λ x s. loop f c (read k.reader i) (length s) x s) (λ x s. loop f c (read also i) (length s) x s)
      (fine g ((and_parts _ _ ((and_parts _ _ p).1)).0) ((and_parts _ _ w).0) ts h)
      (λ x s e. loop-fine f c (read k.reader i) (read also i) (length ts) (λ q l. fine i ((and_parts _ _ ((and_parts _ _ p).1)).1) ((and_parts _ _ w).1) q (omega arith)) (keeps k i ((and_parts _ _ ((and_parts _ _ p).1)).1)) (length s) x s
      (keeps k g ((and_parts _ _ ((and_parts _ _ p).1)).0) ts x s e))
  fine (lined f g) p w ts h = Fine-then (read k.reader g ts) (read also g ts) (λ x s. got (f (line_of ts) x) s) (λ x s. got (f (line_of ts) x) s) (fine g ((and_parts _ _ p).1) w ts h) (λ x s e. Fine-got (f (line_of ts) x) s)
  fine (rule r) p w ts h = absurd (cc)

-- Two depths above the number of tokens read alike, and neither runs out.
pub depths : {Ref : Type 0} {tree : Ref → Type 0} {rules : (r : Ref) → Grammar Ref tree (tree r)} (s : Sound Ref tree rules) → ((r : Ref) → is_guarded (rules r) ≡ true)
    → (k l : ℕ) (r : Ref) (ts : List Lexeme) → length ts < k → length ts < l → Fine (reads rules k r ts) (reads rules l r ts)
depths s w zero l r ts h i = absurd (omega arith)
depths s w (suc k) zero r ts h i = absurd (omega arith)
depths {rules = rules} s w (suc k) (suc l) r ts h i =
    fine (base s k) (reads rules l) (length ts) (λ q us j. depths s w k l q us (omega arith) (omega arith)) (rules r) (s.productive r) (w r) ts (omega arith)

-- A derivation from rules stays one where the rules derive more.
pub wider-links : {A B : Type 0} (f : A → B → A) (D E : List Lexeme → A → Type 0) (H I : List Lexeme → B → Type 0)
    → ((a : List Lexeme) (x : A) → D a x → E a x) → ((a : List Lexeme) (y : B) → H a y → I a y) → (n : ℕ) (ts : List Lexeme) (x : A) → Links f D H n ts x → Links f E I n ts x
wider-links f D E H I d h zero ts x l = d ts x l
wider-links f D E H I d h (suc n) ts x (a, b, y, z, w, l, e, v) = (a, b, y, z, w, wider-links f D E H I d h n a y l, h b z e, v)

pub wider : {Ref : Type 0} {tree : Ref → Type 0} {A : Type 0} (R S : (r : Ref) → List Lexeme → tree r → Type 0) → ((r : Ref) (ts : List Lexeme) (x : tree r) → R r ts x → S r ts x)
    → (g : Grammar Ref tree A) (ts : List Lexeme) (x : A) → Derives R g ts x → Derives S g ts x
wider R S m (nothing y) ts x d = d
wider R S m (token c) ts x d = d
wider R S m (both f g h) ts x (a, b, y, z, w, d1, d2, v) = (a, b, y, z, w, wider R S m g a y d1, wider R S m h b z d2, v)
wider R S m (made f g) ts x (y, d, v) = (y, wider R S m g ts y d, v)
wider R S m (either c g h) ts x (inl d) = inl (wider R S m g ts x d)
wider R S m (either c g h) ts x (inr d) = inr (wider R S m h ts x d)
wider R S m (chain f c g h) ts x (n, l) = (n, wider-links f (Derives R g) (Derives S g) (Derives R h) (Derives S h) (λ a y d. wider R S m g a y d) (λ a y d. wider R S m h a y d) n ts x l)
wider R S m (lined f g) ts x (y, d, v) = (y, wider R S m g ts y d, v)
wider R S m (rule r) ts x d = m r ts x d

pub deeper : {Ref : Type 0} {tree : Ref → Type 0} (rules : (r : Ref) → Grammar Ref tree (tree r)) (k l : ℕ) → k ≤ l → (r : Ref) (ts : List Lexeme) (x : tree r) → Within rules k r ts x → Within rules l r ts x
deeper rules zero l h r ts x d = absurd d
deeper rules (suc k) zero h r ts x d = absurd (omega arith)
deeper rules (suc k) (suc l) h r ts x d = wider (Within rules k) (Within rules l) (deeper rules k l (omega arith)) (rules r) ts x d
