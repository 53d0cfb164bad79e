-- Reading by a table of rules is exact.
use Rattle.std.proofs.Common.{◌≡◌, ℕ, zero, suc, ◌+◌, ◌<◌, true, List, [], ◌∷◌, ◌++◌, length, sym, ◌∙◌, append_assoc, append-nil, arith}
use Rattle.reo_grammar.specs.Tokens.{Lexeme}
use Rattle.reo_grammar.specs.Conditions.{is_productive}
use Rattle.reo_grammar.specs.Sight.{is_sighted}
use Rattle.reo_grammar.specs.Grammar.{Grammar, Outcome, Derives, read, reads, Within, Says, Refused}
use Rattle.reo_grammar.specs.Grammar.Outcome.{got, bad, out}
use Rattle.reo_grammar.proofs.Sound.{Good, Opens, good, base, never}
use Rattle.reo_grammar.specs.Language.{Sighted}
use Rattle.reo_grammar.proofs.Classes.{matches_any}
use Rattle.reo_grammar.proofs.Complete.{Stops, Ready, complete, begin, got-good}
use Rattle.reo_grammar.proofs.Deep.{Fine, below, depths, wider, deeper}
use Rattle.reo_grammar.proofs.Local.{Kept, local, refused, passed}

moved : (D : List Lexeme → Type 0) (a ts c : List Lexeme) → ts ≡ a ++ [] → D (a ++ c) → D (ts ++ c)
moved D a ts c w d = rw (w, append-nil) d

module _ {Ref : Type 0} {tree : Ref → Type 0} {rules : (r : Ref) → Grammar Ref tree (tree r)} (s : Sighted Ref tree rules) where
  pub begins : (k : ℕ) (r : Ref) (ts : List Lexeme) (t : Lexeme) (us : List Lexeme) (x : tree r) → t ∷ us ≡ ts → Within rules k r ts x → matches_any (s.first r) t ≡ true
  begins zero r ts t us x e d = absurd d
  begins (suc k) r ts t us x e d = rw (← s.first-is r) (begin s.first (Within rules k) (never s.sound k) (begins k) (rules r) ts t us x e d)

  pub rule-complete : (k : ℕ) (r : Ref) (ts u : List Lexeme) (x : tree r) → Within rules k r ts x → Stops (s.more r) u → reads rules k r (ts ++ u) ≡ got x u
  rule-complete zero r ts u x d st = absurd d
  rule-complete (suc k) r ts u x d st =
      complete (record { base = base s.sound k; given = Within rules k; first = s.first; more = s.more; never = never s.sound k; begins = begins k; complete = rule-complete k })
      (rules r) (s.sound.productive r) (s.sighted r) ts u x d (rw (← s.more-is r) at st)

  abbrev pub ready : ℕ → Ready Ref tree
  ready k = record { base = base s.sound k; given = Within rules k; first = s.first; more = s.more; never = never s.sound k; begins = begins k; complete = rule-complete k }

  rule-local : (t : Lexeme) (u v : List Lexeme) (k : ℕ) (r : Ref) (f : List Lexeme) → Kept t u v (reads rules k r (f ++ (t ∷ u))) (reads rules k r (f ++ (t ∷ v)))
  rule-local t u v zero r f = tt
  rule-local t u v (suc k) r f = local t u v (base s.sound k) (rule-local t u v k) (rules r) (s.sound.productive r) f

  -- What is derived, with nothing behind it, is read.
  pub reads-whole : {A : Type 0} (k : ℕ) (g : Grammar Ref tree A) → is_productive g ≡ true → is_sighted s.first s.more g ≡ true → (ts : List Lexeme) (x : A)
      → Derives (Within rules k) g ts x → read (reads rules k) g ts ≡ got x []
  reads-whole k g p i ts x d = rw append-nil at (complete (ready k) g p i ts [] x d tt)

  -- What is read to the end is derived.
  pub derived : {A : Type 0} (k : ℕ) (g : Grammar Ref tree A) → is_productive g ≡ true → (ts : List Lexeme) (x : A)
      → read (reads rules k) g ts ≡ got x [] → Derives (Within rules (suc k)) g ts x
  derived k g p ts x e =
      let (a, w, d) = got-good (Derives (Within rules (suc k)) g) ts (read (reads rules k) g ts) x [] (good (base s.sound k) g p ts) e in
      rw (w, append-nil) d

  -- The tokens before a bad one begin what is derived.
  pub begun : {A : Type 0} (k : ℕ) (g : Grammar Ref tree A) → is_productive g ≡ true → (ts u : List Lexeme)
      → read (reads rules k) g ts ≡ bad u → (a : List Lexeme) × (ts ≡ a ++ u) × Opens (Derives (Within rules (suc k)) g) a
  begun k g p ts u e = bad-good (Derives (Within rules (suc k)) g) ts (read (reads rules k) g ts) u (good (base s.sound k) g p ts) e
    where
      bad-good : {A : Type 0} (D : List Lexeme → A → Type 0) (ts : List Lexeme) (o : Outcome A) (u : List Lexeme) → Good D ts o → o ≡ bad u → (a : List Lexeme) × (ts ≡ a ++ u) × Opens D a
      bad-good D ts (got x q) u h e = absurd (cc)
      bad-good D ts (bad q) u (a, w, o) e = let p : q ≡ u = cc in (a, rw (← p) w, o)
      bad-good D ts out u h e = absurd (cc)

  -- No further tokens make what is derived of those up to a bad one.
  pub ended : {A : Type 0} (k : ℕ) (g : Grammar Ref tree A) → is_productive g ≡ true → is_sighted s.first s.more g ≡ true → (a : List Lexeme) (t : Lexeme) (u : List Lexeme)
      → read (reads rules k) g (a ++ (t ∷ u)) ≡ bad (t ∷ u) → (v : List Lexeme) (x : A) → Derives (Within rules k) g (a ++ (t ∷ v)) x → ⊥
  ended k g p i a t u e v x d =
      let h : Kept t u v (read (reads rules k) g (a ++ (t ∷ u))) (read (reads rules k) g (a ++ (t ∷ v))) = local t u v (base s.sound k) (rule-local t u v k) g p a in
      let h2 : read (reads rules k) g (a ++ (t ∷ v)) ≡ bad (t ∷ v) = refused t u v (read (reads rules k) g (a ++ (t ∷ v))) (rw e at h) in
      let h3 : read (reads rules k) g (a ++ (t ∷ v)) ≡ got x [] = reads-whole k g p i (a ++ (t ∷ v)) x d in
      cc

  -- At depths above the number of tokens reading is one and the same, and does not run out.
  pub same_depth : {A : Type 0} (k l : ℕ) (g : Grammar Ref tree A) → is_productive g ≡ true → (ts : List Lexeme) → length ts < k → length ts < l → Fine (read (reads rules k) g ts) (read (reads rules l) g ts)
  same_depth k l g p ts h i = below (base s.sound k) (reads rules l) (suc (length ts)) (λ r us j. depths s.sound s.guarded k l r us (omega arith) (omega arith)) g p ts (omega arith)

  module _ {A : Type 0} (g : Grammar Ref tree A) (p : is_productive g ≡ true) (i : is_sighted s.first s.more g ≡ true) (k : ℕ) (ts : List Lexeme) (h : length ts < k) where
    pub said : (x : A) → read (reads rules k) g ts ≡ got x [] → Says rules g ts x
    said x e = (suc k, derived k g p ts x e)

    pub read-said : (x : A) → Says rules g ts x → read (reads rules k) g ts ≡ got x []
    read-said x (l, d) =
        let d2 : Derives (Within rules (k + l)) g ts x = wider (Within rules l) (Within rules (k + l)) (deeper rules l (k + l) (omega arith)) g ts x d in
        (same_depth k (k + l) g p ts h (omega arith)).0 ∙ reads-whole (k + l) g p i ts x d2

    pub no-out : read (reads rules k) g ts ≡ out → ⊥
    no-out e = (same_depth k k g p ts h h).1 e

    pub refused-exact : (u : List Lexeme) → read (reads rules k) g ts ≡ bad u → Refused rules g ts u
    refused-exact [] e =
        let (a, w, (c, x, b, d)) = begun k g p ts [] e in
        ((c, x, b, (suc k, moved (λ l. Derives (Within rules (suc k)) g l x) a ts c w d)), λ y q. let f : read (reads rules k) g ts ≡ got y [] = read-said y q in cc)
    refused-exact (t ∷ u) e =
        let (a, w, (c, x, b, d)) = begun k g p ts (t ∷ u) e in (
          a,
          w,
          (c, x, b, (suc k, d)),
          λ (v, y, _, (l, q)).
              let d2 : Derives (Within rules (k + l)) g ((a ++ (t ∷ [])) ++ v) y = wider (Within rules l) (Within rules (k + l)) (deeper rules l (k + l) (omega arith)) g ((a ++ (t ∷ [])) ++ v) y q in
              let e2 : read (reads rules (k + l)) g ts ≡ bad (t ∷ u) = sym (same_depth k (k + l) g p ts h (omega arith)).0 ∙ e in
              ended (k + l) g p i a t u (rw w at e2) v y (rw append_assoc at d2),
        )

    -- A whole form with a token behind it: no text goes on with that token.
    pub refused-rest : (x : A) (t : Lexeme) (u : List Lexeme) → read (reads rules k) g ts ≡ got x (t ∷ u) → Refused rules g ts (t ∷ u)
    refused-rest x t u e =
        let (a, w, d) = got-good (Derives (Within rules (suc k)) g) ts (read (reads rules k) g ts) x (t ∷ u) (good (base s.sound k) g p ts) e in (
          a,
          w,
          ([], x, tt, (suc k, rw append-nil d)),
          λ (v, y, _, (l, q)).
              let d2 : Derives (Within rules (k + l)) g ((a ++ (t ∷ [])) ++ v) y = wider (Within rules l) (Within rules (k + l)) (deeper rules l (k + l) (omega arith)) g ((a ++ (t ∷ [])) ++ v) y q in
              let e2 : read (reads rules (k + l)) g ts ≡ got x (t ∷ u) = sym (same_depth k (k + l) g p ts h (omega arith)).0 ∙ e in
              over (k + l) a t u x (rw w at e2) v y (rw append_assoc at d2),
        )
      where
        over : (m : ℕ) (a : List Lexeme) (t : Lexeme) (u : List Lexeme) (x : A) → read (reads rules m) g (a ++ (t ∷ u)) ≡ got x (t ∷ u) → (v : List Lexeme) (y : A) → Derives (Within rules m) g (a ++ (t ∷ v)) y → ⊥
        over m a t u x e v y d =
            let h1 : Kept t u v (read (reads rules m) g (a ++ (t ∷ u))) (read (reads rules m) g (a ++ (t ∷ v))) = local t u v (base s.sound m) (rule-local t u v m) g p a in
            let h2 : read (reads rules m) g (a ++ (t ∷ v)) ≡ got x (t ∷ v) = passed t u v x (read (reads rules m) g (a ++ (t ∷ v))) (rw e at h1) in
            let h3 : read (reads rules m) g (a ++ (t ∷ v)) ≡ got y [] = reads-whole m g p i (a ++ (t ∷ v)) y d in
            cc

-- A fault at a token is one of every longer text.
pub refused-longer : {Ref : Type 0} {tree : Ref → Type 0} {A : Type 0} (rules : (r : Ref) → Grammar Ref tree (tree r)) (g : Grammar Ref tree A) (ts : List Lexeme) (t : Lexeme) (u more : List Lexeme)
    → Refused rules g ts (t ∷ u) → Refused rules g (ts ++ more) (t ∷ (u ++ more))
refused-longer rules g ts t u more (a, w, b, n) = (a, rw w (append_assoc a (t ∷ u) more), b, n)

-- Tokens say one tree.
pub one-tree : {Ref : Type 0} {tree : Ref → Type 0} {rules : (r : Ref) → Grammar Ref tree (tree r)} {A : Type 0} (s : Sighted Ref tree rules) (g : Grammar Ref tree A)
    → is_productive g ≡ true → is_sighted s.first s.more g ≡ true → (ts : List Lexeme) (x y : A) → Says rules g ts x → Says rules g ts y → x ≡ y
one-tree {rules = rules} s g p i ts x y d e =
    let a : read (reads rules (suc (length ts))) g ts ≡ got x [] = read-said s g p i (suc (length ts)) ts (omega arith) x d in
    let b : read (reads rules (suc (length ts))) g ts ≡ got y [] = read-said s g p i (suc (length ts)) ts (omega arith) y e in
    cc
