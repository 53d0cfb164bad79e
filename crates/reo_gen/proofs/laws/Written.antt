-- Lists of what is written in a row, each with lines of its own.
use Rattle.std.proofs.Common.{◌≡◌, ℕ, ◌+◌, ◌≤◌, ◌<◌, zero, suc, List, [], ◌∷◌, ◌++◌, map, refl, sym, ◌∙◌, ap, subst, append_assoc, append-nil, arith}
use Rattle.std.specs.List.{flat_map, range_with_len}
use Rattle.reo_grammar.specs.Tokens.{Class}
use Rattle.reo_grammar.specs.Grammar.{Grammar}
use Rattle.reo_grammar.specs.Grammar.Grammar.{chain}
use Rattle.reo_gen.proofs.laws.Heights.{Height}
use Rattle.reo_gen.proofs.laws.Pieces.{Reads, reads-more, reads-text}

-- The line of a part, and that of its type.
abbrev pub Lines : Type 0
Lines = ℕ × ℕ

-- Each made by its own lines.
abbrev pub made_by : {X : Type 0} → List (Lines → X) → (ℕ → Lines) → List X
made_by [] at = []
made_by (f ∷ fs) at = f (at zero) ∷ made_by fs (λ j. at (suc j))

abbrev pub IsBy : {X : Type 0} → (Lines → X) → X → Type 0
IsBy f x = (l : Lines) × (x ≡ f l)

pub record AreBy {X : Type 0} (fs : List (Lines → X)) (xs : List X) : Type 0 where
  pub at : ℕ → Lines
  pub are : xs ≡ made_by fs at

-- The lines of some, and these of one more behind them.
abbrev with_last : {X : Type 0} → List (Lines → X) → Lines → (ℕ → Lines) → ℕ → Lines
with_last [] l at j = l
with_last (f ∷ fs) l at zero = at zero
with_last (f ∷ fs) l at (suc j) = with_last fs l (λ i. at (suc i)) j

made-last : {X : Type 0} (fs : List (Lines → X)) (f : Lines → X) (l : Lines) (at : ℕ → Lines) → made_by fs at ++ f l ∷ [] ≡ made_by (fs ++ f ∷ []) (with_last fs l at)
made-last [] f l at = refl
made-last (g ∷ fs) f l at = ap (λ xs. g (at zero) ∷ xs) (made-last fs f l (λ i. at (suc i)))

pub by-none : {X : Type 0} → AreBy {X = X} [] []
by-none = record { at = λ j. (0, 0); are = refl }

pub by-more : {X : Type 0} (fs : List (Lines → X)) (f : Lines → X) (xs : List X) (x : X) → AreBy fs xs → IsBy f x → AreBy (fs ++ f ∷ []) (xs ++ x ∷ [])
by-more fs f xs x so (l, i) = record { at = with_last fs l so.at; are = (λ k. so.are k ++ i k ∷ []) ∙ made-last fs f l so.at }

-- The lines behind those of some.
abbrev pub past : {X : Type 0} → List (Lines → X) → (ℕ → Lines) → ℕ → Lines
past [] at = at
past (f ∷ fs) at = past fs (λ j. at (suc j))

pub made-append : {X : Type 0} (fs gs : List (Lines → X)) (at : ℕ → Lines) → made_by (fs ++ gs) at ≡ made_by fs at ++ made_by gs (past fs at)
made-append [] gs at = refl
made-append (f ∷ fs) gs at = ap (λ xs. f (at zero) ∷ xs) (made-append fs gs (λ j. at (suc j)))

-- Further parts of a chain, one for each number from a on, where a claim on those so far grows with each.
module _ {Ref : Type 0} {tree : Ref → Type 0} {rules : (r : Ref) → Grammar Ref tree (tree r)} {X : Type 0} (P : List (Lines → X) → List X → Type 0)
    (more : (fs : List (Lines → X)) (f : Lines → X) (xs : List X) (x : X) → P fs xs → IsBy f x → P (fs ++ f ∷ []) (xs ++ x ∷ [])) where
  pub reads-claimed : {c : Class} {g : Grammar Ref tree (List X)} {e : Grammar Ref tree X} {h k : Height} (Fits : List ℕ → Type 0) (t : ℕ → List ℕ) (make : ℕ → Lines → X) (a n : ℕ) (fs : List (Lines → X)) (before r : List ℕ)
      → Fits r → ((j : ℕ) (s : List ℕ) → Fits (t j ++ s))
      → ((j : ℕ) (s : List ℕ) → a ≤ j → j < a + n → Fits s → Reads rules e (t j) s (IsBy (make j)) k k)
      → Reads rules (chain (λ (xs : List X) (x : X). xs ++ x ∷ []) c g e) before (flat_map t (range_with_len a n) ++ r) (P fs) h k
      → Reads rules (chain (λ (xs : List X) (x : X). xs ++ x ∷ []) c g e) (before ++ flat_map t (range_with_len a n)) r (P (fs ++ map make (range_with_len a n))) h k
  reads-claimed {c = c} {g = g} {e = e} {h = h} {k = k} Fits t make a zero fs before r fit fits each x =
      reads-text (sym (append-nil before)) (subst (λ z. Reads rules (chain (λ xs x. xs ++ x ∷ []) c g e) before r (P z) h k) (sym (append-nil fs)) x)
  reads-claimed {c = c} {g = g} {e = e} {h = h} {k = k} Fits t make a (suc n) fs before r fit fits each x =
      let rest = flat_map t (range_with_len (a + 1) n) in
      let G = chain (λ (xs : List X) (x : X). xs ++ x ∷ []) c g e in
      let one : Reads rules G (before ++ t a) (rest ++ r) (P (fs ++ make a ∷ [])) h k =
      reads-more (P (fs ++ make a ∷ []))
      (subst (λ s. Reads rules G before s (P fs) h k) (append_assoc (t a) rest r) x)
      (each a (rest ++ r) (omega arith) (omega arith) (fit-rest n))
      (λ ys y p q. more fs (make a) ys y p q) in
      let all = reads-claimed Fits t make (a + 1) n (fs ++ make a ∷ []) (before ++ t a) r fit fits (λ j s i l f. each j s (omega arith) (omega arith) f) one in
      reads-text (append_assoc before (t a) rest) (subst (λ z. Reads rules G ((before ++ t a) ++ rest) r (P z) h k) (append_assoc fs (make a ∷ []) (map make (range_with_len (a + 1) n))) all)
    where
      fit-rest : (m : ℕ) → Fits (flat_map t (range_with_len (a + 1) m) ++ r)
      fit-rest zero = fit
      fit-rest (suc m) = subst Fits (sym (append_assoc (t (a + 1)) (flat_map t (range_with_len (a + 1 + 1) m)) r)) (fits (a + 1) (flat_map t (range_with_len (a + 1 + 1) m) ++ r))

pub reads-range : {Ref : Type 0} {tree : Ref → Type 0} {rules : (r : Ref) → Grammar Ref tree (tree r)} {X : Type 0} {c : Class} {g : Grammar Ref tree (List X)} {e : Grammar Ref tree X} {h k : Height}
    (Fits : List ℕ → Type 0) (t : ℕ → List ℕ) (make : ℕ → Lines → X) (a n : ℕ) (fs : List (Lines → X)) (before r : List ℕ)
    → Fits r → ((j : ℕ) (s : List ℕ) → Fits (t j ++ s))
    → ((j : ℕ) (s : List ℕ) → a ≤ j → j < a + n → Fits s → Reads rules e (t j) s (IsBy (make j)) k k)
    → Reads rules (chain (λ (xs : List X) (x : X). xs ++ x ∷ []) c g e) before (flat_map t (range_with_len a n) ++ r) (AreBy fs) h k
    → Reads rules (chain (λ (xs : List X) (x : X). xs ++ x ∷ []) c g e) (before ++ flat_map t (range_with_len a n)) r (AreBy (fs ++ map make (range_with_len a n))) h k
reads-range = reads-claimed AreBy by-more
