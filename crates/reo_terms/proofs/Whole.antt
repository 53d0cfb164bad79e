-- What reading all tokens of a text comes to.
use Rattle.std.proofs.Common.{◌≡◌, true, ℕ, ◌-◌, ◌≤◌, ◌<◌, List, [], ◌∷◌, ◌++◌, length, drop, sym, arith, append-nil}
use Rattle.reo_grammar.specs.Tokens.{Lexeme}
use Rattle.reo_grammar.specs.Grammar.{Grammar, read, reads, Says, Refused}
use Rattle.reo_grammar.specs.Language.{Sighted}
use Rattle.reo_grammar.specs.Sight.{is_sighted}
use Rattle.reo_grammar.specs.Conditions.{is_productive}
use Rattle.reo_grammar.specs.Grammar.Outcome.{got, bad, out}
use Rattle.reo_grammar.proofs.Exact.{said, no-out, refused-exact, refused-rest}
use Rattle.reo_terms.proofs.Fronts.{drop-back}

module _ {Ref : Type 0} {tree : Ref → Type 0} {A : Type 0} (rules : (r : Ref) → Grammar Ref tree (tree r)) (form : Grammar Ref tree A) where
  pub refused-cut : (ts r : List Lexeme) → Refused rules form ts r → (a : List Lexeme) × (ts ≡ a ++ r)
  refused-cut ts [] q = (ts, sym (append-nil ts))
  refused-cut ts (t ∷ u) (a, w, _, _) = (a, w)

  -- The place of a refusal, by how many tokens there are and how many are left.
  refused-place : (ts r : List Lexeme) (m n : ℕ) → m ≡ length ts → n ≡ length r → Refused rules form ts r
      → (n ≤ m) × (m - n ≤ length ts) × Refused rules form ts (drop (m - n) ts)
  refused-place ts r m n p q f =
      let (a, w) = refused-cut ts r f in
      let (h, e) = drop-back a r ts m n w p q in
      (h, omega arith, rw e f)

  module _ (table : Sighted Ref tree rules) (productive : is_productive form ≡ true) (sighted : is_sighted (table.first) (table.more) form ≡ true) (ts : List Lexeme) (k : ℕ) (h : length ts < k) where
    pub all-said : (p : A) (r : List Lexeme) → read (reads rules k) form ts ≡ got p r → length r ≡ 0 → Says rules form ts p
    all-said p [] e n = said table form productive sighted k ts h p e
    all-said p (t ∷ r) e n = absurd (omega arith)

    pub rest-refused : (p : A) (r : List Lexeme) (m n : ℕ) → m ≡ length ts → n ≡ length r → read (reads rules k) form ts ≡ got p r → (n ≡ 0 → ⊥)
        → (n ≤ m) × (m - n ≤ length ts) × Refused rules form ts (drop (m - n) ts)
    rest-refused p [] m n a b e z = absurd (z b)
    rest-refused p (t ∷ r) m n a b e z = refused-place ts (t ∷ r) m n a b (refused-rest table form productive sighted k ts h p t r e)

    pub stop-refused : (r : List Lexeme) (m n : ℕ) → m ≡ length ts → n ≡ length r → read (reads rules k) form ts ≡ bad r
        → (n ≤ m) × (m - n ≤ length ts) × Refused rules form ts (drop (m - n) ts)
    stop-refused r m n a b e = refused-place ts r m n a b (refused-exact table form productive sighted k ts h r e)

    pub never-out : read (reads rules k) form ts ≡ out → ⊥
    never-out e = no-out table form productive sighted k ts h e
