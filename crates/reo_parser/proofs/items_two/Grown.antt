-- Reading further units behind a first one.
use Rattle.std.proofs.Common.{◌≡◌, List, [], ◌∷◌, ◌++◌, Err, refl, ap}
use Rattle.reo_grammar.specs.Tokens.{Lexeme}
use Rattle.reo_grammar.specs.Grammar.{Outcome, then}
use Rattle.reo_grammar.specs.Grammar.Outcome.{got, bad, out}
use Rattle.reo_grammar.specs.Grammar.Grammar.{both}
use Rattle.reo_trees.specs.declared.indexes.Index.{Index}
use Rattle.reo_trees.specs.declared.indexes.IndexUnit.{IndexUnit}
use Rattle.reo_trees.specs.declared.indexes.SignedUnit.{SignedUnit}
use Rattle.reo_trees.specs.Forms.{FormOf}
use Rattle.reo_trees.specs.Indexes.{unsigned}
use Rattle.reo_cursor.specs.declared.halt.Halt.{Halt}
use Rattle.reo_cursor.specs.declared.halt.Halt.TheVariants as halts
use Rattle.reo_cursor.specs.Reading.{Gives}
use Rattle.reo_terms.specs.Reading.{read_plain}

-- An index of a first unit and further ones.
abbrev pub joined : IndexUnit → List SignedUnit → Index
joined u us = record { units = unsigned u ∷ us }

grown-got : (m : Outcome (List SignedUnit)) (u : IndexUnit) (us : List SignedUnit) (r : List Lexeme)
    → then m (λ vs s. got ((unsigned u ∷ []) ++ vs) s) ≡ got us r → then m (λ vs s. got (joined u vs) s) ≡ got (record { units = us }) r
grown-got (got vs s) u us r e = let i : unsigned u ∷ vs ≡ us = cc in let j : s ≡ r = cc in rw (← i, ← j) refl
grown-got (bad s) u us r e = absurd (cc)
grown-got out u us r e = absurd (cc)

grown-bad : (m : Outcome (List SignedUnit)) (u : IndexUnit) (r : List Lexeme) → then m (λ vs s. got ((unsigned u ∷ []) ++ vs) s) ≡ bad r → then m (λ vs s. got (joined u vs) s) ≡ bad r
grown-bad (got vs s) u r e = absurd (cc)
grown-bad (bad s) u r e = let i : s ≡ r = cc in ap bad i
grown-bad out u r e = absurd (cc)

grown-out : (m : Outcome (List SignedUnit)) (u : IndexUnit) → then m (λ vs s. got ((unsigned u ∷ []) ++ vs) s) ≡ out → then m (λ vs s. got (joined u vs) s) ≡ out
grown-out (got vs s) u e = absurd (cc)
grown-out (bad s) u e = absurd (cc)
grown-out out u e = refl

-- What the further units come to behind the first one is what the index comes to.
module _ (first : FormOf IndexUnit) (more : FormOf (List SignedUnit)) (ts r : List Lexeme) (u : IndexUnit) (us : List SignedUnit) (reads_first : read_plain first ts ≡ got u r) (is : us ≡ unsigned u ∷ []) where
  pub index-got : (vs : List SignedUnit) (left : List Lexeme)
      → then (read_plain more r) (λ ws s. got (us ++ ws) s) ≡ got vs left → read_plain (both joined first more) ts ≡ got (record { units = vs }) left
  index-got vs left e = rw reads_first (grown-got (read_plain more r) u vs left (rw is at e))

  pub index-stops : (halt : Halt) (left : List Lexeme)
      → Gives {A = List SignedUnit} (Err halt) left (then (read_plain more r) (λ ws s. got (us ++ ws) s)) → Gives {A = Index} (Err halt) left (read_plain (both joined first more) ts)
  index-stops halts.Syntax left e = rw reads_first (grown-bad (read_plain more r) u left (rw is at e))
  index-stops halts.Room left e = rw reads_first (grown-out (read_plain more r) u (rw is at e))
  index-stops halts.NoMemory left e = tt
