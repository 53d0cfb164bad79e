-- The forms of circuits derive in scripts what they derive in circuits, and are read alike.
use Rattle.std.proofs.Common.{◌≡◌, ◌∙◌, ◌⊎◌, ℕ, zero, suc, List, ◌++◌, length, cond, refl, ap}
use Rattle.reo_grammar.specs.Tokens.{Lexeme}
use Rattle.reo_grammar.specs.Grammar.{Derives, Links, Within, Outcome, read, reads, then, loop, starts, line_of}
use Rattle.reo_grammar.specs.Grammar.Outcome.{got}
use Rattle.reo_grammar.specs.Grammar.Grammar.{nothing, token, both, made, either, chain, lined, rule}
use Rattle.reo_trees.specs.Forms.{Rule, FormOf, tree_of}
use Rattle.reo_trees.specs.Rules.{circuit_rules}
use Rattle.reo_script.specs.scripts.ScriptForms.{ScriptRule, script_tree, script_rules, lifted}
use Rattle.reo_script.specs.scripts.ScriptForms.ScriptRule.{of_circuit}

-- A lifted form derives the same, where rules derive alike.
module _ (R : (r : ScriptRule) → List Lexeme → script_tree r → Type 0) (S : (r : Rule) → List Lexeme → tree_of r → Type 0) (alike : (r : Rule) → R (of_circuit r) ≡ S r) where
  pub form_alike : {A : Type 0} (g : FormOf A) → Derives R (lifted g) ≡ Derives S g
  form_alike (nothing x) = refl
  form_alike (token c) = refl
  form_alike (both f g h) =
      ap (λ D ts z. (a : List Lexeme) × (b : List Lexeme) × (x : _) × (y : _) × (ts ≡ a ++ b) × D a x × Derives R (lifted h) b y × (f x y ≡ z)) (form_alike g)
      ∙ ap (λ D ts z. (a : List Lexeme) × (b : List Lexeme) × (x : _) × (y : _) × (ts ≡ a ++ b) × Derives S g a x × D b y × (f x y ≡ z)) (form_alike h)
  form_alike (made f g) = ap (λ D ts z. (x : _) × D ts x × (f x ≡ z)) (form_alike g)
  form_alike (either c g h) = ap (λ D ts x. D ts x ⊎ Derives R (lifted h) ts x) (form_alike g) ∙ ap (λ D ts x. Derives S g ts x ⊎ D ts x) (form_alike h)
  form_alike (chain f c g h) =
      ap (λ D ts x. (n : ℕ) × Links f D (Derives R (lifted h)) n ts x) (form_alike g) ∙ ap (λ D ts x. (n : ℕ) × Links f (Derives S g) D n ts x) (form_alike h)
  form_alike (lined f g) = ap (λ D ts z. (x : _) × D ts x × (f (line_of ts) x ≡ z)) (form_alike g)
  form_alike (rule r) = alike r

-- With rules nested at most so deep.
pub within_alike : (k : ℕ) (r : Rule) → Within script_rules k (of_circuit r) ≡ Within circuit_rules k r
within_alike zero r = refl
within_alike (suc k) r = form_alike (Within script_rules k) (Within circuit_rules k) (within_alike k) (circuit_rules r)

-- A lifted form is read alike, where rules are.
module _ (o : (r : ScriptRule) → List Lexeme → Outcome (script_tree r)) (u : (r : Rule) → List Lexeme → Outcome (tree_of r)) (alike : (r : Rule) → o (of_circuit r) ≡ u r) where
  pub read_alike : {A : Type 0} (g : FormOf A) → read o (lifted g) ≡ read u g
  read_alike (nothing x) = refl
  read_alike (token c) = refl
  read_alike (both f g h) =
      ap (λ a ts. then (a ts) (λ x r. then (read o (lifted h) r) (λ y s. got (f x y) s))) (read_alike g)
      ∙ ap (λ b ts. then (read u g ts) (λ x r. then (b r) (λ y s. got (f x y) s))) (read_alike h)
  read_alike (made f g) = ap (λ a ts. then (a ts) (λ x r. got (f x) r)) (read_alike g)
  read_alike (either c g h) =
      ap (λ a ts. cond (starts c ts) (a ts) (read o (lifted h) ts)) (read_alike g)
      ∙ ap (λ b ts. cond (starts c ts) (read u g ts) (b ts)) (read_alike h)
  read_alike (chain f c g h) =
      ap (λ a ts. then (a ts) (λ x r. loop f c (read o (lifted h)) (length r) x r)) (read_alike g)
      ∙ ap (λ b ts. then (read u g ts) (λ x r. loop f c b (length r) x r)) (read_alike h)
  read_alike (lined f g) = ap (λ a ts. then (a ts) (λ x r. got (f (line_of ts) x) r)) (read_alike g)
  read_alike (rule r) = alike r

-- With rules nested at most so deep.
pub reads_alike : (k : ℕ) (r : Rule) → reads script_rules k (of_circuit r) ≡ reads circuit_rules k r
reads_alike zero r = refl
reads_alike (suc k) r = read_alike (reads script_rules k) (reads circuit_rules k) (reads_alike k) (circuit_rules r)
