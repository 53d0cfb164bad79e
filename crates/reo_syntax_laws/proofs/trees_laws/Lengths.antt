-- Texts have no fewer bytes than tokens, and no fewer tokens than items.
use Rattle.std.proofs.Common.{arith, lit≤, ◌≡◌, ℕ, zero, suc, ◌≤◌, ◌<◌, true, List, [], ◌∷◌, ◌++◌, length, refl}
use Rattle.std.specs.List.{All}
use Rattle.std.proofs.lemmas.List.{length-append, length-map}
use Rattle.reo_grammar.specs.declared.kind.TokenKind.TheVariants as kinds
use Rattle.reo_grammar.specs.Tokens.{Lexeme}
use Rattle.reo_grammar.specs.Conditions.{is_nullable}
use Rattle.reo_grammar.specs.Grammar.{Within, Derives}
use Rattle.reo_grammar.specs.Grammar.Grammar.{both}
use Rattle.reo_grammar.proofs.Sound.{null}
use Rattle.reo_lexer.specs.Lexing.{lexeme_of, lexemes_of}
use Rattle.reo_lexer.proofs.Counts.{runs_few}
use Rattle.reo_lexer.proofs.Spans.{tokens-real}
use Rattle.reo_trees.specs.declared.items.Item.{Item}
use Rattle.reo_trees.specs.declared.programs.Connector.{Connector}
use Rattle.reo_trees.specs.declared.programs.Declaration.{Declaration}
use Rattle.reo_trees.specs.declared.programs.Declaration.TheVariants as declarations
use Rattle.reo_trees.specs.declared.programs.Program.{Program}
use Rattle.reo_trees.specs.Forms.{Rule, tree_of, FormOf}
use Rattle.reo_trees.specs.Forms.Rule.{type_rule, literal_rule, term_rule, unary_rule, looped_rule}
use Rattle.reo_trees.specs.Rules.{circuit_rules}
use Rattle.reo_trees.specs.Items.{item_form, items_form}
use Rattle.reo_trees.specs.Programs.{connector_form, named_form, declaration_form, declarations_form, program_form}
use Rattle.reo_trees.specs.Says.{SaysProgram}
use Rattle.reo_syntax_laws.proofs.Seen.{World, See, see-then, see-both, see-made, see-either, see-lined, see-nothing, see-chain}
use Rattle.reo_syntax_laws.specs.trees_laws.Few.{HasAtMost, HasItemsWithin}
use Rattle.reo_syntax_laws.proofs.trees_laws.Lists.{all-none, all-more}

-- No rule derives the empty list.
not-null : (r : Rule) → is_nullable (circuit_rules r) ≡ true → ⊥
not-null type_rule h = cc
not-null literal_rule h = cc
not-null term_rule h = cc
not-null unary_rule h = cc
not-null looped_rule h = cc

never : (k : ℕ) (r : Rule) (ts : List Lexeme) (x : tree_of r) → [] ≡ ts → Within circuit_rules k r ts x → ⊥
never zero r ts x e d = d
never (suc k) r ts x e d = not-null r (null (Within circuit_rules k) (never k) (circuit_rules r) ts x e d)

some_token : (k : ℕ) (ts : List Lexeme) (x : Item) → Derives (Within circuit_rules k) item_form ts x → 0 < length ts
some_token k [] x d = absurd (let h : is_nullable item_form ≡ true = null (Within circuit_rules k) (never k) item_form [] x refl d in cc)
some_token k (t ∷ ts) x d = omega arith

at_most : (d : Declaration) (m n : ℕ) → m ≤ n → HasAtMost m d → HasAtMost n d
at_most (declarations.Named line name term) m n more h = tt
at_most (declarations.Made c) m n more h = omega arith

module _ (k : ℕ) where
  abbrev w : World
  w = record { Derived = Within circuit_rules k; Holds = λ r ts x. Unit {0}; each = λ r ts x q d. tt }

  -- What holds of a second part, or of a first one, by the number of its tokens.
  by_right : {A B C : Type 0} {f : A → B → C} {g : FormOf A} {h : FormOf B} (Q : B → ℕ → Type 0) (U : C → ℕ → Type 0)
      → ((x : A) (y : B) (m n : ℕ) → m ≤ n → Q y m → U (f x y) n) → See w h (λ ts y. Q y (length ts)) → See w (both f g h) (λ ts z. U z (length ts))
  by_right {f = f} Q U more s = see-both (record { at = λ a x q d. see-then s (λ b y h. let l = length-append a b in more x y (length b) (length (a ++ b)) (omega arith) h) })

  by_left : {A B C : Type 0} {f : A → B → C} {g : FormOf A} {h : FormOf B} (Q : A → ℕ → Type 0) (U : C → ℕ → Type 0)
      → ((x : A) (y : B) (m n : ℕ) → m ≤ n → Q x m → U (f x y) n) → See w g (λ ts x. Q x (length ts)) → See w (both f g h) (λ ts z. U z (length ts))
  by_left {f = f} Q U more s = see-both (see-then s (λ a x h. record { at = λ b y q d. let l = length-append a b in more x y (length a) (length (a ++ b)) (omega arith) h }))

  -- No more items than tokens.
  abbrev Items : List Item → ℕ → Type 0
  Items is n = length is ≤ n

  items_few : See w items_form (λ ts is. Items is (length ts))
  items_few = see-chain (see-nothing (lit≤ tt)) (λ a is few. record {
    at = λ b i q d.
        let some = some_token k b i d in
        let l = length-append a b in
        let m = length-append is (i ∷ []) in
        omega arith;
  })

  abbrev Made : (ℕ → Connector) → ℕ → Type 0
  Made f n = (l : ℕ) → length (f l).items ≤ n

  abbrev MadeOf : (List ℕ → ℕ → Connector) → ℕ → Type 0
  MadeOf f n = (name : List ℕ) (l : ℕ) → length (f name l).items ≤ n

  connector_few : See w connector_form (λ ts c. length c.items ≤ length ts)
  connector_few = see-lined (see-then
      (by_right Made Made (λ x f m n more h l. let few = h l in omega arith)
      (by_right MadeOf Made (λ name f m n more h l. let few = h name l in omega arith)
      (by_right Items MadeOf (λ ps is m n more h name l. omega arith)
      (by_right Items Items (λ x is m n more h. omega arith) (by_left Items Items (λ is y m n more h. omega arith) items_few)))))
      (λ ts f h. h _))

  abbrev Declared : (ℕ → Declaration) → ℕ → Type 0
  Declared f n = (l : ℕ) → HasAtMost n (f l)

  -- A type has no items.
  named_few : See w named_form (λ ts d. HasAtMost (length ts) d)
  named_few = see-lined (see-then
      (by_right Declared Declared (λ x f m n more h l. at_most (f l) m n more (h l))
      (see-both (record { at = λ a x q d. record { at = λ b y r e l. tt } })))
      (λ ts f h. h _))

  declaration_few : See w declaration_form (λ ts d. HasAtMost (length ts) d)
  declaration_few = see-either named_few (see-made connector_few)

  declarations_few : See w declarations_form (λ ts ds. All (HasAtMost (length ts)) ds)
  declarations_few = see-chain (see-nothing (all-none (HasAtMost 0))) (λ a ds few. see-then declaration_few (λ b d h.
      let l = length-append a b in
      all-more (HasAtMost (length (a ++ b))) ds d (λ i e below. at_most _ (length a) (length (a ++ b)) (omega arith) (few i e below)) (at_most d (length b) (length (a ++ b)) (omega arith) h)))

  pub program_few : See w program_form (λ ts p. HasItemsWithin (length ts) p)
  program_few = see-made declarations_few

pub few_items : (text : List ℕ) (p : Program) → SaysProgram text p → HasItemsWithin (length text) p
few_items text p (ts, tokens, (k, derived), levels) i d below =
    let few = (program_few k).at (lexemes_of text ts) p (tokens-real text ts tokens) derived i d below in
    let same = length-map ts (lexeme_of text) in
    let less = runs_few _ 0 1 text ts tokens in
    at_most _ (length (lexemes_of text ts)) (length text) (omega arith) few
