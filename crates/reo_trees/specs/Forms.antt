-- What the forms of the circuit text are made of.
use Rattle.std.specs.Prelude.{ℕ, List, [], ◌∷◌, ◌++◌, codes}
use Rattle.reo_grammar.specs.Tokens.{number_from}
use Rattle.reo_grammar.specs.Tokens.Class.{fixed, name, named, number, text}
use Rattle.reo_grammar.specs.Grammar.{Grammar}
use Rattle.reo_grammar.specs.Grammar.Grammar.{token, both, made, chain}
use Rattle.reo_trees.specs.declared.types.TypeTerm.{TypeTerm}
use Rattle.reo_trees.specs.declared.literals.Literal.{Literal}
use Rattle.reo_trees.specs.declared.terms.Term.{Term}
use Rattle.reo_trees.specs.declared.terms.Opened.{Opened}
use Rattle.reo_trees.specs.declared.items_two.ItemTwo.{ItemTwo}
use Rattle.reo_trees.specs.Texts.{text_bytes}

-- The rules that lead back to themselves: types, literals, terms, what a `!` or `-` stands before, and what stands in
-- a loop, which texts of version 2 alone have.
pub data Rule : Type 0 where
  type_rule literal_rule term_rule unary_rule looped_rule : Rule

-- What each rule's texts stand for.
abbrev pub tree_of : Rule → Type 0
tree_of type_rule = TypeTerm
tree_of literal_rule = Literal
tree_of term_rule = Term
tree_of unary_rule = Opened
tree_of looped_rule = ItemTwo

-- A grammar of circuit texts that stand for values of this type.
abbrev pub FormOf : Type 0 → Type 1
FormOf A = Grammar Rule tree_of A

-- A name of these bytes.
abbrev pub named_word : List ℕ → FormOf (Unit {0})
named_word b = made (λ t. tt) (token (named b))

-- A reserved word or a sign.
abbrev pub word : List ℕ → FormOf (Unit {0})
word b = made (λ t. tt) (token (fixed b))

-- One that stands for a value.
abbrev pub word_as : {A : Type 0} → A → List ℕ → FormOf A
word_as x b = made (λ u. x) (word b)

abbrev pub name_form : FormOf (List ℕ)
name_form = made (λ t. t.bytes) (token name)

-- A number from the first to the second.
abbrev pub number_form : ℕ → ℕ → FormOf ℕ
number_form low high = made (λ t. number_from 0 t.bytes) (token (number low high))

abbrev pub text_form : FormOf (List ℕ)
text_form = made (λ t. text_bytes t.bytes) (token text)

-- The first part and then the second, with the value of the second, or of the first.
infixr 6 ◌▸◌
abbrev pub ◌▸◌ : {A B : Type 0} → FormOf A → FormOf B → FormOf B
g ▸ h = both (λ x y. y) g h

infixl 7 ◌◂◌
abbrev pub ◌◂◌ : {A B : Type 0} → FormOf A → FormOf B → FormOf A
g ◂ h = both (λ x y. x) g h

-- One more at the end of a list.
abbrev pub listed : {A : Type 0} → List A → A → List A
listed xs x = xs ++ x ∷ []

-- One part behind a comma.
abbrev pub further : {A : Type 0} → FormOf A → FormOf A
further g = word (codes ",") ▸ g

-- One part or more, with commas between them.
abbrev pub comma_form : {A : Type 0} → FormOf A → FormOf (List A)
comma_form g = chain listed (fixed (codes ",")) (made (λ x. x ∷ []) g) (further g)
