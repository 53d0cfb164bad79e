-- What is claimed of each rule's texts, the items of loops among them.
use Rattle.std.proofs.Common.{◌≡◌, ℕ, true, List}
use Rattle.std.specs.List.{list_all}
use Rattle.reo_grammar.specs.Tokens.{Lexeme}
use Rattle.reo_grammar.specs.Grammar.Grammar.{rule}
use Rattle.reo_lexer.specs.Gaps.{is_space}
use Rattle.reo_trees.specs.declared.items_two.ItemTwo.{ItemTwo}
use Rattle.reo_trees.specs.Forms.{Rule, tree_of, FormOf}
use Rattle.reo_trees.specs.Forms.Rule.{type_rule, literal_rule, term_rule, unary_rule, looped_rule}
use Rattle.reo_syntax.proofs.Claims.{Again, Claim}
use Rattle.reo_syntax_laws.proofs.Seen.{World}
use Rattle.reo_syntax.proofs.Items.{Fit}
use Rattle.reo_syntax.specs.two.ItemText.{form_text}
use Rattle.reo_syntax_laws.specs.syntax_two_laws.Unlined.{bare_item}

abbrev pub SameItem : ItemTwo → ItemTwo → Type 0
SameItem x y = bare_item x ≡ bare_item y

-- Behind any indent the text of an item is one of the form again, with the same item.
abbrev pub PrintedItem : FormOf ItemTwo → List Lexeme → ItemTwo → Type 0
PrintedItem g ts x = (indent : List ℕ) → list_all is_space indent ≡ true → Again g (λ (i : ItemTwo). form_text indent i.form) SameItem ts x

abbrev pub ClaimTwo : (r : Rule) → List Lexeme → tree_of r → Type 0
ClaimTwo type_rule = Claim type_rule
ClaimTwo literal_rule = Claim literal_rule
ClaimTwo term_rule = Claim term_rule
ClaimTwo unary_rule = Claim unary_rule
ClaimTwo looped_rule = PrintedItem (rule looped_rule)

-- What the rules hold is what is claimed of them.
pub record FitTwo (w : World) : Type 1 where
  pub first : Fit w
  pub loops : w.Holds looped_rule ≡ ClaimTwo looped_rule
