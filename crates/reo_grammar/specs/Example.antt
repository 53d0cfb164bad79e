-- A small language, as an example: a name in any number of parentheses says that number.
use Rattle.std.specs.Prelude.{◌≡◌, ℕ, ◌+◌, false, List, [], ◌∷◌, codes, refl}
use Rattle.std.proofs.Common.{inr}
use Rattle.reo_grammar.specs.Tokens.{Class}
use Rattle.reo_grammar.specs.Tokens.Class.{fixed, name}
use Rattle.reo_grammar.specs.Grammar.{Grammar}
use Rattle.reo_grammar.specs.Grammar.Grammar.{token, both, made, either, rule}
use Rattle.reo_grammar.specs.Conditions.{sample}
use Rattle.reo_grammar.specs.Sight.{is_sighted}
use Rattle.reo_grammar.specs.Language.{Sighted}

pub data Rule : Type 0 where
  nested : Rule

abbrev pub depth_of : Rule → Type 0
depth_of r = ℕ

-- "(" nested ")", or a name
abbrev pub nested_form : Grammar Rule depth_of ℕ
nested_form =
    either (fixed (codes "("))
    (both (λ t n. n) (token (fixed (codes "("))) (both (λ n t. n + 1) (rule nested) (token (fixed (codes ")")))))
    (made (λ t. 0) (token name))

abbrev pub example_rules : (r : Rule) → Grammar Rule depth_of (depth_of r)
example_rules nested = nested_form

abbrev pub example_first : Rule → List Class
example_first nested = fixed (codes "(") ∷ name ∷ []

abbrev pub example_more : Rule → List Class
example_more nested = []

abbrev pub example_table : Sighted Rule depth_of example_rules
example_table = record {
  sound = record {
    productive = elim [ nested ↦ refl ];
    something = elim [ nested ↦ refl ];
    each = elim [ nested ↦ λ k. (sample name ∷ [], 0, (refl, tt), inr (sample name, (refl, refl), refl)) ];
  };
  first = example_first;
  more = example_more;
  first-is = elim [ nested ↦ refl ];
  more-is = elim [ nested ↦ refl ];
  guarded = elim [ nested ↦ refl ];
  sighted = elim [ nested ↦ refl ];
}

-- A choice between two forms that begin with a name is not decided.
pub undecided : is_sighted {tree = depth_of} {A = ℕ} example_first example_more (either name (made (λ t. 0) (token name)) (both (λ t u. 1) (token name) (token name))) ≡ false
undecided = refl
