-- One token of sight decides the rules of the circuit text.
use Rattle.std.specs.Prelude.{ℕ, None, List, [], ◌∷◌, codes, refl}
use Rattle.std.proofs.Common.{inl, inr}
use Rattle.reo_grammar.specs.Tokens.{Lexeme, Class}
use Rattle.reo_grammar.specs.Tokens.Class.{fixed, name}
use Rattle.reo_grammar.specs.Conditions.{sample}
use Rattle.reo_grammar.specs.Grammar.{Derives, Within}
use Rattle.reo_grammar.specs.Sight.{firsts, mores}
use Rattle.reo_grammar.specs.Language.{Sighted, Sound}
use Rattle.reo_trees.specs.declared.types.Shape.TheVariants as shapes
use Rattle.reo_trees.specs.declared.literals.Constant.TheVariants as constants
use Rattle.reo_trees.specs.declared.terms.TermForm.TheVariants as terms
use Rattle.reo_trees.specs.Forms.{Rule, tree_of}
use Rattle.reo_trees.specs.Forms.Rule.{type_rule, literal_rule, term_rule, unary_rule, looped_rule}
use Rattle.reo_trees.specs.Operators.{opened}
use Rattle.reo_trees.specs.declared.items.Channel.TheVariants as channels
use Rattle.reo_trees.specs.declared.indexes.Ref.{Ref}
use Rattle.reo_trees.specs.declared.items_two.FormTwo.{FormTwo}
use Rattle.reo_trees.specs.Indexes.{ref_form}
use Rattle.reo_trees.specs.ItemsTwo.{join_two, placed_item}
use Rattle.reo_trees.specs.Rules.{circuit_rules}

abbrev pub none_of_rules : Rule → List Class
none_of_rules r = []

-- The classes that begin each rule, and those that go on after it. No rule begins with a rule, and nothing goes on after
-- the one rule that some end with, what a `!` or `-` stands before.
abbrev pub circuit_first : Rule → List Class
circuit_first r = firsts none_of_rules (circuit_rules r)

abbrev pub circuit_more : Rule → List Class
circuit_more r = mores none_of_rules (circuit_rules r)

abbrev the_sync : Lexeme
the_sync = sample (fixed (codes "sync"))

abbrev a_name : Lexeme
a_name = sample name

abbrev the_end : Lexeme
the_end = sample (fixed (codes ";"))

abbrev a_ref : Ref
a_ref = record { name = a_name.bytes; place = None }

abbrev the_form : FormTwo
the_form = join_two channels.Sync a_ref a_ref

ref_derived : (k : ℕ) → Derives (Within circuit_rules k) ref_form (a_name ∷ []) a_ref
ref_derived k = (a_name ∷ [], [], a_name.bytes, None, refl, (a_name, (refl, refl), refl), inr (refl, refl), refl)

pub circuit_sound : Sound Rule tree_of circuit_rules
circuit_sound = record {
  productive = elim [ type_rule ↦ refl | literal_rule ↦ refl | term_rule ↦ refl | unary_rule ↦ refl | looped_rule ↦ refl ];
  something = elim [ type_rule ↦ refl | literal_rule ↦ refl | term_rule ↦ refl | unary_rule ↦ refl | looped_rule ↦ refl ];
  each = elim [
    | type_rule ↦ λ k. (
      sample (fixed (codes "unit")) ∷ [],
      record { line = 0; shape = shapes.Unit },
      (refl, tt),
      (shapes.Unit, inl (tt, (sample (fixed (codes "unit")), (refl, refl), refl), refl), refl),
    )
    | literal_rule ↦ λ k. (
      sample (fixed (codes "unit")) ∷ [],
      record { line = 0; constant = constants.Unit },
      (refl, tt),
      (constants.Unit, inl (tt, (sample (fixed (codes "unit")), (refl, refl), refl), refl), refl),
    )
    | term_rule ↦ λ k. (
      sample (fixed (codes "it")) ∷ [],
      record { line = 0; form = terms.It },
      (refl, tt),
      (
        opened 0 terms.It,
        (
          0,
          (
            0,
            (
              sample (fixed (codes "it")) ∷ [],
              [],
              opened 0 terms.It,
              (λ x. x),
              refl,
              (0, (0, inr (inr (terms.It, inl (tt, (sample (fixed (codes "it")), (refl, refl), refl), refl), refl)))),
              inr (refl, refl),
              refl,
            ),
          ),
        ),
        refl,
      ),
    )
    | unary_rule ↦ λ k. (
      sample (fixed (codes "it")) ∷ [],
      opened 0 terms.It,
      (refl, tt),
      inr (inr (terms.It, inl (tt, (sample (fixed (codes "it")), (refl, refl), refl), refl), refl)),
    )
    | looped_rule ↦ λ k. (
      the_sync ∷ a_name ∷ a_name ∷ the_end ∷ [],
      placed_item 0 the_form,
      (refl, (refl, (refl, (refl, tt)))),
      (
        the_form,
        inl (
          the_sync ∷ [],
          a_name ∷ a_name ∷ the_end ∷ [],
          channels.Sync,
          (λ c. join_two c a_ref a_ref),
          refl,
          inl (tt, (the_sync, (refl, refl), refl), refl),
          (
            a_name ∷ [],
            a_name ∷ the_end ∷ [],
            a_ref,
            a_ref,
            refl,
            ref_derived k,
            (a_name ∷ [], the_end ∷ [], a_ref, tt, refl, ref_derived k, (the_end, (refl, refl), refl), refl),
            refl,
          ),
          refl,
        ),
        refl,
      ),
    )
  ];
}

abbrev pub circuit_table : Sighted Rule tree_of circuit_rules
circuit_table = record {
  sound = circuit_sound;
  first = circuit_first;
  more = circuit_more;
  first-is = elim [ type_rule ↦ refl | literal_rule ↦ refl | term_rule ↦ refl | unary_rule ↦ refl | looped_rule ↦ refl ];
  more-is = elim [ type_rule ↦ refl | literal_rule ↦ refl | term_rule ↦ refl | unary_rule ↦ refl | looped_rule ↦ refl ];
  guarded = elim [ type_rule ↦ refl | literal_rule ↦ refl | term_rule ↦ refl | unary_rule ↦ refl | looped_rule ↦ refl ];
  sighted = elim [ type_rule ↦ refl | literal_rule ↦ refl | term_rule ↦ refl | unary_rule ↦ refl | looped_rule ↦ refl ];
}
