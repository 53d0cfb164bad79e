-- One token of sight decides the rules of the script text.
use Rattle.std.specs.Prelude.{ℕ, suc, List, [], ◌∷◌, codes, refl}
use Rattle.std.proofs.Common.{inl, inr, sym, subst}
use Rattle.reo_grammar.specs.Tokens.{Lexeme, Class, AreReal}
use Rattle.reo_grammar.specs.Tokens.Class.{fixed, number}
use Rattle.reo_grammar.specs.Conditions.{sample}
use Rattle.reo_grammar.specs.Grammar.{Derives, Within}
use Rattle.reo_grammar.specs.Sight.{firsts, mores}
use Rattle.reo_grammar.specs.Language.{Sighted, Sound}
use Rattle.reo_trees.specs.Forms.{Rule, tree_of}
use Rattle.reo_trees.specs.Forms.Rule.{type_rule, literal_rule, term_rule, unary_rule, looped_rule}
use Rattle.reo_trees.specs.Rules.{circuit_rules}
use Rattle.reo_trees.specs.Table.{circuit_sound}
use Rattle.reo_script.specs.declared.scripts.forms.ActionForm.TheVariants as forms
use Rattle.reo_script.specs.scripts.ScriptForms.{ScriptRule, script_tree, script_rules, most_rounds}
use Rattle.reo_script.specs.scripts.ScriptForms.ScriptRule.{action_rule, of_circuit}
use Rattle.reo_script.specs.scripts.Alike.{within_alike}

abbrev pub none_of_scripts : ScriptRule → List Class
none_of_scripts r = []

-- The classes that begin each rule, and those that go on after it.
abbrev pub script_first : ScriptRule → List Class
script_first r = firsts none_of_scripts (script_rules r)

abbrev pub script_more : ScriptRule → List Class
script_more r = mores none_of_scripts (script_rules r)

-- What a rule of circuits derives, it derives in scripts.
each_of_circuit : (r : Rule) (k : ℕ) → (ts : List Lexeme) × (x : tree_of r) × AreReal ts × Derives (Within script_rules k) (script_rules (of_circuit r)) ts x
each_of_circuit r k =
    let e : (ts : List Lexeme) × (x : tree_of r) × AreReal ts × Derives (Within circuit_rules k) (circuit_rules r) ts x = circuit_sound.each r k in
    (e.0, e.1, e.2, subst (λ D. D e.0 e.1) (sym (within_alike (suc k) r)) e.3)

pub script_sound : Sound ScriptRule script_tree script_rules
script_sound = record {
  productive = elim [ action_rule ↦ refl | of_circuit type_rule ↦ refl | of_circuit literal_rule ↦ refl | of_circuit term_rule ↦ refl | of_circuit unary_rule ↦ refl | of_circuit looped_rule ↦ refl ];
  something = elim [ action_rule ↦ refl | of_circuit type_rule ↦ refl | of_circuit literal_rule ↦ refl | of_circuit term_rule ↦ refl | of_circuit unary_rule ↦ refl | of_circuit looped_rule ↦ refl ];
  each = elim [
    | action_rule ↦ λ k. (
      sample (fixed (codes "pause")) ∷ sample (number 1 most_rounds) ∷ sample (fixed (codes ";")) ∷ [],
      forms.Pause 1,
      (refl, (refl, (refl, tt))),
      inr (inr (inl (
        sample (fixed (codes "pause")) ∷ [],
        sample (number 1 most_rounds) ∷ sample (fixed (codes ";")) ∷ [],
        tt,
        forms.Pause 1,
        refl,
        (sample (fixed (codes "pause")), (refl, refl), refl),
        (
          sample (number 1 most_rounds) ∷ [],
          sample (fixed (codes ";")) ∷ [],
          forms.Pause 1,
          tt,
          refl,
          (1, (sample (number 1 most_rounds), (refl, refl), refl), refl),
          (sample (fixed (codes ";")), (refl, refl), refl),
          refl,
        ),
        refl,
      ))),
    )
    | of_circuit r ↦ each_of_circuit r
  ];
}

abbrev pub script_table : Sighted ScriptRule script_tree script_rules
script_table = record {
  sound = script_sound;
  first = script_first;
  more = script_more;
  first-is = elim [ action_rule ↦ refl | of_circuit type_rule ↦ refl | of_circuit literal_rule ↦ refl | of_circuit term_rule ↦ refl | of_circuit unary_rule ↦ refl | of_circuit looped_rule ↦ refl ];
  more-is = elim [ action_rule ↦ refl | of_circuit type_rule ↦ refl | of_circuit literal_rule ↦ refl | of_circuit term_rule ↦ refl | of_circuit unary_rule ↦ refl | of_circuit looped_rule ↦ refl ];
  guarded = elim [ action_rule ↦ refl | of_circuit type_rule ↦ refl | of_circuit literal_rule ↦ refl | of_circuit term_rule ↦ refl | of_circuit unary_rule ↦ refl | of_circuit looped_rule ↦ refl ];
  sighted = elim [ action_rule ↦ refl | of_circuit type_rule ↦ refl | of_circuit literal_rule ↦ refl | of_circuit term_rule ↦ refl | of_circuit unary_rule ↦ refl | of_circuit looped_rule ↦ refl ];
}
