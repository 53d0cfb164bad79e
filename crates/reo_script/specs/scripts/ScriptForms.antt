-- The grammar of scripts. All but the repeat is of the grammar of circuits, whose rule for literals it shares.
use Rattle.std.specs.Prelude.{ℕ, ◌≡◌, ◌↔◌, ◌^◌, Option, Some, None, List, [], codes}
use Rattle.reo_grammar.specs.Tokens.{Lexeme}
use Rattle.reo_grammar.specs.Tokens.Class.{fixed, other}
use Rattle.reo_grammar.specs.Grammar.{Grammar, Within, reads}
use Rattle.reo_grammar.specs.Grammar.Grammar.{nothing, token, both, made, either, chain, lined, rule}
use Rattle.reo_trees.specs.Forms.{Rule, FormOf, tree_of, word, name_form, number_form, ◌▸◌, ◌◂◌, listed}
use Rattle.reo_trees.specs.Forms.Rule.{literal_rule}
use Rattle.reo_trees.specs.Rules.{circuit_rules}
use Rattle.reo_script.specs.declared.scripts.forms.ActionForm.{ActionForm}
use Rattle.reo_script.specs.declared.scripts.forms.ActionForm.TheVariants as forms
use Rattle.reo_script.specs.declared.scripts.forms.ComponentForm.{ComponentForm}

-- The rules that lead back to themselves: actions, and the rules of circuits.
pub data ScriptRule : Type 0 where
  action_rule : ScriptRule
  of_circuit : Rule → ScriptRule

abbrev pub script_tree : ScriptRule → Type 0
script_tree action_rule = ActionForm
script_tree (of_circuit r) = tree_of r

-- A grammar of script texts that stand for values of this type.
abbrev pub ScriptFormOf : Type 0 → Type 1
ScriptFormOf A = Grammar ScriptRule script_tree A

-- A form of circuits as a form of scripts.
abbrev pub lifted : {A : Type 0} → FormOf A → ScriptFormOf A
lifted (nothing x) = nothing x
lifted (token c) = token c
lifted (both f g h) = both f (lifted g) (lifted h)
lifted (made f g) = made f (lifted g)
lifted (either c g h) = either c (lifted g) (lifted h)
lifted (chain f c g h) = chain f c (lifted g) (lifted h)
lifted (lined f g) = lined f (lifted g)
lifted (rule r) = rule (of_circuit r)

-- The greatest number of rounds, and of times.
abbrev pub most_rounds : ℕ
most_rounds = 10 ^ 9

-- [ "within" NUMBER ]
abbrev pub within_form : FormOf (Option ℕ)
within_form = either (fixed (codes "within")) (word (codes "within") ▸ made (λ n. Some n) (number_form 1 most_rounds)) (nothing None)

-- "write" NAME literal [ "within" NUMBER ] ";"
abbrev pub write_form : FormOf ActionForm
write_form =
    lined (λ l (f : ℕ → ActionForm). f l)
    (word (codes "write") ▸ both (λ n (f : List ℕ → ℕ → ActionForm). f n) name_form
    (both (λ x w (n : List ℕ) (l : ℕ). forms.Write l n x w) (rule literal_rule) (within_form ◂ word (codes ";"))))

-- "take" NAME [ "within" NUMBER ] ";"
abbrev pub take_form : FormOf ActionForm
take_form =
    lined (λ l (f : ℕ → ActionForm). f l)
    (word (codes "take") ▸ both (λ n w (l : ℕ). forms.Take l n w) name_form (within_form ◂ word (codes ";")))

-- "pause" NUMBER ";"
abbrev pub pause_form : FormOf ActionForm
pause_form = word (codes "pause") ▸ made (λ n. forms.Pause n) (number_form 1 most_rounds) ◂ word (codes ";")

-- "repeat" NUMBER "{"
abbrev pub times_form : FormOf ℕ
times_form = word (codes "repeat") ▸ number_form 0 most_rounds ◂ word (codes "{")

-- { action }
abbrev pub action_list : ScriptFormOf (List ActionForm)
action_list = chain listed (other (codes "}")) (nothing []) (rule action_rule)

-- { action } "}"
abbrev pub actions_form : ScriptFormOf (List ActionForm)
actions_form = both (λ xs u. xs) action_list (lifted (word (codes "}")))

-- "repeat" NUMBER "{" { action } "}"
abbrev pub repeat_form : ScriptFormOf ActionForm
repeat_form = both (λ n xs. forms.Repeat n xs) (lifted times_form) actions_form

abbrev pub action_form : ScriptFormOf ActionForm
action_form =
    either (fixed (codes "write")) (lifted write_form)
    (either (fixed (codes "take")) (lifted take_form)
    (either (fixed (codes "pause")) (lifted pause_form) repeat_form))

abbrev pub script_rules : (r : ScriptRule) → ScriptFormOf (script_tree r)
script_rules action_rule = action_form
script_rules (of_circuit r) = lifted (circuit_rules r)

-- "component" NAME "{"
abbrev pub label_form : FormOf (List ℕ)
label_form = word (codes "component") ▸ name_form ◂ word (codes "{")

-- "component" NAME "{" { action } "}"
abbrev pub component_form : ScriptFormOf ComponentForm
component_form = both (λ n xs. record { name = n; actions = xs }) (lifted label_form) actions_form

-- { component }
abbrev pub script_form : ScriptFormOf (List ComponentForm)
script_form = chain listed (fixed (codes "component")) (nothing []) component_form

-- A rule of circuits is read alike in scripts.
abbrev pub CircuitsAreReadAlike : Type 0
CircuitsAreReadAlike = (k : ℕ) (r : Rule) → reads script_rules k (of_circuit r) ≡ reads circuit_rules k r

-- A rule of circuits says the same in scripts.
abbrev pub CircuitsSayAlike : Type 0
CircuitsSayAlike = (k : ℕ) (r : Rule) (ts : List Lexeme) (x : tree_of r) → Within script_rules k (of_circuit r) ts x ↔ Within circuit_rules k r ts x
