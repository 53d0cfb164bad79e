-- Where no name stands twice, each stands once.
use Rattle.std.proofs.Common.{◌≡◌, ◌∙◌, ℕ, List, [], ◌∷◌, ◌++◌, Bool, true, false, inl, inr, sym, ap, subst}
use Rattle.std.proofs.lemmas.List.{append-nil, append_assoc, map-append}
use Rattle.reo_trees.specs.declared.items.Item.{Item}
use Rattle.reo_trees.specs.declared.items.ItemForm.{ItemForm}
use Rattle.reo_trees.specs.declared.items.ItemForm.TheVariants as forms
use Rattle.reo_trees.specs.declared.programs.Parameter.{Parameter}
use Rattle.reo_trees.specs.declared.programs.Connector.{Connector}
use Rattle.reo_rules.specs.declared.fault.FlatFault.{FlatFault}
use Rattle.reo_rules.specs.declared.fault.FlatFault.TheVariants as faults
use Rattle.reo_rules.specs.Lists.{each_after, has_name, where_true}
use Rattle.reo_rules.specs.Scopes.{parameter_names, node_names, node_names_in}
use Rattle.reo_rules.specs.Twice.{twice_among, twice_in_type, twice_in_parameter, twice_in_item, twice_in_connector}
use Rattle.reo_flat.proofs.flatten_laws.Breaks.{left_none, right_none, flat_map-append}
use Rattle.reo_flat.proofs.flatten_laws.Within.{In, in-has}
use Rattle.reo_flat.proofs.flatten_laws.Once.{Once, once_append}

lacks : (b : Bool) (f : FlatFault) → where_true b f ≡ [] → b ≡ true → ⊥
lacks true f none is = cc
lacks false f none is = cc

-- A name that is not among those before may be put behind them.
pub new_name : (names : List (List ℕ)) (line : ℕ) (name : List ℕ) → Once names → twice_among names line name ≡ [] → Once (names ++ name ∷ [])
new_name names line name once none =
    once_append names (name ∷ []) once ((λ no'. no'), tt) (λ n there same. lacks (has_name names name) (faults.Twice line name) none (in-has names name (moved n there same))) where
      moved : (n : List ℕ) → In names n → In (name ∷ []) n → In names name
      moved n there (inl is) = subst (In names) is there
      moved n there (inr no') = absurd no'

parameters_once : (before ps : List Parameter) → Once (parameter_names before) → each_after twice_in_parameter before ps ≡ [] → Once (parameter_names (before ++ ps))
parameters_once before [] once none = subst (λ b. Once (parameter_names b)) (sym (append-nil before)) once
parameters_once before (p ∷ ps) once none =
    let here = left_none (twice_in_parameter before p) _ none in
    let more = new_name (parameter_names before) p.line p.name once (left_none (twice_among (parameter_names before) p.line p.name) (twice_in_type p.term) here) in
    let grown = subst Once (sym (map-append (λ (q : Parameter). q.name) before (p ∷ []))) more in
    subst (λ b. Once (parameter_names b)) (append_assoc before (p ∷ []) ps) (parameters_once (before ++ p ∷ []) ps grown (right_none (twice_in_parameter before p) _ none))

-- The names behind one more item.
names_behind : (before : List Item) (i : Item) → node_names (before ++ i ∷ []) ≡ node_names before ++ node_names_in i.form
names_behind before i = flat_map-append (λ (k : Item). node_names_in k.form) before (i ∷ []) ∙ ap (λ ns. node_names before ++ ns) (append-nil (node_names_in i.form))

one_behind : (ps : List Parameter) (before : List Item) (line : ℕ) (f : ItemForm) → Once (parameter_names ps ++ node_names before) → twice_in_item ps before line f ≡ [] → Once ((parameter_names ps ++ node_names before) ++ node_names_in f)
one_behind ps before line (forms.Node name term) once none = new_name (parameter_names ps ++ node_names before) line name once (left_none (twice_among (parameter_names ps ++ node_names before) line name) (twice_in_type term) none)
one_behind ps before line (forms.Joined channel first second) once none = subst Once (sym (append-nil (parameter_names ps ++ node_names before))) once
one_behind ps before line (forms.Used name names) once none = subst Once (sym (append-nil (parameter_names ps ++ node_names before))) once

nodes_once : (ps : List Parameter) (before items : List Item) → Once (parameter_names ps ++ node_names before) → each_after (λ b (i : Item). twice_in_item ps b i.line i.form) before items ≡ [] → Once (parameter_names ps ++ node_names (before ++ items))
nodes_once ps before [] once none = subst (λ b. Once (parameter_names ps ++ node_names b)) (sym (append-nil before)) once
nodes_once ps before (i ∷ is) once none =
    let more = one_behind ps before i.line i.form once (left_none (twice_in_item ps before i.line i.form) _ none) in
    let grown = subst Once (append_assoc (parameter_names ps) (node_names before) (node_names_in i.form) ∙ ap (λ ns. parameter_names ps ++ ns) (sym (names_behind before i))) more in
    subst (λ b. Once (parameter_names ps ++ node_names b)) (append_assoc before (i ∷ []) is)
    (nodes_once ps (before ++ i ∷ []) is grown (right_none (twice_in_item ps before i.line i.form) _ none))

pub names_once : (c : Connector) → twice_in_connector c ≡ [] → Once (parameter_names c.parameters ++ node_names c.items)
names_once c none =
    let first = each_after twice_in_parameter [] c.parameters in
    let ps = parameters_once [] c.parameters tt (left_none first _ none) in
    nodes_once c.parameters [] c.items (subst Once (sym (append-nil (parameter_names c.parameters))) ps) (right_none first _ none)
