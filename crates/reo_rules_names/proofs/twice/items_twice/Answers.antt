-- A node's name, and then its type. Other items declare nothing.
use Rattle.std.proofs.Common.{ℕ, ◌+◌, ◌<◌, length, get_or, refl, ◌≡◌, ◌∙◌, List, [], ◌++◌, take, subst, sym, ap}
use Rattle.std.proofs.lemmas.List.{append-nil, append_assoc}
use Rattle.reo_values.proofs.Sequences.{both_none}
use Rattle.reo_trees.specs.declared.types.TypeTerm.{TypeTerm}
use Rattle.reo_trees.specs.declared.programs.Parameter.{Parameter}
use Rattle.reo_trees.specs.declared.items.Item.{Item}
use Rattle.reo_trees.specs.declared.items.ItemForm.{ItemForm}
use Rattle.reo_trees.specs.declared.items.ItemForm.TheVariants as forms
use Rattle.reo_rules.specs.Scopes.{parameter_names, node_names, node_names_in}
use Rattle.reo_rules.specs.Twice.{twice_among, twice_in_type, twice_in_item}
use Rattle.reo_rules.specs.Judged.{IsFirst}
use Rattle.reo_rules_names.proofs.AfterLemmas.{judged_err, after_first, after_more, first_left, first_right, more_flat}
use Rattle.reo_rules_names.proofs.twice.items_twice.Goals as goal
use Rattle.reo_rules_names.proofs.twice.items_twice.Goals.{in-Node+in_ok-once+in_ok-type_twice, in_default}

-- An item that is no node declares none, and no name in it stands twice.
no_node : (f : ItemForm) → ((x : List ℕ) (t : TypeTerm) → f ≡ forms.Node x t → ⊥) → node_names_in f ≡ []
no_node (forms.Node x t) not = absurd (not x t refl)
no_node (forms.Joined channel first second) not = refl
no_node (forms.Used name arguments) not = refl

no_break : (ps : List Parameter) (before : List Item) (line : ℕ) (f : ItemForm) → ((x : List ℕ) (t : TypeTerm) → f ≡ forms.Node x t → ⊥) → twice_in_item ps before line f ≡ []
no_break ps before line (forms.Node x t) not = absurd (not x t refl)
no_break ps before line (forms.Joined channel first second) not = refl
no_break ps before line (forms.Used name arguments) not = refl

-- What was seen up to the next item.
grown : (ps : List Parameter) (items : List Item) (at : ℕ) (i : Item) → at < length items → i ≡ get_or items at i → {seen here : List (List ℕ)} → seen ≡ parameter_names ps ++ node_names (take at items) → node_names_in i.form ≡ here
    → seen ++ here ≡ parameter_names ps ++ node_names (take (at + 1) items)
grown ps items at i within is {seen} {here} before names =
    (λ k. before k ++ sym names k) ∙ append_assoc (parameter_names ps) (node_names (take at items)) (node_names_in i.form)
    ∙ ap (λ ns. parameter_names ps ++ ns) (more_flat (λ (j : Item). node_names_in j.form) items at i within is)

pub returns-in_err-once : goal.returns-in_err-once
returns-in_err-once c =
    let i = c.item-item.result in
    let ps = c.args.parameters.now in
    let before = take c.loop-item.item-index c.args.items.now in
    let fault = c.in_err-once.field-0.0 in
    let name = subst (λ seen. IsFirst (twice_among seen i.line c.in-Node.name) fault) c.loop-item.invariant.0 c.in_err-once.ensures.judged in
    let here = first_left _ (twice_in_type c.in-Node.term) fault name in
    judged_err c.from_residual.result fault _ c.from_residual.ensures
    (after_first (λ before (i : Item). twice_in_item ps before i.line i.form) [] c.args.items.now c.loop-item.item-index i fault c.loop-item-test.true c.item-item.is c.loop-item.invariant.1
    (subst (λ f. IsFirst (twice_in_item ps before i.line f) fault) (sym c.in-Node.is) here))

pub returns-in_err-type_twice : goal.returns-in_err-type_twice
returns-in_err-type_twice c =
    let i = c.item-item.result in
    let ps = c.args.parameters.now in
    let before = take c.loop-item.item-index c.args.items.now in
    let fault = c.in_err-type_twice.field-0.0 in
    let name = ap (λ seen. twice_among seen i.line c.in-Node.name) (sym c.loop-item.invariant.0) ∙ c.in_ok-once.ensures.judged in
    let here = first_right _ (twice_in_type c.in-Node.term) fault name c.in_err-type_twice.ensures in
    judged_err c.from_residual-in_err-type_twice.result fault _ c.from_residual-in_err-type_twice.ensures
    (after_first (λ before (i : Item). twice_in_item ps before i.line i.form) [] c.args.items.now c.loop-item.item-index i fault c.loop-item-test.true c.item-item.is c.loop-item.invariant.1
    (subst (λ f. IsFirst (twice_in_item ps before i.line f) fault) (sym c.in-Node.is) here))

pub loop-item-preserved : goal.loop-item-preserved
loop-item-preserved c =
    let i = c.item-item.result in
    let ps = c.args.parameters.now in
    let at = c.loop-item.item-index in
    let before = take at c.args.items.now in
    elim c.match-item.branch [
      | in-Node+in_ok-once+in_ok-type_twice w ↦
          let name = ap (λ seen. twice_among seen i.line w.in-Node.name) (sym c.loop-item.invariant.0) ∙ w.in_ok-once.ensures.judged in
          let here = ap (λ f. twice_in_item ps before i.line f) w.in-Node.is ∙ both_none _ (twice_in_type w.in-Node.term) name w.in_ok-type_twice.ensures in (
            w.seen-is ∙ w.in_ok-once.ensures.seen ∙ grown ps c.args.items.now at i c.loop-item-test.true c.item-item.is c.loop-item.invariant.0 (ap node_names_in w.in-Node.is),
            after_more (λ b (j : Item). twice_in_item ps b j.line j.form) [] c.args.items.now at i c.loop-item-test.true c.item-item.is c.loop-item.invariant.1 here,
          )
      | in_default w ↦
          let none = no_node i.form w.in_default.not-Node in (
            w.seen-is ∙ sym (append-nil _) ∙ grown ps c.args.items.now at i c.loop-item-test.true c.item-item.is c.loop-item.invariant.0 none,
            after_more (λ b (j : Item). twice_in_item ps b j.line j.form) [] c.args.items.now at i c.loop-item-test.true c.item-item.is c.loop-item.invariant.1 (no_break ps before i.line i.form w.in_default.not-Node),
          )
    ]
