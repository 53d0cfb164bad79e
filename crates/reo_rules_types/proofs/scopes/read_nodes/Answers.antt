-- One more node.
use Rattle.std.proofs.Common.{◌≡◌, ◌∙◌, ℕ, List, [], ◌++◌, ◌+◌, ◌<◌, get_or, take, length, refl, sym, ap, subst}
use Rattle.std.specs.List.{flat_map}
use Rattle.std.proofs.lemmas.List.{append-nil, append_assoc}
use Rattle.reo_trees.specs.declared.items.Item.{Item}
use Rattle.reo_trees.specs.declared.items.ItemForm.{ItemForm}
use Rattle.reo_trees.specs.declared.items.ItemForm.TheVariants as forms
use Rattle.reo_rules.specs.Lists.{has_name}
use Rattle.reo_rules.specs.Types.{Typed}
use Rattle.reo_rules.specs.Scopes.{node_types_in}
use Rattle.reo_rules_types.proofs.AfterLemmas.{more_flat}
use Rattle.reo_rules_types.proofs.Declared.{names_of-nodes}
use Rattle.reo_rules_types.specs.Scoped.{typed, AreKnown}
use Rattle.reo_rules_types.proofs.Kept.{keeps_both}
use Rattle.reo_rules_types.proofs.Scoped.{known_kept, typed_kept, names_typed}
use Rattle.reo_rules_types.proofs.Names.{new_node, keys_are, names_append}
use Rattle.reo_values.specs.declared.kindred.Kindred.{Kindred}
use Rattle.reo_trees.specs.declared.types.TypeTerm.{TypeTerm}
use Rattle.reo_rules_types.specs.Cells.{Keeps}
use Rattle.reo_rules_types.proofs.scopes.read_nodes.Goals as goal
use Rattle.reo_rules_types.proofs.scopes.read_nodes.Goals.{in-Node+in_ok-declare, in_default}

pub declare-requires-clause-new : goal.declare-requires-clause-new
declare-requires-clause-new c =
    let old = c.args.types.now in
    let known = typed old c.args.declared.now in
    let items = c.args.items.now in
    let i = c.loop-item.item-index in
    let before = flat_map (λ (j : Item). node_types_in known j.form) (take i items) in
    ap (λ ns. has_name ns c.in-Node.name)
    (keys_are c.loop-item.types c.loop-item.scope _ c.loop-item.invariant.2 ∙ names_append (typed old c.args.scope.now) before
    ∙ (λ k. (names_typed old c.args.scope.now ∙ c.requires.names) k ++ names_of-nodes known (take i items) k))
    ∙ new_node c.args.parameters.now items i c.item-item.result c.in-Node.name c.in-Node.term c.loop-item-test.true c.item-item.is c.in-Node.is c.requires.distinct

pub declare-requires-clause-known : goal.declare-requires-clause-known
declare-requires-clause-known c = known_kept c.args.types.now c.loop-item.types c.loop-item.invariant.0 c.args.declared.now c.requires.known

-- An item that is no node adds none.
no_node : (known : List Typed) (f : ItemForm) → ((x : List ℕ) (t : TypeTerm) → f ≡ forms.Node x t → ⊥) → node_types_in known f ≡ []
no_node known (forms.Node x t) not = absurd (not x t refl)
no_node known (forms.Joined channel first second) not = refl
no_node known (forms.Used name arguments) not = refl

-- What is in scope behind one more item.
grown : (start known known2 : List Typed) (items : List Item) (at : ℕ) (i : Item) → at < length items → i ≡ get_or items at i → known2 ≡ known → {here next : List Typed} → here ≡ start ++ flat_map (λ (j : Item). node_types_in known j.form) (take at items)
    → next ≡ here ++ node_types_in known2 i.form → next ≡ start ++ flat_map (λ (j : Item). node_types_in known j.form) (take (at + 1) items)
grown start known known2 items at i below is same {here} {next} before more =
    more ∙ (λ k. before k ++ node_types_in (same k) i.form) ∙ append_assoc start (flat_map (λ (j : Item). node_types_in known j.form) (take at items)) (node_types_in known i.form)
    ∙ ap (λ ts. start ++ ts) (more_flat (λ (j : Item). node_types_in known j.form) items at i below is)

pub loop-item-preserved : goal.loop-item-preserved
loop-item-preserved c =
    let old = c.args.types.now in
    let mid = c.loop-item.types in
    let es = c.args.declared.now in
    let known = typed old es in
    let items = c.args.items.now in
    let i = c.loop-item.item-index in
    let x = c.item-item.result in
    let inv = c.loop-item.invariant in
    let same = typed_kept old mid inv.0 es c.requires.known in
    elim c.match-item.branch [
      | in-Node+in_ok-declare w ↦
          let scope = w.in_ok-declare.ensures.scope ∙ ap (λ f. typed mid c.loop-item.scope ++ node_types_in (typed mid es) f) (sym w.in-Node.is) in
          subst (λ (p : List Kindred × List (List ℕ × ℕ)). Keeps old p.0 × AreKnown p.0 p.1 × (typed p.0 p.1 ≡ typed old c.args.scope.now ++ flat_map (λ (j : Item). node_types_in known j.form) (take (i + 1) items)))
          (λ k. (sym w.types-is k, sym w.scope-is k))
          (keeps_both old mid _ inv.0 w.in_ok-declare.ensures.keeps, w.in_ok-declare.ensures.known, grown (typed old c.args.scope.now) known (typed mid es) items i x c.loop-item-test.true c.item-item.is same inv.2 scope)
      | in_default w ↦
          let none = sym (append-nil (typed mid c.loop-item.scope)) ∙ ap (λ ts. typed mid c.loop-item.scope ++ ts) (sym (no_node (typed mid es) x.form w.in_default.not-Node)) in
          subst (λ (p : List Kindred × List (List ℕ × ℕ)). Keeps old p.0 × AreKnown p.0 p.1 × (typed p.0 p.1 ≡ typed old c.args.scope.now ++ flat_map (λ (j : Item). node_types_in known j.form) (take (i + 1) items)))
          (λ k. (sym w.types-is k, sym w.scope-is k))
          (inv.0, inv.1, grown (typed old c.args.scope.now) known (typed mid es) items i x c.loop-item-test.true c.item-item.is same inv.2 none)
    ]
