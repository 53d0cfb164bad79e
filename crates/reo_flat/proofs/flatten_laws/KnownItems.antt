-- The channels that a connector's items place are at its arguments and its nodes.
use Rattle.std.proofs.Common.{◌≡◌, ◌∙◌, ℕ, List, [], ◌∷◌, ◌++◌, length, map, inl, inr, sym, ap, subst}
use Rattle.std.specs.List.{All, flat_map}
use Rattle.std.proofs.lemmas.List.{append-nil, length-map, map-append}
use Rattle.std.proofs.lemmas.List.Elements.{All-append}
use Rattle.std.proofs.lemmas.Bool.{eqb-true}
use Rattle.reo_trees.specs.declared.items.Item.{Item}
use Rattle.reo_trees.specs.declared.items.ItemForm.{ItemForm}
use Rattle.reo_trees.specs.declared.items.ItemForm.TheVariants as forms
use Rattle.reo_trees.specs.declared.programs.Parameter.{Parameter}
use Rattle.reo_trees.specs.declared.programs.Connector.{Connector}
use Rattle.reo_rules.specs.declared.fault.FlatFault.TheVariants as faults
use Rattle.reo_rules.specs.Lists.{each_after}
use Rattle.reo_rules.specs.Types.{Typed, type_named}
use Rattle.reo_flat.specs.ChannelKinds.{channel_kind}
use Rattle.reo_rules.specs.Scopes.{parameter_names, node_names, node_names_in}
use Rattle.reo_flat.specs.Unfolding.{Placed, Meaning, meaning_named, flat_name, use_path, nodes_in, channels_in}
use Rattle.reo_rules.specs.Unknown.{missing, unknown_in_item}
use Rattle.reo_rules.specs.Arity.{arity_in_item}
use Rattle.reo_flat.proofs.flatten_laws.Breaks.{holds, left_none, right_none, flat_map-append}
use Rattle.reo_flat.proofs.flatten_laws.Within.{In, in_left, in_right, in_either, Inside, none_inside, all_cons, widen, Matches, lookup, known_name, flat_known}

module _ (cs : List Connector) (ms : List Meaning) (matches : Matches cs ms) (declared types scope : List Typed) (connectors : List (List ℕ)) (path : List ℕ) (ps : List Parameter) (arguments : List (List ℕ)) (same : length arguments ≡ length ps) where
  -- The flat names of nodes with these names.
  abbrev own : List (List ℕ) → List (List ℕ)
  own names = map (λ n. path ++ n) names

  abbrev unknown_at : List Item → Item → List faults.the_data
  unknown_at before i = unknown_in_item declared connectors (parameter_names ps ++ node_names before) i.line i.form

  abbrev nodes_at : List Item → Item → List (List ℕ)
  nodes_at before i = nodes_in ms path before i.form

  abbrev channels_at : List Item → Item → List Placed
  channels_at before i = channels_in ms types scope path (flat_name path ps arguments) before i.form

  module _ (total : List (List ℕ)) (given : (n : List ℕ) → In arguments n → In total n) where
    -- A name that is known has its flat name among all.
    flat_there : (nodes : List (List ℕ)) → ((n : List ℕ) → In (own nodes) n → In total n) → (name : List ℕ) → In (parameter_names ps ++ nodes) name → In total (flat_name path ps arguments name)
    flat_there nodes mine name there = elim (in_either arguments (own nodes) _ (flat_known path ps arguments nodes name same there)) [ inl a ↦ given _ a | inr n ↦ mine _ n ]

    arguments_there : (nodes : List (List ℕ)) (line : ℕ) → ((name : List ℕ) → In nodes name → In total (flat_name path ps arguments name)) → (names : List (List ℕ)) → flat_map (missing nodes line) names ≡ []
        → (n : List ℕ) → In (map (flat_name path ps arguments) names) n → In total n
    arguments_there nodes line flat [] none n there = absurd there
    arguments_there nodes line flat (x ∷ xs) none n (inl is) = subst (In total) (sym is) (flat x (known_name nodes line x (left_none (missing nodes line x) _ none)))
    arguments_there nodes line flat (x ∷ xs) none n (inr rest) = arguments_there nodes line flat xs (right_none (missing nodes line x) _ none) n rest

    one_item : (before : List Item) (line : ℕ) (f : ItemForm) → ((n : List ℕ) → In (own (node_names before)) n → In total n) → ((n : List ℕ) → In (nodes_in ms path before f) n → In total n)
        → unknown_in_item declared connectors (parameter_names ps ++ node_names before) line f ≡ [] → arity_in_item cs line f ≡ [] → Inside total (channels_in ms types scope path (flat_name path ps arguments) before f)
    one_item before line (forms.Node name term) mine here none fits = none_inside _
    one_item before line (forms.Joined channel first second) mine here none fits =
        let nodes = parameter_names ps ++ node_names before in
        let two = left_none (missing nodes line first ++ missing nodes line second) _ none in
        let a = flat_there (node_names before) mine first (known_name nodes line first (left_none (missing nodes line first) _ two)) in
        let b = flat_there (node_names before) mine second (known_name nodes line second (right_none (missing nodes line first) _ two)) in
        let x = flat_name path ps arguments first in
        let y = flat_name path ps arguments second in
        let at_both : All (In total) (x ∷ y ∷ []) = all_cons (In total) x (y ∷ []) a (all_cons (In total) y [] b (none_inside (In total))) in
        let one : Placed = record { kind = channel_kind types (type_named scope first) channel; nodes = x ∷ y ∷ [] } in
        all_cons (λ (p : Placed). All (In total) p.nodes) one [] at_both (none_inside (λ (p : Placed). All (In total) p.nodes))
    one_item before line (forms.Used name names) mine here none fits =
        let nodes = parameter_names ps ++ node_names before in
        let count = eqb-true _ _ (holds _ _ fits) in
        let flat = flat_there (node_names before) mine in
        let passed = arguments_there nodes line flat names (right_none (missing connectors line name) _ none) in
        let used = meaning_named ms name in
        let inner = lookup cs ms matches name (use_path path before name) (map (flat_name path ps arguments) names) (length-map names (flat_name path ps arguments) ∙ count) in
        widen _ total _ (λ n there. elim (in_either (map (flat_name path ps arguments) names) (used.nodes (use_path path before name)) n there) [ inl a ↦ passed n a | inr m ↦ here n m ]) inner

    -- The node that an item declares is among those that it comes to.
    declared_here : (before : List Item) (f : ItemForm) (n : List ℕ) → In (own (node_names_in f)) n → In (nodes_in ms path before f) n
    declared_here before (forms.Node name term) n there = there
    declared_here before (forms.Joined channel first second) n there = absurd there
    declared_here before (forms.Used name names) n there = absurd there

    pub items_inside : (before items : List Item) → ((n : List ℕ) → In (own (node_names before)) n → In total n) → ((n : List ℕ) → In (each_after nodes_at before items) n → In total n)
        → each_after unknown_at before items ≡ [] → flat_map (λ (i : Item). arity_in_item cs i.line i.form) items ≡ [] → Inside total (each_after channels_at before items)
    items_inside before [] mine here none fits = none_inside _
    items_inside before (i ∷ is) mine here none fits =
        let mine' : (n : List ℕ) → In (own (node_names (before ++ i ∷ []))) n → In total n = λ n there. elim (in_either (own (node_names before)) (own (node_names_in i.form)) n (subst (λ ns. In ns n) (grown_names before i) there))
        [ inl a ↦ mine n a | inr b ↦ here n (in_left (nodes_at before i) _ n (declared_here before i.form n b)) ] in
        All-append (λ (p : Placed). All (In total) p.nodes) (channels_at before i) _
        (one_item before i.line i.form mine (λ n there. here n (in_left (nodes_at before i) _ n there)) (left_none (unknown_at before i) _ none) (left_none (arity_in_item cs i.line i.form) _ fits))
        (items_inside (before ++ i ∷ []) is mine' (λ n there. here n (in_right (nodes_at before i) _ n there)) (right_none (unknown_at before i) _ none) (right_none (arity_in_item cs i.line i.form) _ fits)) where
          grown_names : (b : List Item) (j : Item) → own (node_names (b ++ j ∷ [])) ≡ own (node_names b) ++ own (node_names_in j.form)
          grown_names b j =
              ap own (flat_map-append (λ (k : Item). node_names_in k.form) b (j ∷ []) ∙ ap (λ ns. node_names b ++ ns) (append-nil (node_names_in j.form)))
              ∙ map-append (λ n. path ++ n) (node_names b) (node_names_in j.form)
