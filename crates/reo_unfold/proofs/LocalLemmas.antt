-- The names of a connector, and the types with which they are declared.
use Rattle.std.proofs.Common.{arith, ◌≡◌, ◌∙◌, ℕ, zero, suc, ◌+◌, ◌-◌, ◌<◌, ◌≤◌, List, [], ◌∷◌, ◌++◌, length, map, get_or, Bool, false, Option, Some, None, position, refl, sym, ap, bytes_eq}
use Rattle.std.specs.Prelude.{slice_get, option_map, unwrap_or}
use Rattle.std.specs.List.{flat_map}
use Rattle.std.proofs.lemmas.List.{length-append, length-map, map-append}
use Rattle.std.proofs.lemmas.Option.{slice_get-map, slice_get-get_or}
use Rattle.reo_values.specs.declared.kindred.Kindred.TheVariants as kinds
use Rattle.reo_unfold.proofs.Sequences.{left_none}
use Rattle.reo_trees.specs.declared.items.Item.{Item}
use Rattle.reo_trees.specs.declared.items.ItemForm.{ItemForm}
use Rattle.reo_trees.specs.declared.items.ItemForm.TheVariants as forms
use Rattle.reo_trees.specs.declared.programs.Parameter.{Parameter}
use Rattle.reo_trees.specs.declared.programs.Connector.{Connector}
use Rattle.reo_rules.specs.Lists.{each_after, has_name}
use Rattle.reo_rules.specs.Types.{Typed, names_of, type_named, resolved}
use Rattle.reo_rules.specs.Scopes.{parameter_names, node_names, parameter_type, node_types_in, scope_of}
use Rattle.reo_rules.specs.Twice.{twice_among, twice_in_item, twice_in_parameter}
use Rattle.reo_rules.proofs.Mapped.{position-map}
use Rattle.reo_unfold.proofs.AfterLemmas.{where_false}
use Rattle.reo_rules.proofs.Declared.{names_of-nodes, names_of-parameters}
use Rattle.reo_unfold.specs.Known.{shape_type}
use Rattle.reo_unfold.specs.Local.{node_place, IsNew, shape_in}
use Rattle.reo_unfold.proofs.ListLemmas.{slice_get-left, slice_get-right}
use Rattle.reo_unfold.proofs.Positions.{found_at, found_nowhere, found_within}

pub new_parameter : (before : List Parameter) (p : Parameter) → twice_in_parameter before p ≡ [] → has_name (parameter_names before) p.name ≡ false
new_parameter before p none = where_false _ _ (left_none (twice_among (parameter_names before) p.line p.name) _ none)

pub new_node : (ps : List Parameter) (before : List Item) (line : ℕ) (f : ItemForm) → twice_in_item ps before line f ≡ [] → IsNew (parameter_names ps ++ node_names before) f
new_node ps before line (forms.Node name term) none = where_false _ _ (left_none (twice_among (parameter_names ps ++ node_names before) line name) _ none)
new_node ps before line (forms.Joined channel first second) none = tt
new_node ps before line (forms.Used name arguments) none = tt

-- Names and types of a connector go together.

scope_names : (ts : List Typed) (c : Connector) → names_of (scope_of ts c) ≡ parameter_names c.parameters ++ node_names c.items
scope_names ts c =
    map-append (λ (e : Typed). e.name) (map (parameter_type ts) c.parameters) (flat_map (λ (i : Item). node_types_in ts i.form) c.items)
    ∙ (λ k. names_of-parameters ts c.parameters k ++ names_of-nodes ts c.items k)

-- A node by its number: the item that declares it.
pub record NodeAt (ts : List Typed) (b is : List Item) (m : ℕ) : Type 0 where
  pub place : ℕ
  pub at : slice_get (each_after (λ before (i : Item). node_place (length before) i.form) b is) m ≡ Some (length b + place)
  pub within : place < length is
  pub type : (d : Item) → option_map (λ (e : Typed). e.kindred) (slice_get (flat_map (λ (i : Item). node_types_in ts i.form) is) m) ≡ Some (shape_type ts (shape_in (get_or is place d).form))

behind : (ts : List Typed) (b is : List Item) (i : Item) (m : ℕ) → NodeAt ts (b ++ i ∷ []) is m → (q : ℕ) × (slice_get (each_after (λ before (i : Item). node_place (length before) i.form) (b ++ i ∷ []) is) m ≡ Some (length b + q)) × (q < length (i ∷ is)) × ((d : Item) → option_map (λ (e : Typed). e.kindred) (slice_get (flat_map (λ (i : Item). node_types_in ts i.form) is) m) ≡ Some (shape_type ts (shape_in (get_or (i ∷ is) q d).form)))
behind ts b is i m node =
    let long = length-append b (i ∷ []) in
    let same : length (b ++ i ∷ []) + node.place ≡ length b + suc node.place = omega arith in
    let within = node.within in
    (suc node.place, node.at ∙ ap Some same, omega arith, node.type)

abbrev Claim : (ts : List Typed) (b : List Item) (i : Item) (is : List Item) (f : ItemForm) (m : ℕ) → Type 0
Claim ts b i is f m =
    (q : ℕ) × (slice_get (node_place (length b) f ++ each_after (λ before (i : Item). node_place (length before) i.form) (b ++ i ∷ []) is) m ≡ Some (length b + q)) × (q < length (i ∷ is))
    × ((d : Item) → option_map (λ (e : Typed). e.kindred) (slice_get (node_types_in ts f ++ flat_map (λ (i : Item). node_types_in ts i.form) is) m) ≡ Some (shape_type ts (shape_in (get_or (i ∷ is) q d).form)))

claimed : (ts : List Typed) (b : List Item) (i : Item) (is : List Item) (f : ItemForm) → i.form ≡ f → (m : ℕ) → m < length (node_types_in ts f ++ flat_map (λ (i : Item). node_types_in ts i.form) is) → ((n : ℕ) → n < length (flat_map (λ (i : Item). node_types_in ts i.form) is) → NodeAt ts (b ++ i ∷ []) is n) → Claim ts b i is f m
claimed ts b i is (forms.Node name term) at zero within more =
    let same : length b ≡ length b + 0 = omega arith in
    (0, ap Some same, omega arith, λ d. ap (λ g. Some (shape_type ts (shape_in g))) (sym at))
claimed ts b i is (forms.Node name term) at (suc m) within more = behind ts b is i m (more m (omega arith))
claimed ts b i is (forms.Joined channel first second) at m within more = behind ts b is i m (more m within)
claimed ts b i is (forms.Used name arguments) at m within more = behind ts b is i m (more m within)

pub node_at : (ts : List Typed) (b is : List Item) (m : ℕ) → m < length (flat_map (λ (i : Item). node_types_in ts i.form) is) → NodeAt ts b is m
node_at ts b [] m within = absurd (omega arith)
node_at ts b (i ∷ is) m within =
    let claim = claimed ts b i is i.form refl m within (node_at ts (b ++ i ∷ []) is) in
    record { place = claim.0; at = claim.1; within = claim.2; type = claim.3 }

module _ (ts : List Typed) (c : Connector) (names : List (List ℕ)) (are : names ≡ parameter_names c.parameters ++ node_names c.items) (name : List ℕ) where
  abbrev sought : Typed → Bool
  sought e = bytes_eq name e.name

  number_in : position (bytes_eq name) names ≡ position sought (scope_of ts c)
  number_in = ap (position (bytes_eq name)) (are ∙ sym (scope_names ts c)) ∙ position-map (λ (e : Typed). e.name) (bytes_eq name) (scope_of ts c)

  type_at : (n : ℕ) → position (bytes_eq name) names ≡ Some n → type_named (scope_of ts c) name ≡ unwrap_or (option_map (λ (e : Typed). e.kindred) (slice_get (scope_of ts c) n)) kinds.Unit
  type_at n is = ap (λ (found : Option Typed). unwrap_or (option_map (λ (e : Typed). e.kindred) found) kinds.Unit) (found_at sought (scope_of ts c) n (sym number_in ∙ is))

  -- The type of a parameter.
  pub parameter_is : (n : ℕ) (d : Parameter) → position (bytes_eq name) names ≡ Some n → n < length c.parameters → type_named (scope_of ts c) name ≡ resolved ts (get_or c.parameters n d).term.shape
  parameter_is n d is within =
      let many = length-map c.parameters (parameter_type ts) in
      type_at n is
      ∙ ap (λ (found : Option Typed). unwrap_or (option_map (λ (e : Typed). e.kindred) found) kinds.Unit)
      (slice_get-left (map (parameter_type ts) c.parameters) _ n (omega arith) ∙ slice_get-map (parameter_type ts) c.parameters n ∙ ap (option_map (parameter_type ts)) (slice_get-get_or c.parameters n d within))

  -- The number of a node among the nodes.
  pub node_within : (n : ℕ) → position (bytes_eq name) names ≡ Some n → length c.parameters ≤ n → n - length c.parameters < length (flat_map (λ (i : Item). node_types_in ts i.form) c.items)
  node_within n is late =
      let within = found_within sought (scope_of ts c) n (sym number_in ∙ is) in
      let many = length-map c.parameters (parameter_type ts) in
      let long = length-append (map (parameter_type ts) c.parameters) (flat_map (λ (i : Item). node_types_in ts i.form) c.items) in
      omega arith

  -- The type of a node.
  pub node_is : (n : ℕ) (d : Item) (node : NodeAt ts [] c.items (n - length c.parameters)) → position (bytes_eq name) names ≡ Some n → length c.parameters ≤ n → type_named (scope_of ts c) name ≡ shape_type ts (shape_in (get_or c.items node.place d).form)
  node_is n d node is late =
      let many = length-map c.parameters (parameter_type ts) in
      type_at n is
      ∙ ap (λ (found : Option Typed). unwrap_or (option_map (λ (e : Typed). e.kindred) found) kinds.Unit)
      (slice_get-right (map (parameter_type ts) c.parameters) (flat_map (λ (i : Item). node_types_in ts i.form) c.items) n (omega arith) ∙ (λ k. slice_get (flat_map (λ (i : Item). node_types_in ts i.form) c.items) (n - many k)))
      ∙ ap (λ found. unwrap_or found kinds.Unit) (node.type d)

  pub nowhere_is : position (bytes_eq name) names ≡ None → type_named (scope_of ts c) name ≡ kinds.Unit
  nowhere_is is = ap (λ (found : Option Typed). unwrap_or (option_map (λ (e : Typed). e.kindred) found) kinds.Unit) (found_nowhere sought (scope_of ts c) (sym number_in ∙ is))
