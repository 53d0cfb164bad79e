-- What a program places fits the types of its nodes, declaration by declaration.
use Rattle.std.proofs.Common.{◌≡◌, ◌∙◌, ℕ, List, [], ◌∷◌, ◌++◌, inl, inr, refl, sym, ap, subst}
use Rattle.std.specs.List.{AllByRecursion, flat_map}
use Rattle.std.proofs.lemmas.List.{append-nil, append_assoc}
use Rattle.reo_values.specs.declared.kindred.Kindred.{Kindred}
use Rattle.reo_values.specs.Valid.{IsValid}
use Rattle.reo_trees.specs.declared.items.Item.{Item}
use Rattle.reo_trees.specs.declared.items.ItemForm.{ItemForm}
use Rattle.reo_trees.specs.declared.items.ItemForm.TheVariants as forms
use Rattle.reo_trees.specs.declared.programs.Parameter.{Parameter}
use Rattle.reo_trees.specs.declared.programs.Connector.{Connector}
use Rattle.reo_trees.specs.declared.programs.Declaration.{Declaration}
use Rattle.reo_trees.specs.declared.programs.Declaration.TheVariants as declarations
use Rattle.reo_syntax_laws.specs.trees_laws.Spelled.{IsSpelledItem, IsSpelledParameter, IsSpelledConnector, IsSpelledDeclaration}
use Rattle.reo_rules.specs.Lists.{each_after}
use Rattle.reo_rules.specs.Types.{Typed, names_of, types_of, types_after, resolved}
use Rattle.reo_rules.specs.Scopes.{type_names, connectors_of, connector_names, parameter_names, node_names, node_names_in, node_types_in}
use Rattle.reo_rules.specs.Twice.{twice_among, twice_in_type, twice_in_parameter, twice_in_connector, twice_in}
use Rattle.reo_rules.specs.Unknown.{unknown_in_type, unknown_in_connector, unknown_in}
use Rattle.reo_rules.specs.Mistyped.{mistyped_in}
use Rattle.reo_rules.specs.Ranges.{range_in_type, range_in_connector, range_in}
use Rattle.reo_rules.specs.Arity.{arity_in}
use Rattle.reo_flat.specs.Unfolding.{Meaning, meaning_of, meanings_after}
use Rattle.reo_flat.specs.flatten_laws.NodeTypes.{Typing, typed_in, typing_of, typings_after}
use Rattle.reo_flat.proofs.flatten_laws.Breaks.{left_none, right_none, one_more}
use Rattle.reo_flat.proofs.flatten_laws.Each.{by_recursion, both}
use Rattle.reo_flat.proofs.flatten_laws.Within.{In}
use Rattle.reo_flat.proofs.flatten_laws.TypesGrow.{parameters_stay, one_more_type}
use Rattle.reo_flat.proofs.flatten_laws.Validity.{AreValid, valid_type}
use Rattle.reo_flat.proofs.flatten_laws.TypedNodes.{all_left, all_right, HasTypes, IsWellTyped, AreWellTyped, all_on, grown_by, valid_items, items_fit}

-- No break of these rules, behind these declarations.
pub record Kept (before ds : List Declaration) : Type 0 where
  pub once : each_after twice_in before ds ≡ []
  pub known : each_after unknown_in before ds ≡ []
  pub typed : each_after mistyped_in before ds ≡ []
  pub bound : each_after range_in before ds ≡ []
  pub fit : each_after arity_in before ds ≡ []

kept_rest : (before : List Declaration) (d : Declaration) (ds : List Declaration) → Kept before (d ∷ ds) → Kept (before ++ d ∷ []) ds
kept_rest before d ds kept = record {
  once = right_none (twice_in before d) _ kept.once;
  known = right_none (unknown_in before d) _ kept.known;
  typed = right_none (mistyped_in before d) _ kept.typed;
  bound = right_none (range_in before d) _ kept.bound;
  fit = right_none (arity_in before d) _ kept.fit;
}

valid_parameters : (types : List Typed) → AreValid types → (before ps : List Parameter) → AllByRecursion IsSpelledParameter ps → each_after twice_in_parameter before ps ≡ [] → flat_map (λ (p : Parameter). range_in_type types p.term) ps ≡ []
    → AllByRecursion (λ (p : Parameter). IsValid (resolved types p.term.shape)) ps
valid_parameters types valid before [] spelled once bound = tt
valid_parameters types valid before (p ∷ ps) spelled once bound = (
  valid_type types valid p.term spelled.0.1 (right_none (twice_among (parameter_names before) p.line p.name) (twice_in_type p.term) (left_none (twice_in_parameter before p) _ once)) (left_none (range_in_type types p.term) _ bound),
  valid_parameters types valid (before ++ p ∷ []) ps spelled.1 (right_none (twice_in_parameter before p) _ once) (right_none (range_in_type types p.term) _ bound),
)

-- The nodes of a connector with their types, without the path.
abbrev own_of : List Typed → List Item → List Typed
own_of types items = flat_map (λ (i : Item). node_types_in types i.form) items

own_have : (ts : List Typing) (types : List Typed) (path : List ℕ) (T : List ℕ → Kindred) (before items : List Item) → HasTypes T (each_after (λ b (i : Item). typed_in ts types path b i.form) before items)
    → AllByRecursion (λ (e : Typed). T (path ++ e.name) ≡ e.kindred) (own_of types items)
own_have ts types path T before [] has = tt
own_have ts types path T before (i ∷ is) has =
    both (λ (e : Typed). T (path ++ e.name) ≡ e.kindred) (node_types_in types i.form) (own_of types is)
    (one i.form (all_left (λ (e : Typed). T e.name ≡ e.kindred) (typed_in ts types path before i.form) _ has)) (own_have ts types path T (before ++ i ∷ []) is (all_right (λ (e : Typed). T e.name ≡ e.kindred) (typed_in ts types path before i.form) _ has)) where
      one : (f : ItemForm) → HasTypes T (typed_in ts types path before f) → AllByRecursion (λ (e : Typed). T (path ++ e.name) ≡ e.kindred) (node_types_in types f)
      one (forms.Node name term) here = here
      one (forms.Joined channel first second) here = tt
      one (forms.Used name arguments) here = tt

own_named : (types : List Typed) (items : List Item) (n : List ℕ) → In (node_names items) n → In (names_of (own_of types items)) n
own_named types [] n there = there
own_named types (i ∷ is) n there = one i.form there (own_named types is n) where
  one : (f : ItemForm) → In (node_names_in f ++ node_names is) n → (In (node_names is) n → In (names_of (own_of types is)) n) → In (names_of (node_types_in types f ++ own_of types is)) n
  one (forms.Node name term) (inl here) rest = inl here
  one (forms.Node name term) (inr later) rest = inr (rest later)
  one (forms.Joined channel first second) later rest = rest later
  one (forms.Used name arguments) later rest = rest later

connector_typed : (before : List Declaration) (ms : List Meaning) (ts : List Typing) → AreWellTyped (types_of before) (connectors_of before) ms ts → AreValid (types_of before) → (c : Connector) → IsSpelledConnector c
    → twice_in_connector c ≡ [] → unknown_in_connector (types_of before) (connector_names before) c ≡ [] → mistyped_in before (declarations.Made c) ≡ [] → range_in_connector (types_of before) c ≡ [] → arity_in before (declarations.Made c) ≡ []
    → IsWellTyped (types_of before) c.parameters (meaning_of ms (types_of before) c) (typing_of ts (types_of before) c)
connector_typed before ms ts all valid c spelled once known typed bound fit =
    let types = types_of before in
    let cs = connectors_of before in
    let ps = c.parameters in
    let own = own_of types c.items in
    let items = by_recursion IsSpelledItem c.items spelled.items in
    let first = each_after twice_in_parameter [] ps in
    let unknown = flat_map (λ (p : Parameter). unknown_in_type (names_of types) p.term) ps in
    let out = flat_map (λ (p : Parameter). range_in_type types p.term) ps in
    record {
      stays = parameters_stay types ps (left_none unknown _ known);
      parameters = valid_parameters types valid [] ps (by_recursion IsSpelledParameter ps spelled.parameters) (left_none first _ once) (left_none out _ bound);
      nodes = λ path. valid_items cs ms ts types all valid (connector_names before) own ps path [] c.items items (right_none first _ once) (right_none out _ bound);
      fits = λ path arguments T same given nodes.
          items_fit cs ms ts types all valid (connector_names before) own ps path arguments T same given (own_have ts types path T [] c.items nodes) [] c.items (λ n there. own_named types c.items n there) items
          (right_none unknown _ known) typed (right_none out _ bound) fit nodes;
    }

pub all_typed : (before ds : List Declaration) (ms : List Meaning) (ts : List Typing) (types : List Typed) → types_of before ≡ types → AreValid types → AreWellTyped types (connectors_of before) ms ts → Kept before ds
    → AllByRecursion IsSpelledDeclaration ds → AreWellTyped (types_of (before ++ ds)) (connectors_of (before ++ ds)) (meanings_after ms types ds) (typings_after ts types ds)
all_typed before [] ms ts types is valid all kept spelled =
    subst (λ (b : List Declaration). AreWellTyped (types_of b) (connectors_of b) ms ts) (sym (append-nil before)) (subst (λ z. AreWellTyped z (connectors_of before) ms ts) (sym is) all)
all_typed before (declarations.Named line name term ∷ ds) ms ts types is valid all kept spelled =
    let d = declarations.Named line name term in
    let e : Typed = record { name = name; kindred = resolved types term.shape } in
    let bound = subst (λ z. range_in_type z term ≡ []) is (left_none (range_in before d) _ kept.bound) in
    let once = right_none (twice_among (type_names before) line name) (twice_in_type term) (left_none (twice_in before d) _ kept.once) in
    let one = valid_type types valid term spelled.0.1 once bound in
    let more = both (λ (t : Typed). IsValid t.kindred) types (e ∷ []) valid (one, tt) in
    let behind = one_more before d ∙ append-nil (connectors_of before) in
    let all' = subst (λ cs. AreWellTyped (types ++ e ∷ []) cs ms ts) (sym behind) (all_on types e (connectors_of before) ms ts all) in
    subst (λ (b : List Declaration). AreWellTyped (types_of b) (connectors_of b) (meanings_after ms types (d ∷ ds)) (typings_after ts types (d ∷ ds))) (append_assoc before (d ∷ []) ds)
    (all_typed (before ++ d ∷ []) ds ms ts (types ++ e ∷ []) (one_more_type before d ∙ ap (λ z. types_after z (d ∷ [])) is) more all' (kept_rest before d ds kept) spelled.1)
all_typed before (declarations.Made c ∷ ds) ms ts types is valid all kept spelled =
    let d = declarations.Made c in
    let m = meaning_of ms types c in
    let t = typing_of ts types c in
    let first = subst (λ z. AreWellTyped z (connectors_of before) ms ts) (sym is) all in
    let one = connector_typed before ms ts first (subst AreValid (sym is) valid) c spelled.0 (right_none (twice_among (connector_names before) c.line c.name) (twice_in_connector c) (left_none (twice_in before d) _ kept.once))
    (left_none (unknown_in before d) _ kept.known) (left_none (mistyped_in before d) _ kept.typed) (left_none (range_in before d) _ kept.bound) (left_none (arity_in before d) _ kept.fit) in
    let here = subst (λ z. IsWellTyped z c.parameters (meaning_of ms z c) (typing_of ts z c)) is one in
    let all' = subst (λ cs. AreWellTyped types cs (ms ++ m ∷ []) (ts ++ t ∷ [])) (sym (one_more before d)) (grown_by types (connectors_of before) ms ts c m t all refl refl here) in
    subst (λ (b : List Declaration). AreWellTyped (types_of b) (connectors_of b) (meanings_after ms types (d ∷ ds)) (typings_after ts types (d ∷ ds))) (append_assoc before (d ∷ []) ds)
    (all_typed (before ++ d ∷ []) ds (ms ++ m ∷ []) (ts ++ t ∷ []) types (one_more_type before d ∙ is) valid all' (kept_rest before d ds kept) spelled.1)
