-- The types behind declarations, and the names of what is typed.
use Rattle.std.proofs.Common.{◌≡◌, ◌∙◌, ℕ, List, [], ◌∷◌, ◌++◌, Bool, true, false, cond, ◌||◌, Some, find, map, refl, sym, ap, bytes_eq}
use Rattle.std.specs.Prelude.{unwrap_or, option_map}
use Rattle.std.specs.List.{flat_map}
use Rattle.std.proofs.lemmas.List.{append-nil, append_assoc, map-append}
use Rattle.reo_values.specs.declared.kindred.Kindred.TheVariants as kinds
use Rattle.reo_trees.specs.declared.items.Item.{Item}
use Rattle.reo_trees.specs.declared.items.ItemForm.{ItemForm}
use Rattle.reo_trees.specs.declared.items.ItemForm.TheVariants as forms
use Rattle.reo_trees.specs.declared.programs.Parameter.{Parameter}
use Rattle.reo_trees.specs.declared.programs.Declaration.{Declaration}
use Rattle.reo_trees.specs.declared.programs.Declaration.TheVariants as declarations
use Rattle.reo_rules.specs.Lists.{has_name}
use Rattle.reo_rules.specs.Types.{Typed, names_of, type_named, resolved, types_after, types_of}
use Rattle.reo_rules.specs.Scopes.{type_names, parameter_names, parameter_type, node_names, node_names_in, node_types_in}

-- The types behind more declarations.
pub types_after-append : (known : List Typed) (xs ys : List Declaration) → types_after known (xs ++ ys) ≡ types_after (types_after known xs) ys
types_after-append known [] ys = refl
types_after-append known (declarations.Named line name term ∷ xs) ys = types_after-append (known ++ record { name = name; kindred = resolved known term.shape } ∷ []) xs ys
types_after-append known (declarations.Made c ∷ xs) ys = types_after-append known xs ys

-- The names of the declared types.
names_after : (known : List Typed) (ds : List Declaration) → names_of (types_after known ds) ≡ names_of known ++ type_names ds
names_after known [] = sym (append-nil (names_of known))
names_after known (declarations.Named line name term ∷ ds) =
    names_after (known ++ record { name = name; kindred = resolved known term.shape } ∷ []) ds ∙ ap (λ ns. ns ++ type_names ds) (map-append (λ (e : Typed). e.name) known _) ∙ append_assoc (names_of known) (name ∷ []) (type_names ds)
names_after known (declarations.Made c ∷ ds) = names_after known ds

pub names_of-types : (ds : List Declaration) → names_of (types_of ds) ≡ type_names ds
names_of-types ds = names_after [] ds

-- The names of typed parameters and nodes.
pub names_of-parameters : (known : List Typed) (ps : List Parameter) → names_of (map (parameter_type known) ps) ≡ parameter_names ps
names_of-parameters known [] = refl
names_of-parameters known (p ∷ ps) = ap (λ ns. p.name ∷ ns) (names_of-parameters known ps)

names_in : (known : List Typed) (f : ItemForm) → names_of (node_types_in known f) ≡ node_names_in f
names_in known (forms.Node name term) = refl
names_in known (forms.Joined channel first second) = refl
names_in known (forms.Used name arguments) = refl

pub names_of-nodes : (known : List Typed) (items : List Item) → names_of (flat_map (λ (i : Item). node_types_in known i.form) items) ≡ node_names items
names_of-nodes known [] = refl
names_of-nodes known (i ∷ is) =
    map-append (λ (e : Typed). e.name) (node_types_in known i.form) (flat_map (λ (j : Item). node_types_in known j.form) is)
    ∙ (λ k. names_in known i.form k ++ names_of-nodes known is k)

-- A known name means the same when more are known.
pub type_named-append : (known more : List Typed) (name : List ℕ) → has_name (names_of known) name ≡ true → type_named (known ++ more) name ≡ type_named known name
type_named-append [] more name has = absurd (cc)
type_named-append (e ∷ es) more name has = step (bytes_eq name e.name) has (type_named-append es more name) where
  step : (b : Bool) → (b || has_name (names_of es) name) ≡ true → (has_name (names_of es) name ≡ true → type_named (es ++ more) name ≡ type_named es name)
      → unwrap_or (option_map (λ (t : Typed). t.kindred) (cond b (Some e) (find (λ (t : Typed). bytes_eq name t.name) (es ++ more)))) kinds.Unit
      ≡ unwrap_or (option_map (λ (t : Typed). t.kindred) (cond b (Some e) (find (λ (t : Typed). bytes_eq name t.name) es))) kinds.Unit
  step true h rest = refl
  step false h rest = rest h
