-- Lists with the same names leave the same names unknown.
use Rattle.std.proofs.Common.{◌≡◌, ◌∙◌, ℕ, ◌+◌, ◌<◌, List, [], ◌∷◌, ◌++◌, take, length, get_or, refl, sym, ap, subst}
use Rattle.std.specs.List.{flat_map}
use Rattle.std.specs.Prelude.{map}
use Rattle.std.proofs.lemmas.List.{append-nil, map-append, take_more}
use Rattle.reo_trees.specs.declared.types.Shape as shape
use Rattle.reo_trees.specs.declared.types.Shape.{Shape}
use Rattle.reo_trees.specs.declared.types.TypeTerm.{TypeTerm}
use Rattle.reo_trees.specs.declared.items.ItemForm.{ItemForm}
use Rattle.reo_trees.specs.declared.items.ItemForm.TheVariants as forms
use Rattle.reo_trees.specs.declared.programs.Parameter.{Parameter}
use Rattle.reo_trees.specs.declared.programs.Connector.{Connector}
use Rattle.reo_trees.specs.declared.programs.Declaration.{Declaration}
use Rattle.reo_trees.specs.declared.programs.Declaration.TheVariants as declarations
use Rattle.reo_rules.specs.Types.{Typed, resolved, parts_of, types_of, types_after}
use Rattle.reo_rules.specs.Unknown.{unknown_in_part, unknown_in_channel, unknown_in_item, unknown_in}
use Rattle.reo_rules.specs.declared.fault.FlatFault.{FlatFault}
use Rattle.reo_rules.specs.Lists.{each_after, has_name}
use Rattle.reo_rules.specs.Names.{with_name}
use Rattle.reo_rules.specs.Scopes.{connectors_of, connectors_in, connector_names}
use Rattle.reo_rules.specs.Judged.{IsFirst}
use Rattle.reo_rules_names.proofs.AfterLemmas.{after_more, after_first, more_flat}
use Rattle.reo_rules_names.specs.declared.types.DeclaredTypes.{DeclaredTypes}
use Rattle.reo_rules_names.specs.SameNames.{SameNames}
use Rattle.reo_rules_names.specs.Symbols.{AreTypes}
use Rattle.reo_rules_names.proofs.SameLemmas.{same_noted}
use Rattle.reo_rules_names.proofs.PartLemmas.{unknown_parts}
use Rattle.reo_rules_names.proofs.SymbolLemmas.{missing-same}

module _ (xs ys : List (List ℕ)) (same : SameNames xs ys) where
  part_same : (line : ℕ) (s : Shape) → unknown_in_part xs line s ≡ unknown_in_part ys line s
  part_same line shape.Unit = refl
  part_same line shape.Bool = refl
  part_same line (shape.Int low high) = refl
  part_same line (shape.Sym names) = refl
  part_same line (shape.Text most) = refl
  part_same line (shape.Pair' m p) = refl
  part_same line (shape.Named name) = missing-same xs ys line name same

  pub unknown_parts-same : (line : ℕ) (s : Shape) → unknown_parts xs line s ≡ unknown_parts ys line s
  unknown_parts-same line s = λ i. flat_map (λ (part : TypeTerm). part_same part.line part.shape i) (parts_of line s)

  pub types_same : (ps : List Parameter) → flat_map (λ (p : Parameter). unknown_parts xs p.term.line p.term.shape) ps ≡ flat_map (λ (p : Parameter). unknown_parts ys p.term.line p.term.shape) ps
  types_same ps = λ i. flat_map (λ (p : Parameter). unknown_parts-same p.term.line p.term.shape i) ps

pub item_same : (known : List Typed) (cs ds ns ms : List (List ℕ)) (line : ℕ) (f : ItemForm) → SameNames cs ds → SameNames ns ms → unknown_in_item known cs ns line f ≡ unknown_in_item known ds ms line f
item_same known cs ds ns ms line (forms.Node name term) connectors nodes = refl
item_same known cs ds ns ms line (forms.Joined channel first second) connectors nodes =
    λ i. missing-same ns ms line first nodes i ++ missing-same ns ms line second nodes i ++ unknown_in_channel known channel
item_same known cs ds ns ms line (forms.Used name arguments) connectors nodes =
    λ i. missing-same cs ds line name connectors i ++ flat_map (λ a. missing-same ns ms line a nodes i) arguments

-- The types that a declaration adds.
abbrev pub types_in : List Typed → Declaration → List Typed
types_in known (declarations.Named line name term) = record { name = name; kindred = resolved known term.shape } ∷ []
types_in known (declarations.Made k) = []

types_after-push : (known : List Typed) (ds : List Declaration) (d : Declaration) → types_after known (ds ++ d ∷ []) ≡ types_after known ds ++ types_in (types_after known ds) d
types_after-push known [] (declarations.Named line name term) = refl
types_after-push known [] (declarations.Made k) = sym (append-nil known)
types_after-push known (declarations.Named line name term ∷ ds) d = types_after-push (known ++ record { name = name; kindred = resolved known term.shape } ∷ []) ds d
types_after-push known (declarations.Made k ∷ ds) d = types_after-push known ds d

pub types_of-push : (ds : List Declaration) (d : Declaration) → types_of (ds ++ d ∷ []) ≡ types_of ds ++ types_in (types_of ds) d
types_of-push ds d = types_after-push [] ds d

-- The tables have the types and the names of the connectors of these declarations, and none of them breaks the rule.
pub record Knows (ds : List Declaration) (types : DeclaredTypes) (connectors : List (List ℕ)) : Type 0 where
  pub types_are : AreTypes (types_of ds) types
  pub connectors_are : SameNames connectors (connector_names ds)
  pub unbroken : each_after unknown_in [] ds ≡ []

module _ (ds : List Declaration) (i : ℕ) (d : Declaration) (below : i < length ds) (is : d ≡ get_or ds i d) (types : DeclaredTypes) (connectors : List (List ℕ)) (knows : Knows (take i ds) types connectors) where
  one_more : take i ds ++ d ∷ [] ≡ take (i + 1) ds
  one_more = ap (λ x. take i ds ++ x ∷ []) is ∙ sym (take_more ds i d below)

  more_names : {names : List (List ℕ)} → map (λ (k : Connector). k.name) (connectors_in d) ≡ names → connector_names (take i ds) ++ names ≡ connector_names (take (i + 1) ds)
  more_names here =
      ap (λ ns. connector_names (take i ds) ++ ns) (sym here) ∙ sym (map-append (λ (k : Connector). k.name) (connectors_of (take i ds)) (connectors_in d)) ∙ ap (map (λ (k : Connector). k.name)) (more_flat connectors_in ds i d below is)

  -- After a type that names nothing unknown and was put into the table.
  pub type_known : (line : ℕ) (name : List ℕ) (term : TypeTerm) (next : DeclaredTypes) → d ≡ declarations.Named line name term → unknown_in (take i ds) (declarations.Named line name term) ≡ []
      → ((known : List Typed) → AreTypes known types → AreTypes (known ++ record { name = name; kindred = resolved known term.shape } ∷ []) next) → Knows (take (i + 1) ds) next connectors
  type_known line name term next made none put =
      record {
        types_are =
            subst (λ ts. AreTypes ts next) (ap (λ x. types_of (take i ds) ++ types_in (types_of (take i ds)) x) (sym made) ∙ sym (types_of-push (take i ds) d) ∙ ap types_of one_more)
            (put (types_of (take i ds)) knows.types_are);
        connectors_are = subst (SameNames connectors) (sym (append-nil (connector_names (take i ds))) ∙ more_names (ap (λ x. map (λ (k : Connector). k.name) (connectors_in x)) made)) knows.connectors_are;
        unbroken = after_more unknown_in [] ds i d below is knows.unbroken (ap (unknown_in (take i ds)) made ∙ none);
      }

  -- After a connector that names nothing unknown and whose name was noted.
  pub connector_known : (k : Connector) (names : List (List ℕ)) → d ≡ declarations.Made k → unknown_in (take i ds) (declarations.Made k) ≡ [] → names ≡ with_name connectors k.name → Knows (take (i + 1) ds) types names
  connector_known k names made none noted =
      record {
        types_are =
            subst (λ ts. AreTypes ts types) (sym (append-nil (types_of (take i ds))) ∙ ap (λ x. types_of (take i ds) ++ types_in (types_of (take i ds)) x) (sym made) ∙ sym (types_of-push (take i ds) d) ∙ ap types_of one_more) knows.types_are;
        connectors_are = λ n.
            ap (λ ns. has_name ns n) noted ∙ same_noted connectors (connector_names (take i ds)) k.name knows.connectors_are n
            ∙ ap (λ ns. has_name ns n) (more_names (ap (λ x. map (λ (q : Connector). q.name) (connectors_in x)) made));
        unbroken = after_more unknown_in [] ds i d below is knows.unbroken (ap (unknown_in (take i ds)) made ∙ none);
      }

  -- The first break of a declaration is the first of all.
  pub unknown_first : (x : Declaration) (fault : FlatFault) → d ≡ x → IsFirst (unknown_in (take i ds) x) fault → IsFirst (each_after unknown_in [] ds) fault
  unknown_first x fault made here =
      after_first unknown_in [] ds i d fault below is knows.unbroken (subst (λ y. IsFirst (unknown_in (take i ds) y) fault) (sym made) here)
