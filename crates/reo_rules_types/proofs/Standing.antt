-- What is known of the declarations before a place, and of one more.
use Rattle.std.proofs.Common.{◌≡◌, ◌∙◌, ℕ, List, [], ◌∷◌, ◌++◌, false, map, sym, ap, subst}
use Rattle.std.proofs.lemmas.List.{map-append}
use Rattle.reo_values.specs.declared.kindred.Kindred.{Kindred}
use Rattle.reo_rules_types.proofs.Sequences.{left_none}
use Rattle.reo_trees.specs.declared.types.TypeTerm.{TypeTerm}
use Rattle.reo_trees.specs.declared.programs.Connector.{Connector}
use Rattle.reo_trees.specs.declared.programs.Declaration.{Declaration}
use Rattle.reo_trees.specs.declared.programs.Declaration.TheVariants as declarations
use Rattle.reo_trees.specs.declared.items.Item.{Item}
use Rattle.reo_rules.specs.Lists.{each_after, has_name}
use Rattle.reo_rules.specs.Names.{with_name}
use Rattle.reo_rules.specs.Types.{Typed, resolved, types_of}
use Rattle.reo_rules.specs.Scopes.{connectors_of, connector_names, parameter_names, node_names}
use Rattle.reo_rules.specs.Unknown.{unknown_in_item, unknown_in_connector}
use Rattle.reo_rules.proofs.Distinct.{noted_new}
use Rattle.reo_rules_types.specs.declared.known.Known.{Known}
use Rattle.reo_rules_types.specs.Cells.{Keeps}
use Rattle.reo_rules_types.specs.Scoped.{typed, AreKnown}
use Rattle.reo_rules_types.specs.Signed.{AreOf, parameter_types}
use Rattle.reo_rules_types.specs.Stands.{AreSigned, Stands}
use Rattle.reo_rules_types.proofs.Scoped.{typed_kept}
use Rattle.reo_rules_types.proofs.Settled.{all_settled}
use Rattle.reo_rules_types.proofs.Signed.{of_kept}
use Rattle.reo_rules_types.proofs.Signatures.{signed_kept, signed_more, signed_push, types_named, types_made, connectors_named, connectors_made}

-- With more types.
pub stands_kept : (ds : List Declaration) (old new : List Kindred) (known : Known) → Keeps old new → AreKnown old known.declared → Stands ds old known → Stands ds new known
stands_kept ds old new known keeps are stands = record {
  types_are = typed_kept old new keeps known.declared are ∙ stands.types_are;
  names_are = stands.names_are;
  signed = signed_kept old new keeps (types_of ds) known.signatures (connectors_of ds) stands.signed;
}

-- With one more declared type.
pub stands_named : (ds : List Declaration) (old new : List Kindred) (known : Known) (declared : List (List ℕ × ℕ)) (line : ℕ) (name : List ℕ) (term : TypeTerm) → Keeps old new → Stands ds old known
    → typed new declared ≡ typed old known.declared ++ record { name = name; kindred = resolved (typed old known.declared) term.shape } ∷ []
    → Stands (ds ++ declarations.Named line name term ∷ []) new (record { declared = declared; connectors = known.connectors; signatures = known.signatures })
stands_named ds old new known declared line name term keeps stands more = record {
  types_are = more ∙ (λ i. stands.types_are i ++ record { name = name; kindred = resolved (stands.types_are i) term.shape } ∷ []) ∙ sym (types_named ds line name term);
  names_are = stands.names_are ∙ ap (map (λ (c : Connector). c.name)) (sym (connectors_named ds line name term));
  signed =
      subst (λ (p : List Typed × List Connector). AreSigned new p.0 known.signatures p.1) (λ i. (sym (types_named ds line name term) i, sym (connectors_named ds line name term) i))
      (signed_more new (types_of ds) (record { name = name; kindred = resolved (types_of ds) term.shape } ∷ []) known.signatures (connectors_of ds) (signed_kept old new keeps (types_of ds) known.signatures (connectors_of ds) stands.signed));
}

-- With one more connector.
pub stands_made : (ds : List Declaration) (old mid new : List Kindred) (known : Known) (c : Connector) (names : List (List ℕ)) (signatures : List (List ℕ)) (numbers : List ℕ) (name : List ℕ)
    → AreKnown old known.declared → Keeps old mid → Keeps mid new → Keeps old new → Stands ds old known → AreOf mid numbers (parameter_types (typed old known.declared) c)
    → has_name (connector_names ds) c.name ≡ false → unknown_in_connector (types_of ds) (connector_names ds) c ≡ [] → name ≡ c.name → names ≡ with_name known.connectors name → signatures ≡ known.signatures ++ numbers ∷ []
    → Stands (ds ++ declarations.Made c ∷ []) new (record { declared = known.declared; connectors = names; signatures = signatures })
stands_made ds old mid new known c names signatures numbers name are first second both stands here fresh none same noting pushing = record {
  types_are = typed_kept old new both known.declared are ∙ stands.types_are ∙ sym (types_made ds c);
  names_are =
      noting ∙ ap (with_name known.connectors) same ∙ noted_new known.connectors c.name (ap (λ ns. has_name ns c.name) stands.names_are ∙ fresh)
      ∙ ap (λ ns. ns ++ c.name ∷ []) stands.names_are ∙ sym (map-append (λ (d : Connector). d.name) (connectors_of ds) (c ∷ [])) ∙ ap (map (λ (d : Connector). d.name)) (sym (connectors_made ds c));
  signed =
      subst (λ (p : List Typed × List Connector). AreSigned new p.0 signatures p.1) (λ i. (sym (types_made ds c) i, sym (connectors_made ds c) i))
      (subst (λ ss. AreSigned new (types_of ds) ss (connectors_of ds ++ c ∷ [])) (sym pushing)
      (signed_push new (types_of ds) known.signatures (connectors_of ds) numbers c (signed_kept old new both (types_of ds) known.signatures (connectors_of ds) stands.signed)
      (of_types (types_of ds) (sym stands.types_are))
      (all_settled (types_of ds) c.parameters (left_none _ (each_after (λ before (i : Item). unknown_in_item (types_of ds) (connector_names ds) (parameter_names c.parameters ++ node_names before) i.line i.form) [] c.items) none))));
}
  where
    of_types : (k : List Typed) → k ≡ typed old known.declared → AreOf new numbers (parameter_types k c)
    of_types k is = of_kept mid new second numbers (parameter_types k c) (subst (λ t. AreOf mid numbers (parameter_types t c)) (sym is) here)
