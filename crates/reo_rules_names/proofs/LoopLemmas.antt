-- Declarations one after another, with a table of the connectors so far.
use Rattle.std.proofs.Common.{◌≡◌, ◌∙◌, ℕ, ◌+◌, ◌<◌, List, [], ◌∷◌, ◌++◌, take, length, get_or, refl, sym, ap, subst}
use Rattle.std.proofs.lemmas.List.{append-nil}
use Rattle.reo_trees.specs.declared.types.TypeTerm.{TypeTerm}
use Rattle.reo_trees.specs.declared.programs.Connector.{Connector}
use Rattle.reo_trees.specs.declared.programs.Declaration.{Declaration}
use Rattle.reo_trees.specs.declared.programs.Declaration.TheVariants as declarations
use Rattle.reo_rules.specs.declared.fault.FlatFault.{FlatFault}
use Rattle.reo_rules.specs.Lists.{each_after}
use Rattle.reo_rules.specs.Scopes.{connectors_of, connectors_in}
use Rattle.reo_rules.specs.Judged.{IsFirst}
use Rattle.reo_rules_names.proofs.AfterLemmas.{after_more, after_first, more_flat}
use Rattle.reo_rules_names.specs.declared.connectors.Connectors.{Connectors}
use Rattle.reo_rules_names.specs.Connectors.{AreConnectors}

-- The table has the connectors of these declarations, and none of them breaks the rule.
pub record Keeps (rule : List Declaration → Declaration → List FlatFault) (ds : List Declaration) (table : Connectors) : Type 0 where
  pub connectors : AreConnectors (connectors_of ds) table
  pub unbroken : each_after rule [] ds ≡ []

-- No connector: a type.
no_connector : (d : Declaration) → ((k : Connector) → d ≡ declarations.Made k → ⊥) → connectors_in d ≡ []
no_connector (declarations.Named line name term) not = refl
no_connector (declarations.Made k) not = absurd (not k refl)

module _ (rule : List Declaration → Declaration → List FlatFault) (ds : List Declaration) (i : ℕ) (d : Declaration) (below : i < length ds) (is : d ≡ get_or ds i d) (table : Connectors) (kept : Keeps rule (take i ds) table) where
  -- After a connector that breaks nothing and was put into the table.
  pub made_next : (next : Connectors) (k : Connector) → d ≡ declarations.Made k → rule (take i ds) (declarations.Made k) ≡ [] → ((known : List Connector) → AreConnectors known table → AreConnectors (known ++ k ∷ []) next) → Keeps rule (take (i + 1) ds) next
  made_next next k made none put =
      record {
        connectors =
            subst (λ cs. AreConnectors cs next) (ap (λ x. connectors_of (take i ds) ++ connectors_in x) (sym made) ∙ more_flat connectors_in ds i d below is)
            (put (connectors_of (take i ds)) kept.connectors);
        unbroken = after_more rule [] ds i d below is kept.unbroken (ap (rule (take i ds)) made ∙ none);
      }

  -- After a type, which does not count.
  pub type_next : ((line : ℕ) (name : List ℕ) (term : TypeTerm) → rule (take i ds) (declarations.Named line name term) ≡ []) → ((k : Connector) → d ≡ declarations.Made k → ⊥) → Keeps rule (take (i + 1) ds) table
  type_next silent other =
      record {
        connectors =
            subst (λ cs. AreConnectors cs table) (sym (append-nil (connectors_of (take i ds))) ∙ ap (λ cs. connectors_of (take i ds) ++ cs) (sym (no_connector d other)) ∙ more_flat connectors_in ds i d below is)
            kept.connectors;
        unbroken = after_more rule [] ds i d below is kept.unbroken (none d other);
      } where
        none : (x : Declaration) → ((k : Connector) → x ≡ declarations.Made k → ⊥) → rule (take i ds) x ≡ []
        none (declarations.Named line name term) not = silent line name term
        none (declarations.Made k) not = absurd (not k refl)

  -- The first break of a connector is the first of all.
  pub made_first : (k : Connector) (fault : FlatFault) → d ≡ declarations.Made k → IsFirst (rule (take i ds) (declarations.Made k)) fault → IsFirst (each_after rule [] ds) fault
  made_first k fault made here =
      after_first rule [] ds i d fault below is kept.unbroken (subst (λ x. IsFirst (rule (take i ds) x) fault) (sym made) here)
