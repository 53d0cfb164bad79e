-- A declared type is known; a connector is judged, and then it is known.
use Rattle.std.proofs.Common.{◌≡◌, ◌∙◌, ◌+◌, List, [], ◌∷◌, ◌++◌, take, refl, sym, ap, subst}
use Rattle.reo_trees.specs.declared.programs.Declaration.{Declaration}
use Rattle.reo_rules.specs.Lists.{has_name}
use Rattle.reo_rules.specs.Twice.{twice_in, twice_in_type, twice_in_connector}
use Rattle.reo_rules.specs.Unknown.{unknown_in}
use Rattle.reo_rules.specs.Mistyped.{mistyped_in}
use Rattle.reo_rules.specs.Judged.{IsFirst}
use Rattle.reo_rules_types.proofs.AfterLemmas.{judged_err, after_first, after_more, more_seen, right_none, where_false}
use Rattle.reo_rules_types.proofs.Declared.{names_of-types}
use Rattle.reo_rules_types.proofs.Names.{after_at, keys_are}
use Rattle.reo_rules_types.proofs.Standing.{stands_named}
use Rattle.reo_values.specs.declared.kindred.Kindred.{Kindred}
use Rattle.reo_rules_types.proofs.Sequences.{left_none}
use Rattle.reo_rules_types.specs.declared.known.Known.{Known}
use Rattle.reo_rules_types.specs.Scoped.{AreKnown}
use Rattle.reo_rules_types.specs.Stands.{Stands}
use Rattle.reo_rules_types.proofs.mistyped.declarations_mistyped.Goals as goal
use Rattle.reo_rules_types.proofs.mistyped.declarations_mistyped.Goals.{in-Named+in_ok-declare_type-in-Named, in-Made+in_ok-connector_mistyped-in-Made}

pub declare_type-requires-clause-new : goal.declare_type-requires-clause-new
declare_type-requires-clause-new c =
    let ds = c.args.declarations.now in
    let i = c.loop-declaration.declaration-index in
    let none = after_at twice_in [] ds i c.declaration-item.result c.loop-declaration-test.true c.declaration-item.is c.requires.names.no_twice in
    let here = ap (twice_in (take i ds)) (sym c.in-Named.is) ∙ none in
    ap (λ ns. has_name ns c.in-Named.name) (keys_are c.loop-declaration.types c.loop-declaration.known.declared _ c.loop-declaration.invariant.1.types_are ∙ names_of-types (take i ds))
    ∙ where_false _ _ (left_none _ (twice_in_type c.in-Named.term) here)

pub connector_mistyped-requires-clause-distinct : goal.connector_mistyped-requires-clause-distinct
connector_mistyped-requires-clause-distinct c =
    let ds = c.args.declarations.now in
    let i = c.loop-declaration.declaration-index in
    let none = after_at twice_in [] ds i c.declaration-item.result c.loop-declaration-test.true c.declaration-item.is c.requires.names.no_twice in
    right_none _ (twice_in_connector c.in-Made.connector) (ap (twice_in (take i ds)) (sym c.in-Made.is) ∙ none)

pub returns-in_err-connector_mistyped-in-Made : goal.returns-in_err-connector_mistyped-in-Made
returns-in_err-connector_mistyped-in-Made c =
    let ds = c.args.declarations.now in
    let i = c.loop-declaration.declaration-index in
    let fault = c.in_err-connector_mistyped-in-Made.field-0.0 in
    let here = c.in_err-connector_mistyped-in-Made.ensures.judged (take i ds) c.loop-declaration.invariant.1 in
    judged_err c.from_residual-in_err-connector_mistyped-in-Made.result fault _ c.from_residual-in_err-connector_mistyped-in-Made.ensures
    (after_first mistyped_in [] ds i c.declaration-item.result fault c.loop-declaration-test.true c.declaration-item.is c.loop-declaration.invariant.2
    (subst (λ d. IsFirst (mistyped_in (take i ds) d) fault) (sym c.in-Made.is) here))

pub loop-declaration-preserved : goal.loop-declaration-preserved
loop-declaration-preserved c =
    let ds = c.args.declarations.now in
    let i = c.loop-declaration.declaration-index in
    let d = c.declaration-item.result in
    let below = c.loop-declaration-test.true in
    let is = c.declaration-item.is in
    let old = c.loop-declaration.types in
    let known = c.loop-declaration.known in
    let inv = c.loop-declaration.invariant in
    let more : take i ds ++ d ∷ [] ≡ take (i + 1) ds = more_seen ds i d below is refl refl in
    elim c.match-declaration.branch [
      | in-Named+in_ok-declare_type-in-Named w ↦
          let stands = stands_named (take i ds) old w.declare_type.new.types known w.declare_type.new.declared w.in-Named.line w.in-Named.name w.in-Named.term w.in_ok-declare_type-in-Named.ensures.keeps inv.1 w.in_ok-declare_type-in-Named.ensures.scope in
          let here = subst (λ (ks : List Declaration). Stands ks w.declare_type.new.types (record known { declared = w.declare_type.new.declared })) (ap (λ x. take i ds ++ x ∷ []) (sym w.in-Named.is) ∙ more) stands in (
            subst (λ (p : List Kindred × Known). AreKnown p.0 p.1.declared) (λ k. (sym w.types-is k, sym w.known-is k)) w.in_ok-declare_type-in-Named.ensures.known,
            subst (λ (p : List Kindred × Known). Stands (take (i + 1) ds) p.0 p.1) (λ k. (sym w.types-is k, sym w.known-is k)) here,
            after_more mistyped_in [] ds i d below is inv.2 (ap (mistyped_in (take i ds)) w.in-Named.is),
          )
      | in-Made+in_ok-connector_mistyped-in-Made w ↦
          let connector = w.in-Made.connector in
          let made = w.in_ok-connector_mistyped-in-Made.ensures in
          let twice_none = ap (twice_in (take i ds)) (sym w.in-Made.is) ∙ after_at twice_in [] ds i d below is c.requires.names.no_twice in
          let unknown_none = ap (unknown_in (take i ds)) (sym w.in-Made.is) ∙ after_at unknown_in [] ds i d below is c.requires.names.no_unknown in
          let fresh = where_false _ _ (left_none _ (twice_in_connector connector) twice_none) in
          let stands = made.stands (take i ds) inv.1 fresh unknown_none in
          let here = subst (λ (ks : List Declaration). Stands ks w.connector_mistyped.new.types w.connector_mistyped.new.known) (ap (λ x. take i ds ++ x ∷ []) (sym w.in-Made.is) ∙ more) stands in (
            subst (λ (p : List Kindred × Known). AreKnown p.0 p.1.declared) (λ k. (sym w.types-is k, sym w.known-is k)) made.known,
            subst (λ (p : List Kindred × Known). Stands (take (i + 1) ds) p.0 p.1) (λ k. (sym w.types-is k, sym w.known-is k)) here,
            after_more mistyped_in [] ds i d below is inv.2 (ap (mistyped_in (take i ds)) w.in-Made.is ∙ made.judged (take i ds) inv.1),
          )
    ]
