-- A declaration's name, and then what is in it.
use Rattle.std.proofs.Common.{◌≡◌, ◌∙◌, ℕ, ◌+◌, ◌<◌, length, get_or, List, [], ◌++◌, map, take, subst, sym, ap}
use Rattle.std.proofs.lemmas.List.{append-nil, map-append}
use Rattle.reo_values.proofs.Sequences.{both_none}
use Rattle.reo_trees.specs.declared.programs.Connector.{Connector}
use Rattle.reo_trees.specs.declared.programs.Declaration.{Declaration}
use Rattle.reo_rules.specs.Scopes.{type_names, type_names_in, connectors_of, connectors_in, connector_names}
use Rattle.reo_rules.specs.Twice.{twice_among, twice_in_type, twice_in_connector, twice_in}
use Rattle.reo_rules.specs.Judged.{IsFirst}
use Rattle.reo_rules_names.proofs.AfterLemmas.{judged_err, after_first, after_more, first_left, first_right, more_flat}
use Rattle.reo_rules_names.proofs.twice.declarations_twice.Goals as goal
use Rattle.reo_rules_names.proofs.twice.declarations_twice.Goals.{in-Named+in_ok-once-in-Named+in_ok-type_twice-in-Named, in-Made+in_ok-once-in-Made+in_ok-connector_twice-in-Made}

pub returns-in_err-once-in-Named : goal.returns-in_err-once-in-Named
returns-in_err-once-in-Named c =
    let ds = c.args.declarations.now in
    let i = c.loop-declaration.declaration-index in
    let fault = c.in_err-once-in-Named.field-0.0 in
    let name = subst (λ seen. IsFirst (twice_among seen c.in-Named.line c.in-Named.name) fault) c.loop-declaration.invariant.0 c.in_err-once-in-Named.ensures.judged in
    let here = first_left _ (twice_in_type c.in-Named.term) fault name in
    judged_err c.from_residual.result fault _ c.from_residual.ensures
    (after_first twice_in [] ds i c.declaration-item.result fault c.loop-declaration-test.true c.declaration-item.is c.loop-declaration.invariant.2 (subst (λ d. IsFirst (twice_in (take i ds) d) fault) (sym c.in-Named.is) here))

pub returns-in_err-type_twice-in-Named : goal.returns-in_err-type_twice-in-Named
returns-in_err-type_twice-in-Named c =
    let ds = c.args.declarations.now in
    let i = c.loop-declaration.declaration-index in
    let fault = c.in_err-type_twice-in-Named.field-0.0 in
    let name = ap (λ seen. twice_among seen c.in-Named.line c.in-Named.name) (sym c.loop-declaration.invariant.0) ∙ c.in_ok-once-in-Named.ensures.judged in
    let here = first_right _ (twice_in_type c.in-Named.term) fault name c.in_err-type_twice-in-Named.ensures in
    judged_err c.from_residual-in_err-type_twice-in-Named.result fault _ c.from_residual-in_err-type_twice-in-Named.ensures
    (after_first twice_in [] ds i c.declaration-item.result fault c.loop-declaration-test.true c.declaration-item.is c.loop-declaration.invariant.2 (subst (λ d. IsFirst (twice_in (take i ds) d) fault) (sym c.in-Named.is) here))

pub returns-in_err-once-in-Made : goal.returns-in_err-once-in-Made
returns-in_err-once-in-Made c =
    let ds = c.args.declarations.now in
    let i = c.loop-declaration.declaration-index in
    let fault = c.in_err-once-in-Made.field-0.0 in
    let k = c.in-Made.connector in
    let name = subst (λ seen. IsFirst (twice_among seen k.line k.name) fault) c.loop-declaration.invariant.1 c.in_err-once-in-Made.ensures.judged in
    let here = first_left _ (twice_in_connector k) fault name in
    judged_err c.from_residual-in_err-once-in-Made.result fault _ c.from_residual-in_err-once-in-Made.ensures
    (after_first twice_in [] ds i c.declaration-item.result fault c.loop-declaration-test.true c.declaration-item.is c.loop-declaration.invariant.2 (subst (λ d. IsFirst (twice_in (take i ds) d) fault) (sym c.in-Made.is) here))

pub returns-in_err-connector_twice-in-Made : goal.returns-in_err-connector_twice-in-Made
returns-in_err-connector_twice-in-Made c =
    let ds = c.args.declarations.now in
    let i = c.loop-declaration.declaration-index in
    let fault = c.in_err-connector_twice-in-Made.field-0.0 in
    let k = c.in-Made.connector in
    let name = ap (λ seen. twice_among seen k.line k.name) (sym c.loop-declaration.invariant.1) ∙ c.in_ok-once-in-Made.ensures.judged in
    let here = first_right _ (twice_in_connector k) fault name c.in_err-connector_twice-in-Made.ensures in
    judged_err c.from_residual-in_err-connector_twice-in-Made.result fault _ c.from_residual-in_err-connector_twice-in-Made.ensures
    (after_first twice_in [] ds i c.declaration-item.result fault c.loop-declaration-test.true c.declaration-item.is c.loop-declaration.invariant.2 (subst (λ d. IsFirst (twice_in (take i ds) d) fault) (sym c.in-Made.is) here))

-- The names behind one more declaration.
more_types : (ds : List Declaration) (i : ℕ) (d : Declaration) → i < length ds → d ≡ get_or ds i d → {seen here : List (List ℕ)} → seen ≡ type_names (take i ds) → type_names_in d ≡ here → seen ++ here ≡ type_names (take (i + 1) ds)
more_types ds i d below is {seen} {here} before names = (λ k. before k ++ sym names k) ∙ more_flat type_names_in ds i d below is

more_connectors : (ds : List Declaration) (i : ℕ) (d : Declaration) → i < length ds → d ≡ get_or ds i d → {seen here : List (List ℕ)} → seen ≡ connector_names (take i ds) → map (λ (k : Connector). k.name) (connectors_in d) ≡ here
    → seen ++ here ≡ connector_names (take (i + 1) ds)
more_connectors ds i d below is {seen} {here} before names =
    (λ k. before k ++ sym names k) ∙ sym (map-append (λ (k : Connector). k.name) (connectors_of (take i ds)) (connectors_in d)) ∙ ap (map (λ (k : Connector). k.name)) (more_flat connectors_in ds i d below is)

pub loop-declaration-preserved : goal.loop-declaration-preserved
loop-declaration-preserved c =
    let ds = c.args.declarations.now in
    let i = c.loop-declaration.declaration-index in
    let d = c.declaration-item.result in
    let below = c.loop-declaration-test.true in
    let is = c.declaration-item.is in
    let inv = c.loop-declaration.invariant in
    elim c.match-declaration.branch [
      | in-Named+in_ok-once-in-Named+in_ok-type_twice-in-Named w ↦
          let name = ap (λ seen. twice_among seen w.in-Named.line w.in-Named.name) (sym inv.0) ∙ w.in_ok-once-in-Named.ensures.judged in
          let here = ap (twice_in (take i ds)) w.in-Named.is ∙ both_none _ (twice_in_type w.in-Named.term) name w.in_ok-type_twice-in-Named.ensures in (
            w.types-is ∙ w.in_ok-once-in-Named.ensures.seen ∙ more_types ds i d below is inv.0 (ap type_names_in w.in-Named.is),
            w.connectors-is ∙ sym (append-nil _) ∙ more_connectors ds i d below is inv.1 (ap (λ x. map (λ (k : Connector). k.name) (connectors_in x)) w.in-Named.is),
            after_more twice_in [] ds i d below is inv.2 here,
          )
      | in-Made+in_ok-once-in-Made+in_ok-connector_twice-in-Made w ↦
          let k = w.in-Made.connector in
          let name = ap (λ seen. twice_among seen k.line k.name) (sym inv.1) ∙ w.in_ok-once-in-Made.ensures.judged in
          let here = ap (twice_in (take i ds)) w.in-Made.is ∙ both_none _ (twice_in_connector k) name w.in_ok-connector_twice-in-Made.ensures in (
            w.types-is ∙ sym (append-nil _) ∙ more_types ds i d below is inv.0 (ap type_names_in w.in-Made.is),
            w.connectors-is ∙ w.in_ok-once-in-Made.ensures.seen ∙ more_connectors ds i d below is inv.1 (ap (λ x. map (λ (q : Connector). q.name) (connectors_in x)) w.in-Made.is),
            after_more twice_in [] ds i d below is inv.2 here,
          )
    ]
