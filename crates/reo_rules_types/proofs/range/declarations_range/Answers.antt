-- A type is judged, and then it is declared; a connector is judged.
use Rattle.std.proofs.Common.{◌≡◌, ◌∙◌, ℕ, ◌+◌, List, [], ◌∷◌, ◌++◌, take, refl, sym, ap, subst}
use Rattle.reo_values.specs.declared.kindred.Kindred.{Kindred}
use Rattle.reo_rules_types.proofs.Sequences.{left_none}
use Rattle.reo_rules.specs.Lists.{has_name}
use Rattle.reo_rules.specs.Types.{types_of, resolved}
use Rattle.reo_rules.specs.Twice.{twice_in, twice_in_type, twice_in_connector}
use Rattle.reo_rules.specs.Ranges.{range_in_type, range_in_connector, range_in}
use Rattle.reo_rules.specs.Judged.{IsFirst}
use Rattle.reo_rules_types.proofs.AfterLemmas.{judged_err, after_first, after_more, more_seen, right_none, where_false}
use Rattle.reo_rules_types.proofs.Declared.{names_of-types}
use Rattle.reo_rules_types.specs.Scoped.{typed, AreKnown}
use Rattle.reo_rules_types.proofs.Scoped.{known_kept, typed_kept}
use Rattle.reo_rules_types.proofs.Names.{after_at, keys_are}
use Rattle.reo_rules_types.proofs.Signatures.{types_named, types_made}
use Rattle.reo_rules_types.proofs.range.declarations_range.Goals as goal
use Rattle.reo_rules_types.proofs.range.declarations_range.Goals.{in-Named+in_ok-type_range-in-Named+in_ok-declare_type-in-Named, in-Made+in_ok-connector_range-in-Made}

pub declare_type-requires-clause-known : goal.declare_type-requires-clause-known
declare_type-requires-clause-known c = known_kept c.loop-declaration.types c.type_range.new.types c.in_ok-type_range-in-Named.ensures.keeps c.loop-declaration.declared c.loop-declaration.invariant.0

pub declare_type-requires-clause-new : goal.declare_type-requires-clause-new
declare_type-requires-clause-new c =
    let ds = c.args.declarations.now in
    let i = c.loop-declaration.declaration-index in
    let none = after_at twice_in [] ds i c.declaration-item.result c.loop-declaration-test.true c.declaration-item.is c.requires.names.no_twice in
    let here = ap (twice_in (take i ds)) (sym c.in-Named.is) ∙ none in
    ap (λ ns. has_name ns c.in-Named.name) (keys_are c.loop-declaration.types c.loop-declaration.declared _ c.loop-declaration.invariant.1 ∙ names_of-types (take i ds))
    ∙ where_false _ _ (left_none _ (twice_in_type c.in-Named.term) here)

pub connector_range-requires-clause-distinct : goal.connector_range-requires-clause-distinct
connector_range-requires-clause-distinct c =
    let ds = c.args.declarations.now in
    let i = c.loop-declaration.declaration-index in
    let none = after_at twice_in [] ds i c.declaration-item.result c.loop-declaration-test.true c.declaration-item.is c.requires.names.no_twice in
    right_none _ (twice_in_connector c.in-Made.connector) (ap (twice_in (take i ds)) (sym c.in-Made.is) ∙ none)

pub returns-in_err-type_range-in-Named : goal.returns-in_err-type_range-in-Named
returns-in_err-type_range-in-Named c =
    let ds = c.args.declarations.now in
    let i = c.loop-declaration.declaration-index in
    let fault = c.in_err-type_range-in-Named.field-0.0 in
    let here = subst (λ known. IsFirst (range_in_type known c.in-Named.term) fault) c.loop-declaration.invariant.1 c.in_err-type_range-in-Named.ensures.judged in
    judged_err c.from_residual.result fault _ c.from_residual.ensures
    (after_first range_in [] ds i c.declaration-item.result fault c.loop-declaration-test.true c.declaration-item.is c.loop-declaration.invariant.2
    (subst (λ d. IsFirst (range_in (take i ds) d) fault) (sym c.in-Named.is) here))

pub returns-in_err-connector_range-in-Made : goal.returns-in_err-connector_range-in-Made
returns-in_err-connector_range-in-Made c =
    let ds = c.args.declarations.now in
    let i = c.loop-declaration.declaration-index in
    let fault = c.in_err-connector_range-in-Made.field-0.0 in
    let here = subst (λ known. IsFirst (range_in_connector known c.in-Made.connector) fault) c.loop-declaration.invariant.1 c.in_err-connector_range-in-Made.ensures.judged in
    judged_err c.from_residual-in_err-connector_range-in-Made.result fault _ c.from_residual-in_err-connector_range-in-Made.ensures
    (after_first range_in [] ds i c.declaration-item.result fault c.loop-declaration-test.true c.declaration-item.is c.loop-declaration.invariant.2
    (subst (λ d. IsFirst (range_in (take i ds) d) fault) (sym c.in-Made.is) here))

pub loop-declaration-preserved : goal.loop-declaration-preserved
loop-declaration-preserved c =
    let ds = c.args.declarations.now in
    let i = c.loop-declaration.declaration-index in
    let d = c.declaration-item.result in
    let below = c.loop-declaration-test.true in
    let is = c.declaration-item.is in
    let old = c.loop-declaration.types in
    let es = c.loop-declaration.declared in
    let inv = c.loop-declaration.invariant in
    let more : take i ds ++ d ∷ [] ≡ take (i + 1) ds = more_seen ds i d below is refl refl in
    elim c.match-declaration.branch [
      | in-Named+in_ok-type_range-in-Named+in_ok-declare_type-in-Named w ↦
          let name = w.in-Named.name in
          let term = w.in-Named.term in
          let judged = w.in_ok-type_range-in-Named.ensures in
          let declared = w.in_ok-declare_type-in-Named.ensures in
          let same = typed_kept old w.type_range.new.types judged.keeps es inv.0 ∙ inv.1 in
          let scope = declared.scope ∙ (λ k. same k ++ record { name = name; kindred = resolved (same k) term.shape } ∷ [])
          ∙ sym (types_named (take i ds) w.in-Named.line name term) ∙ ap types_of (ap (λ x. take i ds ++ x ∷ []) (sym w.in-Named.is) ∙ more) in (
            subst (λ (p : List Kindred × List (List ℕ × ℕ)). AreKnown p.0 p.1) (λ k. (sym w.types-is k, sym w.declared-is k)) declared.known,
            subst (λ (p : List Kindred × List (List ℕ × ℕ)). typed p.0 p.1 ≡ types_of (take (i + 1) ds)) (λ k. (sym w.types-is k, sym w.declared-is k)) scope,
            after_more range_in [] ds i d below is inv.2 (ap (range_in (take i ds)) w.in-Named.is ∙ ap (λ known. range_in_type known term) (sym inv.1) ∙ judged.judged),
          )
      | in-Made+in_ok-connector_range-in-Made w ↦
          let connector = w.in-Made.connector in
          let judged = w.in_ok-connector_range-in-Made.ensures in
          let new = w.connector_range.new.types in
          let scope = typed_kept old new judged.keeps es inv.0 ∙ inv.1 ∙ sym (types_made (take i ds) connector) ∙ ap types_of (ap (λ x. take i ds ++ x ∷ []) (sym w.in-Made.is) ∙ more) in (
            subst (λ (p : List Kindred × List (List ℕ × ℕ)). AreKnown p.0 p.1) (λ k. (sym w.types-is k, sym w.declared-is k)) (known_kept old new judged.keeps es inv.0),
            subst (λ (p : List Kindred × List (List ℕ × ℕ)). typed p.0 p.1 ≡ types_of (take (i + 1) ds)) (λ k. (sym w.types-is k, sym w.declared-is k)) scope,
            after_more range_in [] ds i d below is inv.2 (ap (range_in (take i ds)) w.in-Made.is ∙ ap (λ known. range_in_connector known connector) (sym inv.1) ∙ judged.judged),
          )
    ]
