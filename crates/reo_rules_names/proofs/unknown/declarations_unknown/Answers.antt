-- What a declaration names, and then the declaration itself.
use Rattle.std.proofs.Common.{◌∙◌, ◌+◌, sym, ap, subst, take}
use Rattle.reo_trees.specs.declared.programs.Declaration.TheVariants as declarations
use Rattle.reo_rules.specs.Types.{names_of, types_of}
use Rattle.reo_rules.specs.Names.{with_name}
use Rattle.reo_rules.specs.Scopes.{connector_names}
use Rattle.reo_rules.specs.Judged.{IsFirst}
use Rattle.reo_rules_names.proofs.AfterLemmas.{judged_err}
use Rattle.reo_rules_names.proofs.UnknownLemmas.{Knows, type_known, connector_known, unknown_first, unknown_parts-same}
use Rattle.reo_rules_names.proofs.unknown.declarations_unknown.Goals as goal
use Rattle.reo_rules_names.proofs.unknown.declarations_unknown.Goals.{in-Named+in_ok-type_unknown-in-Named+in_ok-add-in-Named, in-Made+in_ok-connector_unknown-in-Made+in_ok-note-in-Made}

pub returns-in_err-type_unknown-in-Named : goal.returns-in_err-type_unknown-in-Named
returns-in_err-type_unknown-in-Named c =
    let ds = c.args.declarations.now in
    let i = c.loop-declaration.declaration-index in
    let knows = c.loop-declaration.invariant in
    let n = c.in-Named in
    let fault = c.in_err-type_unknown-in-Named.field-0.0 in
    let same = unknown_parts-same c.loop-declaration.types.names (names_of (types_of (take i ds))) knows.types_are.names n.term.line n.term.shape in
    judged_err c.from_residual.result fault _ c.from_residual.ensures
    (unknown_first ds i c.declaration-item.result c.loop-declaration-test.true c.declaration-item.is c.loop-declaration.types c.loop-declaration.connectors knows (declarations.Named n.line n.name n.term) fault n.is
    (subst (λ fs. IsFirst fs fault) same c.in_err-type_unknown-in-Named.ensures))

pub returns-in_err-connector_unknown-in-Made : goal.returns-in_err-connector_unknown-in-Made
returns-in_err-connector_unknown-in-Made c =
    let ds = c.args.declarations.now in
    let i = c.loop-declaration.declaration-index in
    let knows = c.loop-declaration.invariant in
    let k = c.in-Made.connector in
    let fault = c.in_err-connector_unknown-in-Made.field-0.0 in
    judged_err c.from_residual-in_err-connector_unknown-in-Made.result fault _ c.from_residual-in_err-connector_unknown-in-Made.ensures
    (unknown_first ds i c.declaration-item.result c.loop-declaration-test.true c.declaration-item.is c.loop-declaration.types c.loop-declaration.connectors knows (declarations.Made k) fault c.in-Made.is
    (c.in_err-connector_unknown-in-Made.ensures (types_of (take i ds)) (connector_names (take i ds)) knows.types_are knows.connectors_are))

pub loop-declaration-preserved : goal.loop-declaration-preserved
loop-declaration-preserved c =
    let ds = c.args.declarations.now in
    let i = c.loop-declaration.declaration-index in
    let d = c.declaration-item.result in
    let below = c.loop-declaration-test.true in
    let is = c.declaration-item.is in
    let types = c.loop-declaration.types in
    let connectors = c.loop-declaration.connectors in
    let knows = c.loop-declaration.invariant in
    elim c.match-declaration.branch [
      | in-Named+in_ok-type_unknown-in-Named+in_ok-add-in-Named w ↦
          let n = w.in-Named in
          let same = unknown_parts-same types.names (names_of (types_of (take i ds))) knows.types_are.names n.term.line n.term.shape in
          let next = type_known ds i d below is types connectors knows n.line n.name n.term w.add.new.self n.is (sym same ∙ w.in_ok-type_unknown-in-Named.ensures) w.in_ok-add-in-Named.ensures in
          subst (λ t. Knows (take (i + 1) ds) t c.match-declaration.connectors) (sym w.types-is) (subst (λ ns. Knows (take (i + 1) ds) w.add.new.self ns) (sym w.connectors-is) next)
      | in-Made+in_ok-connector_unknown-in-Made+in_ok-note-in-Made w ↦
          let k = w.in-Made.connector in
          let none = w.in_ok-connector_unknown-in-Made.ensures (types_of (take i ds)) (connector_names (take i ds)) knows.types_are knows.connectors_are in
          let noted = w.in_ok-note-in-Made.ensures.names ∙ ap (with_name connectors) w.as_slice.ensures in
          let next = connector_known ds i d below is types connectors knows k w.note.new.self w.in-Made.is none noted in
          subst (λ t. Knows (take (i + 1) ds) t c.match-declaration.connectors) (sym w.types-is) (subst (λ ns. Knows (take (i + 1) ds) types ns) (sym w.connectors-is) next)
    ]
