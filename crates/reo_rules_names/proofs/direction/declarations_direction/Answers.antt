-- The breaks of a connector, and then the connector itself.
use Rattle.std.proofs.Common.{◌+◌, refl, sym, subst, take}
use Rattle.reo_rules.specs.Scopes.{connectors_of}
use Rattle.reo_rules.specs.Direction.{direction_in}
use Rattle.reo_rules_names.proofs.AfterLemmas.{judged_err}
use Rattle.reo_rules_names.proofs.LoopLemmas.{Keeps, made_next, type_next, made_first}
use Rattle.reo_rules_names.proofs.direction.declarations_direction.Goals as goal
use Rattle.reo_rules_names.proofs.direction.declarations_direction.Goals.{in-Made+in_ok-connector_direction+in_ok-add, in_default}

pub returns-in_err-connector_direction : goal.returns-in_err-connector_direction
returns-in_err-connector_direction c =
    let ds = c.args.declarations.now in
    let i = c.loop-declaration.declaration-index in
    let inv = c.loop-declaration.invariant in
    let fault = c.in_err-connector_direction.field-0.0 in
    judged_err c.from_residual.result fault _ c.from_residual.ensures
    (made_first direction_in ds i c.declaration-item.result c.loop-declaration-test.true c.declaration-item.is c.loop-declaration.connectors inv c.in-Made.connector fault c.in-Made.is
    (c.in_err-connector_direction.ensures (connectors_of (take i ds)) inv.connectors))

pub loop-declaration-preserved : goal.loop-declaration-preserved
loop-declaration-preserved c =
    let ds = c.args.declarations.now in
    let i = c.loop-declaration.declaration-index in
    let d = c.declaration-item.result in
    let table = c.loop-declaration.connectors in
    let inv = c.loop-declaration.invariant in
    elim c.match-declaration.branch [
      | in-Made+in_ok-connector_direction+in_ok-add w ↦
          subst (λ t. Keeps direction_in (take (i + 1) ds) t) (sym w.connectors-is)
          (made_next direction_in ds i d c.loop-declaration-test.true c.declaration-item.is table inv w.add.new.self w.in-Made.connector w.in-Made.is (w.in_ok-connector_direction.ensures (connectors_of (take i ds)) inv.connectors) w.in_ok-add.ensures)
      | in_default w ↦
          subst (λ t. Keeps direction_in (take (i + 1) ds) t) (sym w.connectors-is)
          (type_next direction_in ds i d c.loop-declaration-test.true c.declaration-item.is table inv (λ line name term. refl) w.in_default.not-Made)
    ]
