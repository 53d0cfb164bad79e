-- The uses of a connector, and then the connector itself.
use Rattle.std.proofs.Common.{◌∙◌, ◌+◌, refl, sym, ap, subst, take}
use Rattle.std.specs.List.{flat_map}
use Rattle.reo_trees.specs.declared.items.Item.{Item}
use Rattle.reo_rules.specs.Scopes.{connectors_of}
use Rattle.reo_rules.specs.Arity.{arity_in_item, arity_in}
use Rattle.reo_rules.specs.Judged.{IsFirst}
use Rattle.reo_rules_names.proofs.AfterLemmas.{judged_err}
use Rattle.reo_rules_names.proofs.LoopLemmas.{Keeps, made_next, type_next, made_first}
use Rattle.reo_rules_names.proofs.arity.declarations_arity.Goals as goal
use Rattle.reo_rules_names.proofs.arity.declarations_arity.Goals.{in-Made+in_ok-items_arity+in_ok-add, in_default}

pub returns-in_err-items_arity : goal.returns-in_err-items_arity
returns-in_err-items_arity c =
    let ds = c.args.declarations.now in
    let i = c.loop-declaration.declaration-index in
    let inv = c.loop-declaration.invariant in
    let known = connectors_of (take i ds) in
    let fault = c.in_err-items_arity.field-0.0 in
    let here = c.in_err-items_arity.ensures.judged known inv.connectors in
    judged_err c.from_residual.result fault _ c.from_residual.ensures
    (made_first arity_in ds i c.declaration-item.result c.loop-declaration-test.true c.declaration-item.is c.loop-declaration.connectors inv c.in-Made.connector fault c.in-Made.is
    (subst (λ items. IsFirst (flat_map (λ (k : Item). arity_in_item known k.line k.form) items) fault) c.as_slice.ensures here))

pub loop-declaration-preserved : goal.loop-declaration-preserved
loop-declaration-preserved c =
    let ds = c.args.declarations.now in
    let i = c.loop-declaration.declaration-index in
    let d = c.declaration-item.result in
    let table = c.loop-declaration.connectors in
    let inv = c.loop-declaration.invariant in
    let known = connectors_of (take i ds) in
    elim c.match-declaration.branch [
      | in-Made+in_ok-items_arity+in_ok-add w ↦
          let none = ap (flat_map (λ (k : Item). arity_in_item known k.line k.form)) (sym w.as_slice.ensures) ∙ w.in_ok-items_arity.ensures.judged known inv.connectors in
          subst (λ t. Keeps arity_in (take (i + 1) ds) t) (sym w.connectors-is)
          (made_next arity_in ds i d c.loop-declaration-test.true c.declaration-item.is table inv w.add.new.self w.in-Made.connector w.in-Made.is none w.in_ok-add.ensures)
      | in_default w ↦
          subst (λ t. Keeps arity_in (take (i + 1) ds) t) (sym w.connectors-is)
          (type_next arity_in ds i d c.loop-declaration-test.true c.declaration-item.is table inv (λ line name term. refl) w.in_default.not-Made)
    ]
