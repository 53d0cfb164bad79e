-- A pair of its parts, or a leaf of the table.
use Rattle.std.proofs.Common.{◌≡◌, ◌∙◌, subst}
use Rattle.std.specs.Prelude.{IfOk}
use Rattle.reo_rules_types.proofs.Leaves.{leaf_is}
use Rattle.reo_rules_types.proofs.trees.+tree_of.Goals as goal

pub returns-in_default : goal.returns-in_default
returns-in_default t c =
    let whole = c.leaf.ensures ∙ leaf_is c.args.types.now c.args.number c.cell.result.now c.cell.ensures.is c.in_default.not-Pair in
    subst (λ k. IfOk c.copy_kindred.result (λ made. made ≡ k)) whole c.copy_kindred.ensures
