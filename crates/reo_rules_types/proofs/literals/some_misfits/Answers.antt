-- One more literal.
use Rattle.std.proofs.Common.{◌∙◌, sym}
use Rattle.std.specs.Prelude.{is_none}
use Rattle.reo_trees.specs.declared.literals.Literal.{Literal}
use Rattle.reo_rules.specs.literals.Items.{item_of}
use Rattle.reo_rules_types.specs.Cells.{type_at}
use Rattle.reo_rules_types.proofs.Lists.{any_more, any_hit}
use Rattle.reo_rules_types.proofs.OfLiterals.{misfit, fit}
use Rattle.reo_rules_types.proofs.literals.some_misfits.Goals as goal

pub returns-then-not-is_literal : goal.returns-then-not-is_literal
returns-then-not-is_literal c =
    let k = type_at c.args.types.now c.args.number in
    let x = c.literal-item.result in
    sym (any_hit (λ (l : Literal). is_none (item_of k l)) c.args.literals.now c.loop-literal.literal-index x c.loop-literal-test.true c.literal-item.is (misfit k x (sym c.is_literal.ensures ∙ c.if-not-is_literal.true)))

pub loop-literal-preserved : goal.loop-literal-preserved
loop-literal-preserved c =
    let k = type_at c.args.types.now c.args.number in
    let x = c.literal-item.result in
    any_more (λ (l : Literal). is_none (item_of k l)) c.args.literals.now c.loop-literal.literal-index x c.loop-literal-test.true c.literal-item.is c.loop-literal.invariant (fit k x (sym c.is_literal.ensures ∙ c.if-not-is_literal.false))
