-- A part of a kind is a kind.
use Rattle.std.proofs.Common.{◌∙◌, ap, sym, subst}
use Rattle.reo_exprs.specs.Typing.{unary_kind}
use Rattle.reo_exprs.proofs.Steps.{left_kind, right_kind}
use Rattle.reo_rules_types.specs.Cells.{type_at}
use Rattle.reo_rules_types.specs.Kinded.{IsMade}
use Rattle.reo_rules_types.proofs.kinds.one_kind.Goals as goal

pub returns-in-First-clause-kind : goal.returns-in-First-clause-kind
returns-in-First-clause-kind c =
    let x = type_at c.args.types.now c.args.x in
    subst (IsMade c.args.types.now c.left.result) (sym (left_kind x c.requires.bare) ∙ ap (λ op. unary_kind op x) (sym c.in-First.is)) c.left.ensures

pub returns-in-Second-clause-kind : goal.returns-in-Second-clause-kind
returns-in-Second-clause-kind c =
    let x = type_at c.args.types.now c.args.x in
    subst (IsMade c.args.types.now c.right.result) (sym (right_kind x c.requires.bare) ∙ ap (λ op. unary_kind op x) (sym c.in-Second.is)) c.right.ensures
