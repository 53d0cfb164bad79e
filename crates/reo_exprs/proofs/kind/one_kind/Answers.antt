use Rattle.std.proofs.Common.{◌≡◌, ◌∙◌, ap, sym, subst}
use Rattle.std.specs.Prelude.{IfOk, option_map}
use Rattle.reo_exprs.specs.Kinds.{twins_of}
use Rattle.reo_exprs.specs.Typing.{unary_kind}
use Rattle.reo_exprs.proofs.Steps.{left_kind, right_kind}
use Rattle.reo_exprs.proofs.kind.one_kind.Goals as goal

pub returns-in-First : goal.returns-in-First
returns-in-First c =
    let whole : option_map (λ t. t.left) (twins_of c.args.x.now) ≡ unary_kind c.args.op c.args.x.now = sym (left_kind c.args.x.now c.requires) ∙ sym (ap (λ o. unary_kind o c.args.x.now) c.in-First.is) in
    subst (λ k. IfOk c.left_type.result (λ made. made ≡ k)) whole c.left_type.ensures

pub returns-in-Second : goal.returns-in-Second
returns-in-Second c =
    let whole : option_map (λ t. t.right) (twins_of c.args.x.now) ≡ unary_kind c.args.op c.args.x.now = sym (right_kind c.args.x.now c.requires) ∙ sym (ap (λ o. unary_kind o c.args.x.now) c.in-Second.is) in
    subst (λ k. IfOk c.right_type.result (λ made. made ≡ k)) whole c.right_type.ensures
