use Rattle.std.proofs.Common.{◌≡◌, ◌∙◌, ap, sym, subst}
use Rattle.std.specs.Prelude.{IfOk, option_map}
use Rattle.reo_exprs.specs.Kinds.{twins_of}
use Rattle.reo_exprs.specs.Typing.{unary_within}
use Rattle.reo_exprs.proofs.Steps.{left_within, right_within}
use Rattle.reo_exprs.proofs.typing.one_type.Goals as goal

pub returns-in-First : goal.returns-in-First
returns-in-First c =
    let whole : option_map (λ t. t.left) (twins_of c.args.x.now) ≡ unary_within c.args.op c.args.x.now = sym (left_within c.args.x.now c.requires) ∙ sym (ap (λ o. unary_within o c.args.x.now) c.in-First.is) in
    subst (λ k. IfOk c.left_type.result (λ made. made ≡ k)) whole c.left_type.ensures

pub returns-in-Second : goal.returns-in-Second
returns-in-Second c =
    let whole : option_map (λ t. t.right) (twins_of c.args.x.now) ≡ unary_within c.args.op c.args.x.now = sym (right_within c.args.x.now c.requires) ∙ sym (ap (λ o. unary_within o c.args.x.now) c.in-Second.is) in
    subst (λ k. IfOk c.right_type.result (λ made. made ≡ k)) whole c.right_type.ensures
