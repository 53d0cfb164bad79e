-- The kind against the one that is wanted.
use Rattle.std.proofs.Common.{◌∙◌, sym, ap}
use Rattle.std.specs.Prelude.{not}
use Rattle.reo_rules.specs.Types.{is_same}
use Rattle.reo_rules.specs.Mistyped.{is_kind}
use Rattle.reo_rules_types.specs.Cells.{type_at}
use Rattle.reo_rules_types.specs.Scoped.{typed}
use Rattle.reo_rules_types.proofs.Kept.{kept_at, kept_below}
use Rattle.reo_rules_types.proofs.OfKinds.{made_some, has_kind-form}
use Rattle.reo_rules_types.proofs.channels.lacks_kind.Goals as goal

pub same-requires-clause-b : goal.same-requires-clause-b
same-requires-clause-b c = kept_below c.args.types.now c.kind_of_term.new.types c.in_ok-kind.ensures.keeps c.args.want c.requires.want

pub returns-in-Some-clause-test : goal.returns-in-Some-clause-test
returns-in-Some-clause-test c =
    let types = c.args.types.now in
    let types1 = c.kind_of_term.new.types in
    let want = type_at types c.args.want in
    let made = made_some types1 c.in_ok-kind.field-0 _ c.in-Some.kind c.in-Some.is c.in_ok-kind.ensures.kind in
    ap not
    (c.same.ensures ∙ ap (is_same (type_at types1 c.in-Some.kind)) (kept_at types types1 c.in_ok-kind.ensures.keeps c.args.want c.requires.want)
    ∙ ap (is_kind want) (sym made.1) ∙ sym (has_kind-form (typed types c.args.declared.now) c.args.form.now (type_at types c.args.of) want))
