-- The two nodes have the numbers of their types.
use Rattle.std.proofs.Common.{◌≡◌, ◌∙◌, ◌<◌, length, sym, ap, subst}
use Rattle.std.specs.Prelude.{IfOk}
use Rattle.reo_rules.specs.Types.{types_of}
use Rattle.reo_rules.specs.Scopes.{connectors_of}
use Rattle.reo_rules.specs.Mistyped.{is_channel_mistyped, is_mistyped}
use Rattle.reo_rules_types.specs.Cells.{type_at}
use Rattle.reo_rules_types.specs.Scoped.{typed, number_named}
use Rattle.reo_rules_types.proofs.Scoped.{named_is, named_below}
use Rattle.reo_rules_types.proofs.mistyped.item_mistyped.Goals as goal

pub channel_mistyped-requires-clause-first : goal.channel_mistyped-requires-clause-first
channel_mistyped-requires-clause-first c =
    let types = c.args.types.now in
    subst (λ n. n < length types) (sym (c.find-a.ensures ∙ ap (number_named c.args.scope.now) c.as_slice.ensures)) (named_below types c.in-Joined.first c.args.scope.now c.requires.scope)

pub channel_mistyped-requires-clause-second : goal.channel_mistyped-requires-clause-second
channel_mistyped-requires-clause-second c =
    let types = c.args.types.now in
    subst (λ n. n < length types) (sym (c.find-b.ensures ∙ ap (number_named c.args.scope.now) c.as_slice-in-Joined.ensures)) (named_below types c.in-Joined.second c.args.scope.now c.requires.scope)

pub returns-in-Joined-clause-test : goal.returns-in-Joined-clause-test
returns-in-Joined-clause-test c before stands =
    let types = c.args.types.now in
    let es = c.args.scope.now in
    let first = ap (type_at types) (c.find-a.ensures ∙ ap (number_named es) c.as_slice.ensures) ∙ sym (named_is types c.in-Joined.first es c.requires.scope) in
    let second = ap (type_at types) (c.find-b.ensures ∙ ap (number_named es) c.as_slice-in-Joined.ensures) ∙ sym (named_is types c.in-Joined.second es c.requires.scope) in
    subst (λ b. IfOk c.channel_mistyped.result (λ r. r ≡ b))
    ((λ i. is_channel_mistyped (stands.types_are i) (first i) (second i) c.in-Joined.channel)
    ∙ ap (is_mistyped (types_of before) (connectors_of before) (typed types es)) (sym c.in-Joined.is))
    c.channel_mistyped.ensures.test
