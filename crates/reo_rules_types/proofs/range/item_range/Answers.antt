-- The two nodes have the numbers of their types.
use Rattle.std.proofs.Common.{◌∙◌, ◌<◌, length, sym, ap, subst}
use Rattle.reo_rules.specs.declared.fault.FlatFault.TheVariants as faults
use Rattle.reo_rules.specs.Lists.{where_true}
use Rattle.reo_rules.specs.Ranges.{leaves, range_in_item}
use Rattle.reo_rules_types.proofs.AfterLemmas.{judged_same}
use Rattle.reo_rules_types.specs.Cells.{type_at}
use Rattle.reo_rules_types.specs.Scoped.{typed, number_named}
use Rattle.reo_rules_types.proofs.Scoped.{named_is, named_below}
use Rattle.reo_rules_types.proofs.range.item_range.Goals as goal

pub channel_leaves-requires-clause-first : goal.channel_leaves-requires-clause-first
channel_leaves-requires-clause-first c =
    let types = c.args.types.now in
    subst (λ n. n < length types) (sym (c.find-a.ensures ∙ ap (number_named c.args.scope.now) c.as_slice.ensures)) (named_below types c.in-Joined.first c.args.scope.now c.requires.scope)

pub channel_leaves-requires-clause-second : goal.channel_leaves-requires-clause-second
channel_leaves-requires-clause-second c =
    let types = c.args.types.now in
    subst (λ n. n < length types) (sym (c.find-b.ensures ∙ ap (number_named c.args.scope.now) c.as_slice-in-Joined.ensures)) (named_below types c.in-Joined.second c.args.scope.now c.requires.scope)

pub returns-in_ok-channel_leaves-in-Joined-clause-judged : goal.returns-in_ok-channel_leaves-in-Joined-clause-judged
returns-in_ok-channel_leaves-in-Joined-clause-judged c =
    let types = c.args.types.now in
    let es = c.args.scope.now in
    let known = typed types c.args.declared.now in
    let first = ap (type_at types) (c.find-a.ensures ∙ ap (number_named es) c.as_slice.ensures) ∙ sym (named_is types c.in-Joined.first es c.requires.scope) in
    let second = ap (type_at types) (c.find-b.ensures ∙ ap (number_named es) c.as_slice-in-Joined.ensures) ∙ sym (named_is types c.in-Joined.second es c.requires.scope) in
    judged_same _ _ c.range_where.result
    (ap (λ b. where_true b (faults.Range c.args.line)) (c.in_ok-channel_leaves-in-Joined.ensures ∙ (λ i. leaves known (first i) (second i) c.in-Joined.channel))
    ∙ ap (range_in_item known (typed types es) c.args.line) (sym c.in-Joined.is))
    c.range_where.ensures.judged
