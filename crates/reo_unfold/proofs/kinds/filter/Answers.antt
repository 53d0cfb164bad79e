-- By the type of the expression.
use Rattle.std.proofs.Common.{◌∙◌, sym}
use Rattle.reo_unfold.proofs.KindLemmas.{truth_is, filter_made, filter_none}
use Rattle.reo_unfold.proofs.kinds.filter.Goals as goal

pub new-requires : goal.new-requires
new-requires c = truth_is _ (sym c.in_ok-is_predicate.ensures ∙ c.if-branch.true)

pub returns-then-branch : goal.returns-then-branch
returns-then-branch c = filter_made c.new.result c.args.of c.args.expr c.new.ensures.of c.new.ensures.expr

pub returns-else-branch : goal.returns-else-branch
returns-else-branch c = filter_none c.args.of c.args.expr (sym c.in_ok-is_predicate.ensures ∙ c.if-branch.false)
