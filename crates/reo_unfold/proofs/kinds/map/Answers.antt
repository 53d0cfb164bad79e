-- By the type of the expression.
use Rattle.std.proofs.Common.{◌∙◌, sym}
use Rattle.reo_unfold.proofs.KindLemmas.{typed_by, map_made, map_none}
use Rattle.reo_unfold.proofs.kinds.map.Goals as goal

pub new-requires : goal.new-requires
new-requires c = typed_by c.args.expr c.args.of (sym c.in_ok-is_typed.ensures ∙ c.if-branch.true)

pub returns-then-branch : goal.returns-then-branch
returns-then-branch c = map_made c.new.result c.args.of c.args.expr c.new.ensures.of c.new.ensures.expr

pub returns-else-branch : goal.returns-else-branch
returns-else-branch c = map_none c.args.of c.args.expr (sym c.in_ok-is_typed.ensures ∙ c.if-branch.false)
