use Rattle.std.proofs.Common.{◌+◌, ap, ℕ, ◌∙◌}
use Rattle.reo_refute.proofs.next.LiveValues.{count_is}
use Rattle.reo_refute.proofs.next.values.value_count.Goals as goal

pub returns : goal.returns
returns c = ap (λ (n : ℕ). n + 4) c.len.ensures ∙ count_is c.args.lists.now c.args.joint c.index-lists-joint.result c.requires.joint c.index-lists-joint.is
