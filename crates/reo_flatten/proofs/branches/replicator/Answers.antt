use Rattle.reo_kinds.specs.declared.kind.Kind.TheVariants as primitives
use Rattle.reo_flatten.proofs.BranchLemmas.{branched_is}
use Rattle.reo_flatten.proofs.branches.replicator.Goals as goal

pub returns-then-count-le8192 : goal.returns-then-count-le8192
returns-then-count-le8192 c = branched_is primitives.Replicator c.new.result c.args.count c.new.ensures
