-- What nodes have of their own, by their ends.
use Rattle.std.specs.Prelude.{◌++◌, List, length}
use Rattle.reo_net_base.specs.declared.joint.End.{End}
use Rattle.reo_kinds.specs.declared.kind.Kind.{Kind}
use Rattle.reo_kinds.specs.declared.kind.Kind.TheVariants as primitives
use Rattle.reo_rules.specs.Lists.{where_true}
use Rattle.reo_flat.specs.Joints.{is_many}
use Rattle.reo_flat.specs.Flat.{branched}

-- A merger for two incoming ends or more, and a replicator for two outgoing ends or more.
abbrev pub own : List End → List End → List Kind
own ins outs = where_true (is_many ins) (branched primitives.Merger (length ins)) ++ where_true (is_many outs) (branched primitives.Replicator (length outs))
