use Rattle.reo_values.proofs.Tests.{is_item-is}
use Rattle.reo_kinds.proofs.kind.WriterPort.offering.Goals as goal

pub invariant_of-result : goal.invariant_of-result
invariant_of-result c = record { fitting = (is_item-is c.args.item c.args.kindred).1 c.requires }
