use Rattle.reo_values.proofs.Tests.{is_item-is}
use Rattle.reo_values.proofs.laws.item_test_is_exact.Goals as goal

pub returns : goal.returns
returns c = is_item-is
