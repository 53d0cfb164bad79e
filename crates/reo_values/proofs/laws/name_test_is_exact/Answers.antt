use Rattle.reo_values.proofs.Tests.{is_name-is}
use Rattle.reo_values.proofs.laws.name_test_is_exact.Goals as goal

pub returns : goal.returns
returns c = is_name-is
