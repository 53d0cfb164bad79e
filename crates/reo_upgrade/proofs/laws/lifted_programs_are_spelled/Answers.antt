use Rattle.reo_upgrade.proofs.Spelled.{lifted-spelled}
use Rattle.reo_upgrade.proofs.laws.lifted_programs_are_spelled.Goals as goal

pub returns : goal.returns
returns c = lifted-spelled
