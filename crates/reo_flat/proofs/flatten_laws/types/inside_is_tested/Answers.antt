use Rattle.reo_flat.proofs.flatten_laws.types.inside_is_tested.Goals as goal
use Rattle.reo_rules.proofs.Same.{inside_told}

pub returns : goal.returns
returns c = inside_told
