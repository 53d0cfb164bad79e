use Rattle.reo_kinds_laws.proofs.Keeping.{quotas_counted}
use Rattle.reo_kinds_laws.proofs.laws.quotas_count_down.Goals as goal

pub returns : goal.returns
returns c = quotas_counted
