use Rattle.std.proofs.Common.{[], ◌∷◌}
use Rattle.reo_command.proofs.ClaimLemmas.{proof_fetched}
use Rattle.reo_command.proofs.claim.read_bytes.Goals as goal

pub returns : goal.returns
returns g c = proof_fetched (c.args.name.now ∷ []) _ c.fetch.result c.fetch.ensures.fetched c.fetch.ensures.stop c.fetch.ensures.short
