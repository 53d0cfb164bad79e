use Rattle.std.proofs.Common.{[], ◌∷◌}
use Rattle.reo_command.specs.declared.role.Role.TheVariants.{Circuit}
use Rattle.reo_command.specs.Readings.{IsCircuitText, CircuitStops}
use Rattle.reo_command.specs.ReadSteps.{circuit_in}
use Rattle.reo_command.proofs.FetchLemmas.{file_read}
use Rattle.reo_command.proofs.reading.read_flat.Goals as goal

pub returns-clause-read : goal.returns-clause-read
returns-clause-read g c =
    file_read circuit_in Circuit IsCircuitText CircuitStops (c.args.name.now ∷ []) _ c.in_ok-text.text c.as_slice.result.now c.circuit_of.result c.in_ok-text.ensures.fetched c.in_ok-text.ensures.short c.as_slice.ensures c.circuit_of.ensures.read
