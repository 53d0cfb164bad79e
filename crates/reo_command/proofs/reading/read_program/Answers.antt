use Rattle.std.proofs.Common.{[], ◌∷◌}
use Rattle.reo_trees.specs.SaysTwo.{SaysAny}
use Rattle.reo_command.specs.declared.role.Role.TheVariants.{Circuit}
use Rattle.reo_command.specs.Readings.{ProgramStops}
use Rattle.reo_command.proofs.FetchLemmas.{file_read}
use Rattle.reo_command.proofs.reading.read_program.Goals as goal

pub returns : goal.returns
returns g c =
    file_read (λ program. program) Circuit SaysAny ProgramStops (c.args.name.now ∷ []) _ c.in_ok-text.text c.as_slice.result.now c.program_of.result c.in_ok-text.ensures.fetched c.in_ok-text.ensures.short c.as_slice.ensures c.program_of.ensures
