-- What the text of a circuit says.
use Rattle.std.specs.Prelude.{◌⊎◌, ℕ, List}
use Rattle.reo_trees.specs.declared.programs.Program.{Program}
use Rattle.reo_trees.specs.declared.programs_two.ProgramTwo.{ProgramTwo}
use Rattle.reo_trees.specs.Says.{SaysProgram}
use Rattle.reo_trees.specs.SaysTwo.{SaysTwo}
use Rattle.reo_expand.specs.base.Steps.{IsExpanded}

-- The program that a text of version 1 says, or for which the program that a text of version 2 says stands.
abbrev pub SaysCircuit : List ℕ → Program → Type 0
SaysCircuit text p = SaysProgram text p ⊎ ((q : ProgramTwo) × SaysTwo text q × IsExpanded q p)
