-- Programs of version 2 that are written.
use Rattle.std.specs.Prelude.{ℕ, List}
use Rattle.reo_trees.specs.declared.programs_two.ProgramTwo.{ProgramTwo}
use Rattle.reo_trees.specs.SaysTwo.{SaysTwo}
use Rattle.reo_syntax_laws.specs.syntax_two_laws.Unlined.{SameTwo}

-- The text says the program, lines aside.
abbrev pub SaysSameTwo : List ℕ → ProgramTwo → Type 0
SaysSameTwo text p = (q : ProgramTwo) × SaysTwo text q × SameTwo p q

-- Some text says the program, lines aside.
abbrev pub IsWrittenTwo : ProgramTwo → Type 0
IsWrittenTwo p = (text : List ℕ) × SaysSameTwo text p
