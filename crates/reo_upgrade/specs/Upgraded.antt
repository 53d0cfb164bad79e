-- Programs of either version: as ones of version 2, their canonical texts, and which are the same.
use Rattle.std.specs.Prelude.{ℕ, List}
use Rattle.reo_trees.specs.declared.programs_two.ProgramTwo.{ProgramTwo}
use Rattle.reo_trees.specs.declared.programs_two.AnyProgram.{AnyProgram}
use Rattle.reo_trees.specs.declared.programs_two.AnyProgram.TheVariants.{One, Two}
use Rattle.reo_trees.specs.SaysTwo.{SaysAny}
use Rattle.reo_syntax.specs.Canonical.{canonical_text}
use Rattle.reo_syntax.specs.Unlined.{Same}
use Rattle.reo_syntax.specs.two.Canonical.{canonical_text_two}
use Rattle.reo_syntax_laws.specs.syntax_two_laws.Unlined.{SameTwo}
use Rattle.reo_expand.specs.base.Lifted.{lifted}

-- The program as one of version 2.
abbrev pub upgraded : AnyProgram → ProgramTwo
upgraded (One p) = lifted p
upgraded (Two p) = p

-- The canonical text of its own version.
abbrev pub canonical_text_any : AnyProgram → List ℕ
canonical_text_any (One p) = canonical_text p
canonical_text_any (Two p) = canonical_text_two p

-- Two programs are the same, of one version, lines aside.
abbrev pub SameAny : AnyProgram → AnyProgram → Type 0
SameAny (One p) (One q) = Same p q
SameAny (Two p) (Two q) = SameTwo p q
SameAny p q = ⊥

-- The text says the program, lines aside.
abbrev pub SaysSameAny : List ℕ → AnyProgram → Type 0
SaysSameAny text p = (q : AnyProgram) × SaysAny text q × SameAny p q
