-- How expansions are spelled.
use Rattle.reo_trees.specs.declared.programs.Program.{Program}
use Rattle.reo_trees.specs.declared.programs_two.ProgramTwo.{ProgramTwo}
use Rattle.reo_syntax_laws.specs.trees_laws.Few.{HasItemsWithin}
use Rattle.reo_syntax_laws.specs.trees_laws.Spelled.{IsSpelled}
use Rattle.reo_syntax_laws.specs.trees_laws.SpelledTwo.{IsSpelledTwo}
use Rattle.reo_expand.specs.base.Expansion.{expansion}
use Rattle.reo_expand.specs.base.Steps.{IsExpanded, most_steps}

-- What a spelled program stands for is spelled.
abbrev pub ExpansionsAreSpelled : Type 0
ExpansionsAreSpelled = (p : ProgramTwo) → IsSpelledTwo p → IsSpelled (expansion p)

-- No connector of an expansion has more than 65,536 items.
abbrev pub ExpansionsAreFew : Type 0
ExpansionsAreFew = (p : ProgramTwo) (q : Program) → IsExpanded p q → HasItemsWithin most_steps q
