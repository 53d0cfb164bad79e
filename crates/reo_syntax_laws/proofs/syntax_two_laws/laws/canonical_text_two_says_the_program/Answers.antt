use Rattle.reo_syntax_laws.proofs.syntax_two_laws.Bare.{lines-aside}
use Rattle.reo_syntax_laws.proofs.syntax_two_laws.Whole.{says-program, has-fewest}
use Rattle.reo_syntax_laws.proofs.syntax_two_laws.laws.canonical_text_two_says_the_program.Goals as goal

pub returns-clause-says : goal.returns-clause-says
returns-clause-says c p h = says-program p h

pub returns-clause-fewest : goal.returns-clause-fewest
returns-clause-fewest c p text h = has-fewest p text h

pub returns-clause-lines : goal.returns-clause-lines
returns-clause-lines c p q e = lines-aside p q e
