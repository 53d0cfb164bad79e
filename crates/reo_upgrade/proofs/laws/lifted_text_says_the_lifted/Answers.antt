use Rattle.reo_upgrade.proofs.Texts.{lifted-text}
use Rattle.reo_upgrade.proofs.Whole.{says-lifted}
use Rattle.reo_upgrade.proofs.laws.lifted_text_says_the_lifted.Goals as goal

pub returns-clause-text : goal.returns-clause-text
returns-clause-text c p = lifted-text p

pub returns-clause-says : goal.returns-clause-says
returns-clause-says c p h = says-lifted p h
