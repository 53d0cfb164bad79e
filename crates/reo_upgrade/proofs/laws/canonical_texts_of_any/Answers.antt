use Rattle.reo_upgrade.proofs.Whole.{says-any, says-back, writes-again, says-upgraded}
use Rattle.reo_upgrade.proofs.laws.canonical_texts_of_any.Goals as goal

pub returns-clause-says : goal.returns-clause-says
returns-clause-says c text p h = says-any text p h

pub returns-clause-upgrades : goal.returns-clause-upgrades
returns-clause-upgrades c text p h = says-upgraded text p h

pub returns-clause-back : goal.returns-clause-back
returns-clause-back c text p q h i = says-back text p q h i

pub returns-clause-again : goal.returns-clause-again
returns-clause-again c text p q h i = writes-again text p q h i
