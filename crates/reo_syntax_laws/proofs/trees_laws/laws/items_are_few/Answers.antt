use Rattle.reo_syntax_laws.proofs.trees_laws.Lengths.{few_items}
use Rattle.reo_syntax_laws.proofs.trees_laws.laws.items_are_few.Goals as goal

pub returns : goal.returns
returns c = few_items
