use Rattle.std.proofs.Common.{sym, subst}
use Rattle.reo_trees.specs.declared.programs.Program.{Program}
use Rattle.reo_syntax_laws.specs.trees_laws.Few.{HasItemsWithin}
use Rattle.reo_expand.specs.base.Steps.{most_steps}
use Rattle.reo_expand.proofs.laws.CountLemmas.{few_items}
use Rattle.reo_expand.proofs.laws.laws.expansions_are_few.Goals as goal

pub returns : goal.returns
returns c = λ p q expanded. subst (λ (r : Program). HasItemsWithin most_steps r) (sym expanded.is) (few_items p.declarations expanded.count expanded.walked_to)
