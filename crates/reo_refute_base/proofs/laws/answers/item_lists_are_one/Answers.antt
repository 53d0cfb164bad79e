use Rattle.reo_refute_base.proofs.laws.OneList.{item_lists_are_one}
use Rattle.reo_refute_base.proofs.laws.answers.item_lists_are_one.Goals as goal

pub returns : goal.returns
returns c = item_lists_are_one
