use Rattle.reo_values.proofs.ItemTexts.{text_tells}
use Rattle.reo_values.proofs.laws.one_item_for_each_text.Goals as goal

pub returns : goal.returns
returns c = text_tells _ _ _ c.requires.valid c.requires.a_in c.requires.b_in c.requires.same
