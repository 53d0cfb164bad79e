use Rattle.std.proofs.Common.{arith}
use Rattle.std.proofs.lemmas.Grind.{common_steps}
use Rattle.reo_drawing.proofs.label_texts.Unfold.{item-pair}
use Rattle.reo_drawing.proofs.label_texts.item.+append_item.Goals as goal

pub returns-in_ok-append_item-in-Pair-2 : goal.returns-in_ok-append_item-in-Pair-2
returns-in_ok-append_item-in-Pair-2 t c = rw (c.in-Pair.is, item-pair c.in-Pair.couple, ← c.get-couple.ensures) (grind (arith, common_steps))
