use Rattle.std.proofs.Common.{◌≡◌, ◌++◌, take}
use Rattle.reo_listing.specs.texts.TableTexts.{letters}
use Rattle.reo_listing.proofs.texts.table.append_letters.Given as goal

abbrev pub invariant-loop-mark : goal.invariant-loop-mark
invariant-loop-mark l = l.text ≡ l.initial.text ++ letters (take l.mark-index l.marks)
