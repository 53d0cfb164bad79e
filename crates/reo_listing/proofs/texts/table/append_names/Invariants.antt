use Rattle.std.proofs.Common.{◌≡◌, ◌++◌, take}
use Rattle.reo_listing.specs.texts.TableTexts.{names_text}
use Rattle.reo_listing.proofs.texts.table.append_names.Given as goal

abbrev pub invariant-loop-place : goal.invariant-loop-place
invariant-loop-place l = l.text ≡ l.initial.text ++ names_text l.ports (take l.place l.numbers)
