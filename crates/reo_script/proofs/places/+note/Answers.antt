use Rattle.std.proofs.Common.{◌≡◌, ◌++◌, ◌∙◌, sym, ap, subst, OnOk, map, flat_map}
use Rattle.reo_script.specs.scripts.ScriptRules.{namings}
use Rattle.reo_script.specs.Places.{naming_of}
use Rattle.reo_script.proofs.Bodies.{namings_repeat}
use Rattle.reo_script.proofs.places.+note.Goals as goal

-- src/places.rt:21:1
pub note-returns-in-Repeat : goal.note-returns-in-Repeat
note-returns-in-Repeat t c =
    subst (λ ns. OnOk c.note_all.result (map naming_of c.note_all.new.places ≡ map naming_of c.args.places.now ++ ns))
    (sym (ap namings c.in-Repeat.is ∙ (namings_repeat c.in-Repeat.times c.in-Repeat.body ∙ ap (flat_map namings) (sym c.as_slice.ensures)))) c.note_all.ensures
