-- The places in the body of a repeat.
use Rattle.std.proofs.Common.{◌≡◌, ◌∙◌, ℕ, List, ◌∷◌, ◌++◌, flat_map, map, refl, ap}
use mathlib.Core.Former.{Count}
use Rattle.reo_script.specs.declared.scripts.forms.ActionForm.{ActionForm, Repeat, Repeat', Row_of-ActionForm, end_of-ActionForm, more_of-ActionForm, items-the_row-ActionForm, items_hidden-the_row-ActionForm-0}
use Rattle.reo_net_base.specs.declared.port.Port.{Port}
use Rattle.reo_script.specs.declared.scripts.action.Action.TheVariants as actions
use Rattle.reo_script.specs.scripts.ScriptRules.{namings, namings_row, scripted, scripted_row}

abbrev row_of : ActionForm → (n : Count) × Row_of-ActionForm n
row_of (Repeat' times shape row) = (_, row)
row_of a = (_, end_of-ActionForm)

in_row : (n : _) (row : Row_of-ActionForm n) → namings_row row ≡ flat_map namings (items-the_row-ActionForm n row)
in_row n end_of-ActionForm = refl
in_row n (more_of-ActionForm a rest) = ap (λ ns. namings a ++ ns) (in_row _ rest)

pub namings_repeat : (times : ℕ) (body : List ActionForm) → namings (Repeat times body) ≡ flat_map namings body
namings_repeat times body =
    let row = row_of (Repeat times body) in in_row row.0 row.1 ∙ ap (flat_map namings) (items_hidden-the_row-ActionForm-0 body)

scripted_in_row : (ports : List Port) (n : _) (row : Row_of-ActionForm n) → scripted_row ports row ≡ map (scripted ports) (items-the_row-ActionForm n row)
scripted_in_row ports n end_of-ActionForm = refl
scripted_in_row ports n (more_of-ActionForm a rest) = ap (λ xs. scripted ports a ∷ xs) (scripted_in_row ports _ rest)

pub scripted_repeat : (ports : List Port) (times : ℕ) (body : List ActionForm) → scripted ports (Repeat times body) ≡ actions.Repeat times (map (scripted ports) body)
scripted_repeat ports times body =
    let row = row_of (Repeat times body) in
    ap (actions.Repeat times) (scripted_in_row ports row.0 row.1 ∙ ap (map (scripted ports)) (items_hidden-the_row-ActionForm-0 body))
