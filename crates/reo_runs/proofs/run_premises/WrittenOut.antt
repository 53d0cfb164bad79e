-- What holds of the places of a form holds of its actions, written out.
use Rattle.std.proofs.Common.{ℕ, zero, suc, Option, Some, None, List, [], ◌∷◌, map, sym, subst}
use Rattle.std.specs.List.{AllByRecursion, flat_map}
use Rattle.reo_net_base.specs.declared.port.Port.{Port}
use Rattle.reo_trees.specs.declared.literals.Literal.{Literal}
use Rattle.reo_script.specs.declared.scripts.forms.ActionForm as form
use Rattle.reo_script.specs.declared.scripts.forms.ActionForm.{ActionForm}
use Rattle.reo_script.specs.declared.scripts.forms.ComponentForm.{ComponentForm}
use Rattle.reo_script.specs.scripts.ScriptRules.{Naming, namings, namings_row, namings_in, port_number, item_at, the_number, the_item, scripted, scripted_row, component_for}
use Rattle.reo_players.specs.Written.{Task, times_over, written, written_out}
use Rattle.reo_players.specs.Written.Task.{writes, takes, rests}
use Rattle.reo_players.proofs.Bodies.{written_repeat}
use Rattle.reo_runs.proofs.run_premises.Each.{both, left, right}

module _ (ports : List Port) (Q : Naming → Type 0) (P : Task → Type 0)
    (of_write : (line : ℕ) (name : List ℕ) (l : Literal) (within : Option ℕ) → Q (record { line = line; port = name; literal = Some l }) → P (writes (the_number ports (port_number ports name)) (the_item (item_at ports name l)) within))
    (of_take : (line : ℕ) (name : List ℕ) (within : Option ℕ) → Q (record { line = line; port = name; literal = None }) → P (takes (the_number ports (port_number ports name)) within))
    (of_pause : (rounds : ℕ) → P (rests rounds)) where
  over : (n : ℕ) (ts : List Task) → AllByRecursion P ts → AllByRecursion P (times_over n ts)
  over zero ts all = tt
  over (suc n) ts all = both P ts (times_over n ts) all (over n ts all)

  mutual
    of_action : (a : ActionForm) → AllByRecursion Q (namings a) → AllByRecursion P (written (scripted ports a))
    of_action (form.Write line name l within) all = (of_write line name l within all.0, tt)
    of_action (form.Take line name within) all = (of_take line name within all.0, tt)
    of_action (form.Pause rounds) all = (of_pause rounds, tt)
    of_action (form.Repeat' times shape body) all =
        subst (AllByRecursion P) (sym (written_repeat times (scripted_row ports body))) (over times (flat_map written (scripted_row ports body)) (of_row body all))

    of_row : {m : _} (row : form.Row_of-ActionForm m) → AllByRecursion Q (namings_row row) → AllByRecursion P (flat_map written (scripted_row ports row))
    of_row form.end_of-ActionForm all = tt
    of_row (form.more_of-ActionForm a rest) all =
        both P (written (scripted ports a)) (flat_map written (scripted_row ports rest)) (of_action a (left Q (namings a) (namings_row rest) all)) (of_row rest (right Q (namings a) (namings_row rest) all))

  of_actions : (forms : List ActionForm) → AllByRecursion Q (flat_map namings forms) → AllByRecursion P (flat_map written (map (scripted ports) forms))
  of_actions [] all = tt
  of_actions (a ∷ rest) all =
      both P (written (scripted ports a)) (flat_map written (map (scripted ports) rest)) (of_action a (left Q (namings a) (flat_map namings rest) all)) (of_actions rest (right Q (namings a) (flat_map namings rest) all))

  -- Of one component, and of all.
  pub of_component : (c : ComponentForm) → AllByRecursion Q (namings_in c) → AllByRecursion P (written_out (component_for ports c))
  of_component c all = of_actions c.actions all

  pub of_components : (cs : List ComponentForm) → AllByRecursion Q (flat_map namings_in cs) → AllByRecursion (AllByRecursion P) (map written_out (map (component_for ports) cs))
  of_components [] all = tt
  of_components (c ∷ cs) all = (of_component c (left Q (namings_in c) (flat_map namings_in cs) all), of_components cs (right Q (namings_in c) (flat_map namings_in cs) all))
