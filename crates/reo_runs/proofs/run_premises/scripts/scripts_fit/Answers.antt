-- The actions of a script that is read fit its ports.
use Rattle.std.proofs.Common.{◌≡◌, true, List, [], ◌∷◌, map, Result, Ok, Err, refl, ap, subst}
use Rattle.std.specs.List.{All, AllByRecursion, flat_map}
use Rattle.reo_values.proofs.Sequences.{left_none}
use Rattle.reo_net_base.specs.declared.port.Port.{Port}
use Rattle.reo_rules.specs.Lists.{first_of, has_name}
use Rattle.reo_rules.proofs.AfterLemmas.{right_none}
use Rattle.reo_script.specs.declared.scripts.fault.ScriptFault.{ScriptFault}
use Rattle.reo_script.specs.declared.scripts.forms.ComponentForm.{ComponentForm}
use Rattle.reo_script.specs.declared.scripts.action.Component.{Component}
use Rattle.reo_script.specs.declared.scripts.action.Script.{Script}
use Rattle.reo_script.specs.scripts.ScriptRules.{namings_in, no_port, wrong_way, outside, breaks, component_for}
use Rattle.reo_script.specs.scripts.ScriptAnswers.{answer_by, answer_for}
use Rattle.reo_players.specs.Written.{Task, written_out}
use Rattle.reo_runs.specs.run_premises.Fitting.{FitsPorts, FitPorts}
use Rattle.reo_runs.proofs.run_premises.Each.{each_of}
use Rattle.reo_runs.proofs.run_premises.Places.{IsKept, all_kept, fits_write, fits_take}
use Rattle.reo_runs.proofs.run_premises.WrittenOut.{of_components}
use Rattle.reo_runs.proofs.run_premises.Sharing.{names_at, one_component}
use Rattle.reo_runs.proofs.run_premises.Apart.{same_name, named_in}
use Rattle.reo_runs.proofs.run_premises.scripts.scripts_fit.Goals as goal

-- The components of forms that break no rule fit.
fits : (ports : List Port) (cs : List ComponentForm) → breaks ports cs ≡ [] → FitPorts ports (map written_out (map (component_for ports) cs))
fits ports cs none =
    let ns = flat_map namings_in cs in
    let known = left_none (flat_map (no_port ports) ns) _ none in
    let second = right_none (flat_map (no_port ports) ns) _ none in
    let ways = left_none (flat_map (wrong_way ports) ns) _ second in
    let third = right_none (flat_map (wrong_way ports) ns) _ second in
    let items = left_none (flat_map (outside ports) ns) _ third in
    let apart = right_none (flat_map (outside ports) ns) _ third in
    let kept = all_kept ports ns known ways items in
    let lists = map written_out (map (component_for ports) cs) in
    let all = of_components ports (IsKept ports) (FitsPorts ports) (fits_write ports) (fits_take ports) (λ rounds. tt) cs kept in
    record {
      each = each_of (All (FitsPorts ports)) lists (each_list lists all);
      apart = λ port i j here there.
          let one = named_in ports cs kept port i here in
          let other = named_in ports cs kept port j there in
          let same = same_name ports other.name one.name port other.numbered one.numbered in
          one_component [] cs apart one.name i j one.there (subst (λ name. has_name (names_at cs j) name ≡ true) same other.there);
    } where
      each_list : (lists : List (List Task)) → AllByRecursion (AllByRecursion (FitsPorts ports)) lists → AllByRecursion (All (FitsPorts ports)) lists
      each_list [] all = tt
      each_list (ts ∷ lists) all = (each_of (FitsPorts ports) ts all.0, each_list lists all.1)

-- The components of an answer, if it is a script.
components_of : Result Script ScriptFault → List Component
components_of (Ok script) = script.components
components_of (Err fault) = []

fits_answer : (ports : List Port) (cs : List ComponentForm) (bs : List ScriptFault) → breaks ports cs ≡ bs → (script : Script) → answer_by ports cs (first_of bs) ≡ Ok script → FitPorts ports (map written_out script.components)
unfolding components_of
fits_answer ports cs [] none script is = subst (λ xs. FitPorts ports (map written_out xs)) (ap components_of is) (fits ports cs none)
fits_answer ports cs (b ∷ bs) some script is = absurd (cc)

-- Only forms that break no rule are answered with a script.
of_answer : (ports : List Port) (r : Result (List ComponentForm) ScriptFault) (script : Script) → answer_for ports r ≡ Ok script → FitPorts ports (map written_out script.components)
of_answer ports (Ok cs) script is = fits_answer ports cs (breaks ports cs) refl script is
of_answer ports (Err fault) script is = absurd (cc)

pub returns : goal.returns
returns c text ports script answers = of_answer ports answers.0 script answers.2
