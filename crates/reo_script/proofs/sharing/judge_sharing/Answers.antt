use Rattle.std.proofs.Common.{◌≡◌, ◌∙◌, ℕ, List, [], ◌++◌, sym, ap, subst, ⊎_elim, inl, inr, map, take, flat_map, ◌⊎◌, Some}
use Rattle.std.proofs.lemmas.List.{map-append}
use Rattle.reo_rules.specs.Lists.{first_of, has_name}
use Rattle.reo_rules.proofs.AfterLemmas.{more_flat}
use Rattle.reo_script.specs.declared.scripts.forms.ComponentForm.{ComponentForm}
use Rattle.reo_script.specs.scripts.ScriptRules.{Naming, namings_in, ports_in, shared_in, shared}
use Rattle.reo_script.specs.declared.scripts.fault.ScriptFault.{ScriptFault}
use Rattle.reo_script.specs.declared.scripts.fault.ScriptFault.TheVariants as faults
use Rattle.reo_script.specs.Places.{naming_of, IsFirstBreak}
use Rattle.reo_script.proofs.Breaks.{each_more, each_first, passed_on, shared_alike, first_alike, seen_more}
use Rattle.reo_script.proofs.sharing.judge_sharing.Goals as goal

abbrev pub port_of : Naming → List ℕ
port_of = λ n. n.port

abbrev pub by_component : List ComponentForm → ComponentForm → List ScriptFault
by_component = λ before c. flat_map (shared_in (ports_in before)) (namings_in c)

pub returns-in_err-judge_others : goal.returns-in_err-judge_others
returns-in_err-judge_others c =
    let cs = c.args.components.now in
    let i = c.loop-component.component-index in
    let x = c.component-item.result in
    let e = c.in_err-judge_others.field-0.0 in
    let seen = c.loop-component.seen in
    let same = ap (map naming_of) c.as_slice.ensures ∙ c.in_ok-places.ensures in
    let here : IsFirstBreak (flat_map (shared_in seen) (namings_in x)) e = subst (λ ns. IsFirstBreak (flat_map (shared_in seen) ns) e) same c.in_err-judge_others.ensures in
    let found : (e ≡ faults.NoMemory) ⊎ (first_of (flat_map (shared_in (ports_in (take i cs))) (namings_in x)) ≡ Some e) =
    first_alike seen (ports_in (take i cs)) c.loop-component.invariant.0 (namings_in x) e here in
    passed_on c.from_residual-in_err-judge_others.result e (shared cs) c.from_residual-in_err-judge_others.ensures
    (⊎_elim (λ memory. inl memory) (λ is. inr (each_first by_component [] cs i x e c.loop-component-test.true c.component-item.is c.loop-component.invariant.1 is)) found)

pub loop-component-preserved : goal.loop-component-preserved
loop-component-preserved c =
    let cs = c.args.components.now in
    let i = c.loop-component.component-index in
    let x = c.component-item.result in
    let seen = c.loop-component.seen in
    let before = ports_in (take i cs) in
    let same = ap (map naming_of) c.as_slice.ensures ∙ c.in_ok-places.ensures in
    let again = ap (map naming_of) c.as_slice-in-loop-component.ensures ∙ c.in_ok-places.ensures in
    let none : flat_map (shared_in seen) (namings_in x) ≡ [] = ap (flat_map (shared_in seen)) (sym same) ∙ c.in_ok-judge_others.ensures in (
      λ name. c.in_ok-note.ensures name
          ∙ (ap (λ ns. has_name (seen ++ map port_of ns) name) again
          ∙ (seen_more seen before (map port_of (namings_in x)) c.loop-component.invariant.0 name
          ∙ ap (λ ns. has_name ns name) (sym (map-append port_of (flat_map namings_in (take i cs)) (namings_in x)) ∙ ap (map port_of) (more_flat namings_in cs i x c.loop-component-test.true c.component-item.is)))),
      each_more by_component [] cs i x c.loop-component-test.true c.component-item.is c.loop-component.invariant.1
          (sym (shared_alike seen before c.loop-component.invariant.0 (namings_in x)) ∙ none),
    )
