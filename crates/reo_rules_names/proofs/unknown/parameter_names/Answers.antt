-- The name of one more parameter.
use Rattle.std.proofs.Common.{◌∙◌, [], ◌∷◌, ◌++◌, take, refl, ap, subst}
use Rattle.std.proofs.lemmas.List.{take_all}
use Rattle.reo_trees.specs.declared.programs.Parameter.{Parameter}
use Rattle.reo_rules.specs.Lists.{has_name}
use Rattle.reo_rules.specs.Scopes.{parameter_names}
use Rattle.reo_rules_names.proofs.AfterLemmas.{more_mapped}
use Rattle.reo_rules_names.specs.SameNames.{SameNames}
use Rattle.reo_rules_names.proofs.SameLemmas.{same_noted}
use Rattle.reo_rules_names.proofs.unknown.parameter_names.Goals as goal

pub loop-parameter-preserved : goal.loop-parameter-preserved
loop-parameter-preserved c n =
    let ps = c.args.parameters.now in
    let i = c.loop-parameter.parameter-index in
    let before = parameter_names (take i ps) in
    let more = more_mapped (λ (p : Parameter). p.name) ps i c.parameter-item.result c.loop-parameter-test.true c.parameter-item.is {seen = before} {next = before ++ c.as_slice.result.now ∷ []} refl (ap (λ m. before ++ m ∷ []) c.as_slice.ensures) in
    ap (λ xs. has_name xs n) c.in_ok-note.ensures.names ∙ same_noted c.loop-parameter.names before c.as_slice.result.now c.loop-parameter.invariant n ∙ ap (λ xs. has_name xs n) more

pub returns : goal.returns
returns c = subst (λ ps. SameNames c.loop-parameter.names (parameter_names ps)) (take_all c.loop-parameter.parameter-index c.args.parameters.now c.loop-parameter-test.false) c.loop-parameter.invariant
