-- One name more.
use Rattle.std.proofs.Common.{◌≡◌, ◌∙◌, [], ap, take, false}
use Rattle.reo_trees.specs.declared.programs.Parameter.{Parameter}
use Rattle.reo_rules.specs.Lists.{has_name}
use Rattle.reo_rules.specs.Names.{with_name}
use Rattle.reo_rules.specs.Twice.{twice_in_parameter}
use Rattle.reo_unfold.proofs.AfterLemmas.{more_mapped}
use Rattle.reo_rules.proofs.Distinct.{noted_new}
use Rattle.reo_unfold.proofs.ListLemmas.{each_none}
use Rattle.reo_unfold.proofs.LocalLemmas.{new_parameter}
use Rattle.reo_unfold.proofs.local.parameter_names.Goals as goal

pub loop-parameter-preserved : goal.loop-parameter-preserved
loop-parameter-preserved c =
    let i = c.loop-parameter.parameter-index in
    let p = c.parameter-item.result in
    let none = each_none twice_in_parameter [] c.args.parameters.now i p c.loop-parameter-test.true c.parameter-item.is c.requires in
    let new : has_name c.loop-parameter.names p.name ≡ false = ap (λ ns. has_name ns p.name) c.loop-parameter.invariant ∙ new_parameter (take i c.args.parameters.now) p none in
    more_mapped (λ (q : Parameter). q.name) c.args.parameters.now i p c.loop-parameter-test.true c.parameter-item.is c.loop-parameter.invariant
    (c.in_ok-note.ensures.names ∙ ap (with_name c.loop-parameter.names) c.as_slice.ensures ∙ noted_new c.loop-parameter.names p.name new)
