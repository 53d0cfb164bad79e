-- One more name.
use Rattle.std.proofs.Common.{◌∙◌, [], ◌∷◌, ◌++◌, take, refl, ap, subst}
use Rattle.std.proofs.lemmas.List.{take_all}
use Rattle.reo_rules.specs.Lists.{has_name}
use Rattle.reo_rules_names.proofs.AfterLemmas.{more_seen}
use Rattle.reo_rules_names.specs.SameNames.{SameNames}
use Rattle.reo_rules_names.proofs.SameLemmas.{same_noted}
use Rattle.reo_rules_names.proofs.types.set_of.Goals as goal

pub loop-name-preserved : goal.loop-name-preserved
loop-name-preserved c n =
    let names = c.args.names.now in
    let i = c.loop-name.name-index in
    let more = more_seen names i c.name-item.result c.loop-name-test.true c.name-item.is {seen = take i names} {next = take i names ++ c.as_slice.result.now ∷ []} refl (ap (λ m. take i names ++ m ∷ []) c.as_slice.ensures) in
    ap (λ xs. has_name xs n) c.in_ok-note.ensures.names ∙ same_noted c.loop-name.set (take i names) c.as_slice.result.now c.loop-name.invariant n ∙ ap (λ xs. has_name xs n) more

pub returns : goal.returns
returns c = subst (SameNames c.loop-name.set) (take_all c.loop-name.name-index c.args.names.now c.loop-name-test.false) c.loop-name.invariant
