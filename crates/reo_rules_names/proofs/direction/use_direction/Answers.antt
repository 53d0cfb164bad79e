-- An argument with its way, and then those that are left.
use Rattle.std.proofs.Common.{◌∙◌, ◌++◌, ℕ, Bool, List, sym, ap, subst}
use Rattle.std.specs.List.{flat_map, zip}
use Rattle.std.specs.Slice.Iter.{iter_rest}
use Rattle.std.specs.Iterator.Adapters.{zip_first, zip_second}
use Rattle.std.proofs.lemmas.Slice.Zip.{either_empty_from_Zip}
use Rattle.reo_rules.specs.Touches.{touch}
use Rattle.reo_rules.specs.Judged.{IsFirst}
use Rattle.reo_rules_names.proofs.AfterLemmas.{judged_err, first_left}
use Rattle.reo_rules_names.specs.Closed.{against}
use Rattle.reo_rules_names.proofs.EndLemmas.{zip_over}
use Rattle.reo_rules_names.proofs.direction.use_direction.Goals as goal

pub loop-argument-preserved : goal.loop-argument-preserved
loop-argument-preserved c ps are =
    let breaks = λ (q : List ℕ × Bool). against ps c.args.line (touch q.0 q.1) in
    let next = c.next.new.self in
    c.loop-argument.invariant ps are ∙ (λ i. flat_map breaks (zip (c.in-Some.ensures.steps.0 i) (c.in-Some.ensures.steps.1 i)))
    ∙ ap (λ fs. fs ++ flat_map breaks (zip (iter_rest (zip_first next)) (iter_rest (zip_second next)))) (c.in_ok-end_direction.ensures ps are)

pub returns-in_err-end_direction : goal.returns-in_err-end_direction
returns-in_err-end_direction c ps are =
    let breaks = λ (q : List ℕ × Bool). against ps c.args.line (touch q.0 q.1) in
    let next = c.next.new.self in
    let fault = c.in_err-end_direction.field-0.0 in
    let all = c.loop-argument.invariant ps are ∙ (λ i. flat_map breaks (zip (c.in-Some.ensures.steps.0 i) (c.in-Some.ensures.steps.1 i))) in
    let here = first_left (breaks (c.in-Some.argument.now, c.in-Some.way.now)) (flat_map breaks (zip (iter_rest (zip_first next)) (iter_rest (zip_second next)))) fault (c.in_err-end_direction.ensures ps are) in
    judged_err c.from_residual.result fault _ c.from_residual.ensures (subst (λ fs. IsFirst fs fault) (sym all) here)

pub returns : goal.returns
returns c ps are =
    let breaks = λ (q : List ℕ × Bool). against ps c.args.line (touch q.0 q.1) in
    let left = c.loop-argument.argument-iterator in
    let over = zip_over (iter_rest (zip_first left)) (iter_rest (zip_second left)) (either_empty_from_Zip left c.next.new.self c.next.result c.in-None.is c.next.ensures.steps) in
    c.loop-argument.invariant ps are ∙ ap (flat_map breaks) over
