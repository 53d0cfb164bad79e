-- Rule by rule.
use Rattle.std.proofs.Common.{◌∙◌, ◌++◌, sym, ap, subst}
use Rattle.reo_flatten.proofs.Sequences.{left_none}
use Rattle.reo_rules.specs.Lists.{first_of}
use Rattle.reo_rules.specs.Rules.{rule_breaks}
use Rattle.reo_rules.specs.Twice.{twice}
use Rattle.reo_rules.specs.Unknown.{unknown}
use Rattle.reo_rules.specs.Mistyped.{mistyped}
use Rattle.reo_rules.specs.Ranges.{out_of_range}
use Rattle.reo_rules.proofs.AfterLemmas.{right_none, first_left, first_right}
use Rattle.reo_flat.specs.Sizes.{no_main, too_many}
use Rattle.reo_flat.specs.Refusals.{breaks}
use Rattle.reo_rules.specs.Judged.{IsFirst}
use Rattle.reo_unfold.specs.Fits.{AreFit}
use Rattle.reo_flatten.proofs.NoCycles.{refused_by}
use Rattle.reo_flatten.proofs.MainLemmas.{main_there, main_missing}
use Rattle.reo_flatten.proofs.CountLemmas.{too_many_is}
use Rattle.reo_flatten.proofs.PartLemmas.{no_breaks, refused_err}
use Rattle.reo_flatten.proofs.FitLemmas.{are_fit}
use Rattle.reo_flatten.proofs.whole.flatten.Goals as goal

pub returns-in_err-judge-clause-exact : goal.returns-in_err-judge-clause-exact
returns-in_err-judge-clause-exact c =
    let p = c.args.program.now in
    refused_err p c.from_residual.result c.in_err-judge.field-0.0 c.from_residual.ensures
    (refused_by p c.in_err-judge.field-0.0 (first_left (rule_breaks p.declarations) _ c.in_err-judge.field-0.0 c.in_err-judge.ensures))

pub ground_of-requires : goal.ground_of-requires
ground_of-requires c =
    let p = c.args.program.now in
    let e = c.as_slice-declarations.ensures in
    let seen = c.as_slice-declarations.result.now in
    let rules = ap rule_breaks e ∙ c.in_ok-judge.ensures in
    left_none (twice seen) _ rules

pub returns-then-is_large-clause-exact : goal.returns-then-is_large-clause-exact
returns-then-is_large-clause-exact c =
    let p = c.args.program.now in
    let e = c.as_slice-declarations.ensures in
    let seen = c.as_slice-declarations.result.now in
    let rules = ap rule_breaks e ∙ c.in_ok-judge.ensures in
    let ground = c.in_ok-ground.ensures in
    let main = main_there seen _ c.in-Some.number ground (sym c.find.ensures ∙ c.in-Some.is) in
    let many = too_many_is seen (c.is_large.ensures.large c.if-is_large.true) in
    ap (λ ds. first_of (breaks ds)) (sym e) ∙ (λ i. first_of (rules i ++ (main i ++ many i)))

pub parts_of-requires-clause-fit : goal.parts_of-requires-clause-fit
parts_of-requires-clause-fit c =
    let p = c.args.program.now in
    let ds = p.declarations in
    let none = c.in_ok-judge.ensures in
    let range = left_none (out_of_range ds) _ (right_none (mistyped ds) _ (right_none (unknown ds) _ (right_none (twice ds) _ none))) in
    subst AreFit (sym c.as_slice-declarations.ensures) (are_fit p c.requires.spelled (left_none (twice ds) _ none) range)

pub returns-in_err-parts-in-Some-clause-exact : goal.returns-in_err-parts-in-Some-clause-exact
returns-in_err-parts-in-Some-clause-exact c =
    let p = c.args.program.now in
    let e = c.as_slice-declarations.ensures in
    let seen = c.as_slice-declarations.result.now in
    let rules = ap rule_breaks e ∙ c.in_ok-judge.ensures in
    let d = c.in_err-parts-in-Some.field-0.0 in
    let ground = c.in_ok-ground.ensures in
    let main = main_there seen _ c.in-Some.number ground (sym c.find.ensures ∙ c.in-Some.is) in
    refused_err p c.from_residual-in_err-parts-in-Some.result d c.from_residual-in_err-parts-in-Some.ensures
    (refused_by p d (subst (λ ds. IsFirst (breaks ds) d) e
    (first_right (rule_breaks seen) (no_main seen ++ too_many seen) d rules (first_right (no_main seen) (too_many seen) d main c.in_err-parts-in-Some.ensures.judged))))

pub close-requires-clause-no_break : goal.close-requires-clause-no_break
close-requires-clause-no_break c =
    let p = c.args.program.now in
    let e = c.as_slice-declarations.ensures in
    let seen = c.as_slice-declarations.result.now in
    let rules = ap rule_breaks e ∙ c.in_ok-judge.ensures in
    let ground = c.in_ok-ground.ensures in
    let main = main_there seen _ c.in-Some.number ground (sym c.find.ensures ∙ c.in-Some.is) in
    ap breaks (sym e) ∙ no_breaks seen rules main c.in_ok-parts-in-Some.ensures.judged

pub returns-clause-exact : goal.returns-clause-exact
returns-clause-exact c =
    let p = c.args.program.now in
    let e = c.as_slice-declarations.ensures in
    let seen = c.as_slice-declarations.result.now in
    let rules = ap rule_breaks e ∙ c.in_ok-judge.ensures in
    let missing = main_missing seen _ c.in_ok-ground.ensures (sym c.find.ensures ∙ c.in-None.is) in
    ap (λ ds. first_of (breaks ds)) (sym e) ∙ (λ i. first_of (rules i ++ (missing i ++ too_many seen)))
