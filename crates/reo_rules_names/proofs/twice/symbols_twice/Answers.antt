-- The first symbol that stands twice is the first break.
use Rattle.std.proofs.Common.{◌∙◌, [], subst, sym, ap}
use Rattle.reo_rules.specs.Twice.{twice_among}
use Rattle.reo_rules.specs.Judged.{IsFirst}
use Rattle.reo_rules_names.proofs.AfterLemmas.{judged_err, after_first, after_more, more_seen}
use Rattle.reo_rules_names.proofs.twice.symbols_twice.Goals as goal

pub returns-in_err-once : goal.returns-in_err-once
returns-in_err-once c =
    judged_err c.from_residual.result c.in_err-once.field-0.0 _ c.from_residual.ensures
    (after_first (λ before name. twice_among before c.args.line name) [] c.args.names.now c.loop-name.name-index c.name-item.result c.in_err-once.field-0.0 c.loop-name-test.true c.name-item.is c.loop-name.invariant.1
    (subst (λ seen. IsFirst (twice_among seen c.args.line c.name-item.result) c.in_err-once.field-0.0) c.loop-name.invariant.0 c.in_err-once.ensures.judged))

pub loop-name-preserved : goal.loop-name-preserved
loop-name-preserved c = (
  more_seen c.args.names.now c.loop-name.name-index c.name-item.result c.loop-name-test.true c.name-item.is c.loop-name.invariant.0 c.in_ok-once.ensures.seen,
  after_more (λ before name. twice_among before c.args.line name) [] c.args.names.now c.loop-name.name-index c.name-item.result c.loop-name-test.true c.name-item.is c.loop-name.invariant.1
      (ap (λ seen. twice_among seen c.args.line c.name-item.result) (sym c.loop-name.invariant.0) ∙ c.in_ok-once.ensures.judged),
)
