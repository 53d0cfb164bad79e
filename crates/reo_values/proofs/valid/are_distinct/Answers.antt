use Rattle.std.proofs.Common.{◌≡◌, ◌∙◌, [], get_or, take, subst, sym}
use Rattle.std.specs.List.{Contains}
use Rattle.std.proofs.lemmas.List.{get_or_default}
use Rattle.reo_values.proofs.Distinct.{Apart-more}
use Rattle.reo_values.proofs.valid.are_distinct.Goals as goal

pub loop-place-preserved : goal.loop-place-preserved
loop-place-preserved c =
    let name : c.as_slice.result.now ≡ get_or c.args.names.now c.loop-place.place [] =
    c.as_slice.ensures ∙ c.index-names-place.is ∙ get_or_default c.args.names.now c.loop-place.place c.index-names-place.result [] c.loop-place-test.true in
    Apart-more c.args.names.now c.loop-place.place c.loop-place-test.true c.loop-place.invariant
    (λ among. let yes = c.if-is_among.ensures.1 (subst (λ l. Contains (take c.loop-place.place c.args.names.now) l) (sym name) among) in cc yes)
