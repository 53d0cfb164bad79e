use Rattle.std.proofs.Common.{arith, ◌≡◌, ◌∙◌, pos, map, length, ap}
use Rattle.std.specs.List.{range_with_len}
use Rattle.std.proofs.lemmas.List.FromFn.{length-map-range_with_len}
use Rattle.reo_expand.specs.base.Expansion.{placed_name}
use Rattle.reo_expand.proofs.items.Sized.{sized}
use Rattle.reo_expand.proofs.items.arrays.names_of.Goals as goal

pub returns-in_ok-names-in-Some-clause-judged : goal.returns-in_ok-names-in-Some-clause-judged
returns-in_ok-names-in-Some-clause-judged c =
    let told = c.in_ok-size-in-Some.ensures.judged in
    let n = c.in_ok-size-in-Some.size in
    let made = c.in_ok-names-in-Some.ensures ∙ ap (λ b. map (λ j. placed_name b (pos j)) (range_with_len 0 n)) c.as_slice.ensures in
    sized c.args.bound.now c.args.line c.args.name.now c.args.size.now c.in-Some.size n c.in_ok-names-in-Some.names c.in-Some.is told.0 told.1 made

pub returns-in_ok-names-in-Some-clause-few : goal.returns-in_ok-names-in-Some-clause-few
returns-in_ok-names-in-Some-clause-few c =
    let n = c.in_ok-size-in-Some.size in
    let few = c.in_ok-size-in-Some.ensures.few in
    let e : length c.in_ok-names-in-Some.names ≡ n = ap length c.in_ok-names-in-Some.ensures ∙ length-map-range_with_len (λ j. placed_name c.as_slice.result.now (pos j)) 0 n in
    omega arith
