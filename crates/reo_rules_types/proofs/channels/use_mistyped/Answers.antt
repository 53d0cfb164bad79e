-- The argument of a place against the parameter of that place.
use Rattle.std.proofs.Common.{arith, ◌≡◌, ◌∙◌, ℕ, get_or, List, slice_get, refl, sym, ap}
use Rattle.std.specs.Prelude.{not}
use Rattle.std.proofs.lemmas.Option.{slice_get_within}
use Rattle.reo_values.specs.declared.kindred.Kindred.{Kindred}
use Rattle.reo_rules.specs.Types.{type_named, is_same}
use Rattle.reo_rules_types.specs.Scoped.{typed, number_named}
use Rattle.reo_rules_types.proofs.Scoped.{named_there}
use Rattle.reo_rules_types.proofs.Signed.{zip_more, zip_hit, of_place, as_many}
use Rattle.reo_rules_types.proofs.channels.use_mistyped.Goals as goal
use Rattle.reo_rules_types.proofs.channels.use_mistyped.Goals.{else-place-numbers-via-then-place-numbers+else-not-alike, else-place-numbers-via-else-place-numbers}

pub returns-then-not-alike : goal.returns-then-not-alike
returns-then-not-alike c kinds are =
    let types = c.args.types.now in
    let es = c.args.scope.now in
    let i = c.loop-place.place in
    let x = c.index-arguments-place.result in
    let here = of_place types c.args.numbers.now kinds i (get_or c.args.numbers.now i 0) are c.if-place-numbers.true refl in
    let there = ap (slice_get types) (c.find-number.ensures ∙ ap (number_named es) c.as_slice.ensures) ∙ named_there types x es c.requires in
    let same = c.alike.ensures (type_named (typed types es) x) here.0 there here.2 in
    sym (zip_hit (λ (q : List ℕ × Kindred). not (is_same (type_named (typed types es) q.0) q.1)) c.args.arguments.now kinds i x here.0 c.loop-place-test.true c.index-arguments-place.is here.1
    (ap not (sym same ∙ c.if-not-alike.true)))

pub loop-place-preserved : goal.loop-place-preserved
loop-place-preserved c kinds are =
    let types = c.args.types.now in
    let es = c.args.scope.now in
    let i = c.loop-place.place in
    let x = c.index-arguments-place.result in
    let there = ap (slice_get types) (c.find-number.ensures ∙ ap (number_named es) c.as_slice.ensures) ∙ named_there types x es c.requires in
    zip_more (λ (q : List ℕ × Kindred). not (is_same (type_named (typed types es) q.0) q.1)) c.args.arguments.now kinds i x c.loop-place-test.true c.index-arguments-place.is (c.loop-place.invariant kinds are)
    (elim c.else-place-numbers.branch [
      | else-place-numbers-via-then-place-numbers+else-not-alike w ↦ λ y at.
          let here = of_place types c.args.numbers.now kinds i (get_or c.args.numbers.now i 0) are w.if-place-numbers.true refl in
          let same = w.alike.ensures (type_named (typed types es) x) here.0 there here.2 in
          let one : here.0 ≡ y = grind (arith, here.1, at) in
          ap (λ k. not (is_same (type_named (typed types es) x) k)) (sym one) ∙ ap not (sym same ∙ w.if-not-alike.false)
      | else-place-numbers-via-else-place-numbers w ↦ λ y at. absurd (omega (arith, slice_get_within kinds i y at, as_many types c.args.numbers.now kinds are, w.if-place-numbers.false))
    ])
