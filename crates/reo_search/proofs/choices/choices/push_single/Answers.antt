use Rattle.std.proofs.Common.{◌≡◌, ◌∙◌, ◌<◌, ℕ, List, [], ◌∷◌, length, ap, sym, subst, arith, length-append}
use Rattle.std.proofs.lemmas.List.{get_or_default}
use Rattle.reo_search.specs.choices.Trying.{AreSingles}
use Rattle.reo_search.proofs.choices.Singles.{singles_none, singles_more}
use Rattle.reo_search.proofs.choices.choices.push_single.Goals as goal

pub loop-index-init : goal.loop-index-init
loop-index-init c = record { count = c.len-index.ensures; singles = singles_none c.args.left.now c.args.codes.now c.requires }

pub loop-index-preserved : goal.loop-index-preserved
loop-index-preserved c =
    let left : List (List ℕ) = c.args.left.now in
    let values : List ℕ = c.at-values.result.now in
    let n : ℕ = c.loop-index.index in
    let x : ℕ = c.at.result.now in
    let lt : n < length left = omega (arith, c.loop-index-test.true, c.len-index-end.ensures) in
    let one : length values ≡ 1 = omega (arith, c.if-len-ne1.false, c.len.ensures) in
    let pushed = c.in_ok-push.ensures.ok in
    let singles =
    singles_more left c.args.codes.now c.loop-index.codes n x values c.loop-index.invariant.singles c.loop-index.invariant.count lt
    (c.at-values.ensures ∙ get_or_default left n values [] lt) one (c.at.ensures ∙ get_or_default values 0 x 0 (omega (arith, one))) in
    record {
      count = omega (arith, c.loop-index.invariant.count, ap length pushed, length-append c.loop-index.codes (x ∷ []));
      singles = subst (AreSingles left c.args.codes.now) (sym pushed) singles;
    }
