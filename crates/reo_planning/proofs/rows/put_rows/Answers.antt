use Rattle.std.proofs.Common.{◌≡◌, ◌∙◌, ◌<◌, ℕ, List, [], ◌∷◌, ◌++◌, length, get_or, take, set, sym, subst, arith}
use Rattle.std.proofs.lemmas.List.{length-set}
use Rattle.reo_planning.specs.Written.{AreWritten}
use Rattle.reo_planning.proofs.Writing.{written_more, row_at_side, take_next}
use Rattle.reo_planning.proofs.rows.put_rows.Goals as goal

pub loop-index-preserved : goal.loop-index-preserved
loop-index-preserved c =
    let sides : List ℕ = c.args.sides.now in
    let those : List ℕ = c.args.those.now in
    let m : ℕ = c.loop-index.index in
    let side : ℕ = get_or sides m 0 in
    let lt : m < length sides = omega arith in
    let row_lt : m < length those = omega (arith, c.requires.one_each) in
    record {
      one_each = length-set c.loop-index.rows side (get_or those m 0) ∙ c.loop-index.invariant.one_each;
      written = λ from is.
          let told : get_or those m 0 ≡ get_or from side 0 = row_at_side sides those from m lt is in
          let more : AreWritten (take m sides ++ side ∷ []) from c.args.rows.now (set c.loop-index.rows side (get_or those m 0)) =
          written_more (take m sides) from c.args.rows.now c.loop-index.rows side (get_or those m 0) (c.requires.sides m lt) told (c.loop-index.invariant.written from is) in
          subst (λ (xs : List ℕ). AreWritten xs from c.args.rows.now (set c.loop-index.rows side (get_or those m 0))) (sym (take_next sides m lt)) more;
    }
