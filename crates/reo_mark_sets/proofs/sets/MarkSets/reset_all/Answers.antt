use Rattle.std.proofs.Common.{◌∙◌, ℕ, List, ap, slice_index, length, arith}
use Rattle.std.proofs.lemmas.List.{length-set}
use Rattle.reo_mark_sets.specs.declared.marks.PlainMarks.{PlainMarks}
use Rattle.reo_mark_sets.specs.PlainMarks.{marks_at, all_marks}
use Rattle.reo_mark_sets.proofs.Resetting.{reset_stays, reset_here}
use Rattle.reo_mark_sets.proofs.sets.MarkSets.reset_all.Goals as goal

pub reset-requires : goal.reset-requires
reset-requires c = omega (arith, c.requires c.loop-end.end (omega arith), c.loop-end.invariant.one_each)

pub loop-end-preserved : goal.loop-end-preserved
loop-end-preserved c =
    let N : List PlainMarks = c.loop-end.self in
    let P : List ℕ = c.args.places.now in
    let end : ℕ = c.loop-end.end in
    let inv = c.loop-end.invariant in
    let place_in = c.requires end (omega arith) in
    record {
      one_each = ap (λ (s : List PlainMarks). length s) c.reset.ensures ∙ length-set N (slice_index P end) all_marks ∙ inv.one_each;
      here = λ o lt. ap (λ (s : List PlainMarks). marks_at s (slice_index P o)) c.reset.ensures ∙ reset_here N P end (omega (arith, place_in, inv.one_each)) inv.here o lt;
      stays = λ x is. ap (λ (s : List PlainMarks). marks_at s x) c.reset.ensures ∙ reset_stays N (slice_index P end) x (omega (arith, place_in, inv.one_each)) (inv.stays x is);
    }

pub returns : goal.returns
returns c =
    let inv = c.loop-end.invariant in
    record {
      one_each = inv.one_each;
      here = λ o lt. inv.here o (omega (arith, lt));
      stays = inv.stays;
    }
