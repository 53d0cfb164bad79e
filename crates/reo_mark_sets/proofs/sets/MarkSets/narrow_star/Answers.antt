use Rattle.std.proofs.Common.{◌≡◌, ◌∙◌, ℕ, ◌<◌, ◌≤◌, List, length, slice_index, sym, ap, subst, arith}
use Rattle.reo_mark_sets.specs.declared.marks.PlainMarks.{PlainMarks}
use Rattle.reo_mark_sets.specs.PlainMarks.{marks_at, open_at}
use Rattle.reo_mark_sets.specs.Standing.{AreElsewhere}
use Rattle.reo_mark_sets.specs.Stars.{spoke_left}
use Rattle.reo_mark_sets.proofs.Putting.{open_same, one_each_put, others_put, done_put, star_elsewhere, at_center, at_spoke}
use Rattle.reo_mark_sets.proofs.Starring.{star_exact, star_some}
use Rattle.reo_mark_sets.proofs.sets.MarkSets.narrow_star.Goals as goal

pub loop-end-preserved : goal.loop-end-preserved
loop-end-preserved c =
    let inv = c.loop-end.invariant in
    let lt : c.loop-end.end < length c.args.places.now = omega (arith, c.requires.star.spokes_in) in
    let le : c.args.from ≤ c.loop-end.end = omega arith in
    let marks : PlainMarks = c.spoke_left-left.result in
    let f : PlainMarks → ℕ → PlainMarks = λ m o. spoke_left c.args.star c.aparts-aparts.result c.rest_works-rests.result c.other_works-others.result m o in
    let is : marks ≡ f (open_at c.args.self.now (slice_index c.args.places.now c.loop-end.end)) c.loop-end.end =
    c.spoke_left-left.ensures ∙ ap (λ (m : PlainMarks). f m c.loop-end.end) (c.open_at-open.ensures ∙ open_same c.args.places.now c.args.self.now c.loop-end.self c.requires.places c.args.from c.loop-end.end lt inv.one_each inv.others) in
    record {
      one_each = ap (λ (s : List PlainMarks). length s) c.leave.ensures ∙ one_each_put c.args.places.now c.args.self.now c.loop-end.self c.requires.places c.args.from c.loop-end.end lt inv.one_each inv.others marks;
      others = λ x none. ap (λ (s : List PlainMarks). marks_at s x) c.leave.ensures ∙ others_put c.args.places.now c.args.self.now c.loop-end.self c.requires.places c.args.from c.loop-end.end lt inv.one_each inv.others marks x none le;
      done = λ o o_le o_lt. ap (λ (s : List PlainMarks). marks_at s (slice_index c.args.places.now o)) c.leave.ensures
          ∙ done_put c.args.places.now c.args.self.now c.loop-end.self c.requires.places c.args.from c.loop-end.end lt inv.one_each inv.others marks f is inv.done o o_le o_lt;
    }

pub returns : goal.returns
returns c =
    let inv = c.loop-end.invariant in
    let P : List ℕ = c.args.places.now in
    let S : List PlainMarks = c.args.self.now in
    let last : c.loop-end.end ≡ c.args.to = omega (arith, c.requires.star.in_order) in
    let others : (x : ℕ) → ((o : ℕ) → c.args.from ≤ o → o < c.args.to → slice_index P o ≡ x → ⊥) → marks_at c.loop-end.self x ≡ marks_at S x =
    λ x none. inv.others x (λ o le lt same. none o le (omega (arith, lt, last)) same) in
    let whole : List PlainMarks = c.put.new.self in
    let is = star_elsewhere P S c.loop-end.self c.requires.places c.args.center c.args.from c.args.to c.requires.star inv.one_each others c.center_left.result in
    let elsewhere : AreElsewhere P S whole = subst (AreElsewhere P S) (sym c.put.ensures) is in
    record {
      narrowed = star_exact c.args.star c.args.center c.args.from c.args.to P S c.requires.star c.aparts-aparts.result c.rest_works-rests.result c.other_works-others.result c.aparts-aparts.ensures c.rest_works-rests.ensures c.other_works-others.ensures
          whole elsewhere
          (ap (λ (s : List PlainMarks). marks_at s (slice_index P c.args.center)) c.put.ensures ∙ at_center P S c.loop-end.self c.requires.places c.args.center c.args.from c.args.to c.requires.star inv.one_each others c.center_left.result ∙ c.center_left.ensures)
          (λ o le lt. ap (λ (s : List PlainMarks). marks_at s (slice_index P o)) c.put.ensures ∙ at_spoke P S c.loop-end.self c.requires.places c.args.center c.args.from c.args.to c.requires.star inv.one_each others c.center_left.result o le lt ∙ inv.done o le (omega (arith, lt, last)));
      some = star_some c.args.star c.args.center c.args.from c.args.to P S c.requires.star c.aparts-aparts.result c.rest_works-rests.result c.other_works-others.result c.aparts-aparts.ensures c.rest_works-rests.ensures c.other_works-others.ensures c.some_left.result c.some_left.ensures;
    }
