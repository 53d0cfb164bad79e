use Rattle.std.proofs.Common.{◌≡◌, ◌∙◌, ◌<◌, ℕ, List, ap, set, length, slice_index, arith}
use Rattle.reo_net_base.specs.Forms.{mark_by}
use Rattle.reo_mark_sets.specs.declared.marks.PlainMarks.{PlainMarks}
use Rattle.reo_mark_sets.specs.PlainMarks.{marks_at, both, just}
use Rattle.reo_mark_sets.proofs.Chosen.{pin_count, pin_others, pin_done, chosen_elsewhere}
use Rattle.reo_mark_sets.proofs.sets.MarkSets.pin_all.Goals as goal

pub restrict-requires : goal.restrict-requires
restrict-requires c = omega (arith, c.requires.places.in_range c.loop-end.end (omega arith), c.loop-end.invariant.one_each)

pub loop-end-preserved : goal.loop-end-preserved
loop-end-preserved c =
    let P : List ℕ = c.args.places.now in
    let S : List PlainMarks = c.args.self.now in
    let N : List PlainMarks = c.loop-end.self in
    let end : ℕ = c.loop-end.end in
    let row : ℕ = c.args.row in
    let inv = c.loop-end.invariant in
    let lt : end < length P = omega arith in
    let is : c.restrict.new.self ≡ set N (slice_index P end) (both (marks_at N (slice_index P end)) (just (mark_by c.args.form row end))) =
    c.restrict.ensures ∙ ap (λ (m : PlainMarks). set N (slice_index P end) (both (marks_at N (slice_index P end)) m)) (c.just.ensures ∙ ap just c.mark.ensures) in
    record {
      one_each = pin_count c.args.form P S N c.restrict.new.self row end c.requires.places lt inv.one_each inv.others is;
      others = pin_others c.args.form P S N c.restrict.new.self row end c.requires.places lt inv.one_each inv.others is;
      done = pin_done c.args.form P S N c.restrict.new.self row end c.requires.places lt inv.one_each inv.others is inv.done;
    }

pub returns : goal.returns
returns c =
    let inv = c.loop-end.invariant in
    let all : c.loop-end.end ≡ length c.args.places.now = omega arith in
    record {
      elsewhere = chosen_elsewhere c.args.places.now c.args.self.now c.loop-end.self c.loop-end.end all inv.one_each inv.others;
      first = c.requires.first;
      exact = λ o m lt. inv.done o m (omega (arith, lt, all));
    }
