use Rattle.std.proofs.Common.{◌≡◌, ◌∙◌, ap, set, slice_index, List}
use Rattle.reo_net_base.specs.Tables.{rows_of}
use Rattle.reo_mark_sets.specs.declared.listed.Pair.{Pair}
use Rattle.reo_mark_sets.specs.declared.marks.PlainMarks.{PlainMarks}
use Rattle.reo_mark_sets.specs.Listed.{used_pair}
use Rattle.reo_mark_sets.specs.PlainMarks.{open_at}
use Rattle.reo_mark_sets.proofs.Narrowed.{double_narrowed, double_some}
use Rattle.reo_mark_sets.proofs.sets.MarkSets.narrow_double.Goals as goal

pub returns : goal.returns
returns c =
    let S : List PlainMarks = c.args.self.now in
    let pair : Pair = c.narrowed_two-pair.result in
    let used : pair ≡ used_pair (rows_of c.args.table) (open_at S (slice_index c.args.places.now 0)) (open_at S (slice_index c.args.places.now 1)) =
    c.narrowed_two-pair.ensures ∙ (λ i. used_pair (rows_of c.args.table) (c.open_at-first.ensures i) (c.open_at-second.ensures i)) in
    record {
      narrowed = double_narrowed c.args.table c.args.places.now S c.requires.width c.requires.places c.leave-2.new.self
          (c.leave-2.ensures ∙ ap (λ (s : List PlainMarks). set s (slice_index c.args.places.now 1) pair.second) c.leave.ensures
          ∙ ap (λ (p : Pair). set (set S (slice_index c.args.places.now 0) p.first) (slice_index c.args.places.now 1) p.second) used);
      some = double_some c.args.table c.args.places.now S c.requires.width c.requires.places c.is_some.result pair.first (ap (λ (p : Pair). p.first) used) c.is_some.ensures;
    }
