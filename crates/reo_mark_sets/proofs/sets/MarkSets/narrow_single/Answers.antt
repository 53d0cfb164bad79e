use Rattle.std.proofs.Common.{◌≡◌, ◌∙◌, ap, set, slice_index, List}
use Rattle.reo_net_base.specs.Tables.{rows_of}
use Rattle.reo_mark_sets.specs.declared.marks.PlainMarks.{PlainMarks}
use Rattle.reo_mark_sets.specs.Listed.{fits_one, used_at}
use Rattle.reo_mark_sets.specs.PlainMarks.{open_at}
use Rattle.reo_mark_sets.proofs.Narrowed.{single_narrowed, single_some}
use Rattle.reo_mark_sets.proofs.sets.MarkSets.narrow_single.Goals as goal

pub returns : goal.returns
returns c =
    let S : List PlainMarks = c.args.self.now in
    let used : c.narrowed_one-marks.result ≡ used_at (rows_of c.args.table) (fits_one (open_at S (slice_index c.args.places.now 0))) 0 =
    c.narrowed_one-marks.ensures ∙ ap (λ (m : PlainMarks). used_at (rows_of c.args.table) (fits_one m) 0) c.open_at-open.ensures in
    record {
      narrowed = single_narrowed c.args.table c.args.places.now S c.requires.width c.requires.places c.leave.new.self (c.leave.ensures ∙ ap (set S (slice_index c.args.places.now 0)) used);
      some = single_some c.args.table c.args.places.now S c.requires.width c.requires.places c.is_some.result c.narrowed_one-marks.result used c.is_some.ensures;
    }
