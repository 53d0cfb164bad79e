use Rattle.std.proofs.Common.{◌≡◌, ◌∙◌, ◌&&◌, true, refl, sym, subst}
use Rattle.std.proofs.lemmas.Bool.{and_parts}
use Rattle.reo_net_base.specs.declared.form.Form.TheVariants.{Double}
use Rattle.reo_net_base.specs.declared.mark.Mark.{Mark}
use Rattle.reo_net_base.specs.Forms.{mark_by}
use Rattle.reo_mark_sets.specs.declared.marks.PlainMarks.{PlainMarks}
use Rattle.reo_mark_sets.specs.PlainMarks.{has}
use Rattle.reo_mark_sets.proofs.Alone.{holds_sole, fixed_two}
use Rattle.reo_mark_sets.proofs.Chosen.{double_first}
use Rattle.reo_mark_sets.proofs.sets.MarkSets.fixed_double.Goals as goal

pub returns-then-first-is_sole : goal.returns-then-first-is_sole
returns-then-first-is_sole c =
    let first = c.first_two-first in
    let first_mark : Mark = mark_by (Double c.args.table) first.result.row 0 in
    let second_mark : Mark = mark_by (Double c.args.table) first.result.row 1 in
    let all = and_parts first.result.fits (c.is_sole.result && c.is_sole-2.result) c.if-first-is_sole.true in
    let fits = and_parts (has c.at.result first_mark) (has c.at-2.result second_mark) (sym first.ensures.fits ∙ all.0) in
    let soles = and_parts c.is_sole.result c.is_sole-2.result all.1 in
    fixed_two (Double c.args.table) c.args.places.now first.result.row c.args.self.now c.requires.width
    (double_first c.args.table c.args.places.now c.args.self.now c.requires.width c.at.result c.at-2.result c.at.ensures c.at-2.ensures first.result.row first.ensures.row)
    (holds_sole (Double c.args.table) c.args.places.now first.result.row c.args.self.now 0 first_mark refl
    (subst (λ (m : PlainMarks). has m first_mark ≡ true) c.at.ensures fits.0) (c.is_sole.ensures soles.0))
    (holds_sole (Double c.args.table) c.args.places.now first.result.row c.args.self.now 1 second_mark refl
    (subst (λ (m : PlainMarks). has m second_mark ≡ true) c.at-2.ensures fits.1) (c.is_sole-2.ensures soles.1))
