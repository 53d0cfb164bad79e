use Rattle.std.proofs.Common.{◌≡◌, ◌∙◌, true, refl, sym, subst}
use Rattle.std.proofs.lemmas.Bool.{and_parts}
use Rattle.reo_net_base.specs.declared.form.Form.TheVariants.{Single}
use Rattle.reo_net_base.specs.Forms.{mark_by}
use Rattle.reo_mark_sets.specs.declared.marks.PlainMarks.{PlainMarks}
use Rattle.reo_mark_sets.specs.PlainMarks.{has}
use Rattle.reo_mark_sets.proofs.Alone.{holds_sole, fixed_one}
use Rattle.reo_mark_sets.proofs.Chosen.{single_first}
use Rattle.reo_mark_sets.proofs.sets.MarkSets.fixed_single.Goals as goal

pub returns-then-first-is_sole : goal.returns-then-first-is_sole
returns-then-first-is_sole c =
    let first = c.first_one-first in
    let both = and_parts first.result.fits c.is_sole.result c.if-first-is_sole.true in
    fixed_one (Single c.args.table) c.args.places.now first.result.row c.args.self.now c.requires.width
    (single_first c.args.table c.args.places.now c.args.self.now c.requires.width c.at.result c.at.ensures first.result.row first.ensures.row)
    (holds_sole (Single c.args.table) c.args.places.now first.result.row c.args.self.now 0 (mark_by (Single c.args.table) first.result.row 0) refl
    (subst (λ (m : PlainMarks). has m (mark_by (Single c.args.table) first.result.row 0) ≡ true) c.at.ensures (sym first.ensures.fits ∙ both.0)) (c.is_sole.ensures both.1))
