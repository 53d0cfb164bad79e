use Rattle.std.proofs.Common.{◌≡◌, ◌∙◌, true, List, sym, ap, subst}
use Rattle.std.proofs.lemmas.Bool.{and_parts}
use Rattle.reo_net_base.specs.declared.mark.Mark.{Mark}
use Rattle.reo_mark_sets.specs.declared.marks.PlainMarks.{PlainMarks}
use Rattle.reo_mark_sets.specs.PlainMarks.{has, just, met, marks_at, partner}
use Rattle.reo_mark_sets.proofs.Alone.{sole}
use Rattle.reo_mark_sets.proofs.sets.MarkSets.is_sole.Goals as goal

pub returns : goal.returns
returns c = λ holds mark here.
    let S : List PlainMarks = c.args.self.now in
    let both = and_parts c.is_sole.result c.is_some.result holds in
    sole (marks_at S c.args.place) (marks_at S (partner c.args.place))
    (subst (λ (m : PlainMarks). (x : Mark) → has m x ≡ true → m ≡ just x) c.at-marks.ensures (c.is_sole.ensures both.0))
    c.met.result (c.met.ensures ∙ (λ i. met (c.at-marks.ensures i) ((c.at.ensures ∙ ap (marks_at S) c.partner.ensures) i))) (sym c.is_some.ensures ∙ both.1) mark here
