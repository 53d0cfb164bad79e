use Rattle.std.proofs.Common.{◌≡◌, ◌∙◌, ℕ, ◌+◌, Bool, true, sym, ap, subst, arith, slice_index}
use Rattle.reo_net_base.specs.Rows.{alike}
use Rattle.reo_mark_sets.specs.PlainMarks.{has, open_at}
use Rattle.reo_mark_sets.specs.Tallies.{IsTally}
use Rattle.reo_mark_sets.proofs.Tallying.{alike_same, alike_other, tally_skip, tally_first, tally_often}
use Rattle.reo_mark_sets.proofs.sets.MarkSets.tally.Goals as goal
use Rattle.reo_mark_sets.proofs.sets.MarkSets.tally.Goals.{then-has-wanted+in-Nowhere, else-has-wanted}

pub returns-in_default : goal.returns-in_default
returns-in_default c =
    let test : ℕ → Bool = λ o. alike c.args.wanted (has (open_at c.args.self.now (slice_index c.args.places.now o)) c.args.mark) in
    let here : test c.loop-index.index ≡ true = ap (alike c.args.wanted) (sym (c.has.ensures ∙ ap (λ m. has m c.args.mark) c.open_at.ensures)) ∙ alike_same c.args.wanted c.has.result c.if-has-wanted.true in
    tally_often test c.args.from c.loop-index.index c.loop-index.tally _ c.in_default.not-Nowhere here (omega arith) c.loop-index.invariant

pub loop-index-preserved : goal.loop-index-preserved
loop-index-preserved c =
    let test : ℕ → Bool = λ o. alike c.args.wanted (has (open_at c.args.self.now (slice_index c.args.places.now o)) c.args.mark) in
    let is : test c.loop-index.index ≡ alike c.args.wanted c.has.result = ap (alike c.args.wanted) (sym (c.has.ensures ∙ ap (λ m. has m c.args.mark) c.open_at.ensures)) in
    elim c.if-has-wanted.branch [
      | then-has-wanted+in-Nowhere w ↦
          subst (IsTally test c.args.from (c.loop-index.index + 1)) (sym w.tally-is)
          (tally_first test c.args.from c.loop-index.index (omega arith) (is ∙ alike_same c.args.wanted c.has.result w.if-has-wanted.true) (subst (IsTally test c.args.from c.loop-index.index) w.in-Nowhere.is c.loop-index.invariant))
      | else-has-wanted w ↦
          subst (IsTally test c.args.from (c.loop-index.index + 1)) (sym w.tally-is)
          (tally_skip test c.args.from c.loop-index.index c.loop-index.tally (is ∙ alike_other c.args.wanted c.has.result w.if-has-wanted.false) c.loop-index.invariant)
    ]

pub returns : goal.returns
returns c =
    let all : c.loop-index.index ≡ c.args.to = omega arith in
    subst (λ (n : ℕ). IsTally (λ (o : ℕ). alike c.args.wanted (has (open_at c.args.self.now (slice_index c.args.places.now o)) c.args.mark)) c.args.from n c.loop-index.tally) all c.loop-index.invariant
