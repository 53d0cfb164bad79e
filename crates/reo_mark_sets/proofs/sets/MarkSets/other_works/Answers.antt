use Rattle.std.proofs.Common.{◌≡◌, ◌↔◌, IsTrue, ℕ, ◌<◌, ◌≤◌, true, false, subst, slice_index, refl}
use Rattle.reo_net_base.specs.declared.mark.Mark.{Mark}
use Rattle.reo_mark_sets.specs.PlainMarks.{has, open_at}
use Rattle.reo_mark_sets.specs.Stars.{other_mark, center_other}
use Rattle.reo_mark_sets.specs.Stars.Kind.{other}
use Rattle.reo_mark_sets.proofs.Starring.{has_told, all_works, none_works}
use Rattle.reo_mark_sets.proofs.sets.MarkSets.other_works.Goals as goal

pub returns-then-has : goal.returns-then-has
returns-then-has c =
    let here = has_told c.open_at.result (open_at c.args.self.now (slice_index c.args.places.now c.args.center)) c.center_other.result (center_other c.args.star) c.has.result true c.open_at.ensures c.center_other.ensures c.has.ensures c.if-has.true in
    let all = subst (λ (m : Mark). IsTrue c.all_open.result ↔ ((o : ℕ) → c.args.from ≤ o → o < c.args.to → has (open_at c.args.self.now (slice_index c.args.places.now o)) m ≡ true)) c.other_mark.ensures c.all_open.ensures in
    all_works c.args.star c.args.center c.args.from c.args.to c.args.places.now c.args.self.now c.requires.star other tt (other_mark c.args.star) (λ o. refl) c.all_open.result all here

pub returns-else-has : goal.returns-else-has
returns-else-has c =
    let here = has_told c.open_at.result (open_at c.args.self.now (slice_index c.args.places.now c.args.center)) c.center_other.result (center_other c.args.star) c.has.result false c.open_at.ensures c.center_other.ensures c.has.ensures c.if-has.false in (
      λ t. absurd (cc),
      λ w. absurd (none_works c.args.star c.args.center c.args.from c.args.to c.args.places.now c.args.self.now c.requires.star other here w),
    )
