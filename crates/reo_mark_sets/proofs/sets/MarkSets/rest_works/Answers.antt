use Rattle.std.proofs.Common.{◌≡◌, ◌∙◌, true, false, sym, ap, slice_index, refl}
use Rattle.reo_net_base.specs.declared.mark.Mark.TheVariants.{G, R}
use Rattle.reo_mark_sets.specs.PlainMarks.{has, open_at}
use Rattle.reo_mark_sets.specs.Stars.Kind.{rest}
use Rattle.reo_mark_sets.proofs.Starring.{all_works, none_works}
use Rattle.reo_mark_sets.proofs.sets.MarkSets.rest_works.Goals as goal

pub returns-then-open_at : goal.returns-then-open_at
returns-then-open_at c =
    let here : has (open_at c.args.self.now (slice_index c.args.places.now c.args.center)) R ≡ true = ap (λ m. has m R) (sym c.open_at.ensures) ∙ c.if-open_at.true in
    all_works c.args.star c.args.center c.args.from c.args.to c.args.places.now c.args.self.now c.requires.star rest tt G (λ o. refl) c.all_open.result c.all_open.ensures here

pub returns-else-open_at : goal.returns-else-open_at
returns-else-open_at c =
    let here : has (open_at c.args.self.now (slice_index c.args.places.now c.args.center)) R ≡ false = ap (λ m. has m R) (sym c.open_at.ensures) ∙ c.if-open_at.false in (
      λ t. absurd (cc),
      λ w. absurd (none_works c.args.star c.args.center c.args.from c.args.to c.args.places.now c.args.self.now c.requires.star rest here w),
    )
