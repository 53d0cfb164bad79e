use Rattle.std.proofs.Common.{length}
use Rattle.reo_net_base.specs.declared.form.Form.TheVariants.{Merging}
use Rattle.reo_mark_sets.specs.declared.stars.Star.TheVariants.{Merger}
use Rattle.reo_mark_sets.proofs.Formed.{narrowed_by_kind, some_by_kind, merger_row, merger_kinds, merger_star}
use Rattle.reo_mark_sets.proofs.sets.MarkSets.narrow_merging.Goals as goal

pub narrow_star-requires-clause-star : goal.narrow_star-requires-clause-star
narrow_star-requires-clause-star c = merger_star c.args.branches.count (length c.args.places.now) c.requires.width

pub returns-clause-narrowed : goal.returns-clause-narrowed
returns-clause-narrowed c =
    narrowed_by_kind (Merging c.args.branches) Merger c.args.branches.count 0 c.args.branches.count (merger_row c.args.branches.count) c.args.places.now c.args.self.now (merger_kinds c.args.branches (length c.args.places.now) c.requires.width) c.narrow_star.new.self c.narrow_star.ensures.narrowed

pub returns-clause-some : goal.returns-clause-some
returns-clause-some c =
    let by = some_by_kind (Merging c.args.branches) Merger c.args.branches.count 0 c.args.branches.count (merger_row c.args.branches.count) c.args.places.now c.args.self.now (merger_kinds c.args.branches (length c.args.places.now) c.requires.width) in
    (λ t. by.0 (c.narrow_star.ensures.some.0 t), λ w. c.narrow_star.ensures.some.1 (by.1 w))
