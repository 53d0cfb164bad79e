use Rattle.std.proofs.Common.{ℕ, true, false, subst, slice_index}
use Rattle.reo_net_base.specs.declared.mark.Mark.{Mark}
use Rattle.reo_net_base.specs.declared.mark.Mark.TheVariants.{G}
use Rattle.reo_net_base.specs.Rows.{alike}
use Rattle.reo_mark_sets.specs.PlainMarks.{has, open_at}
use Rattle.reo_mark_sets.specs.Stars.{apart_mark, center_apart}
use Rattle.reo_mark_sets.specs.Stars.Kind.{apart}
use Rattle.reo_mark_sets.specs.Tallies.{IsTally}
use Rattle.reo_mark_sets.proofs.Starring.{has_told, none_works, aparts_all, aparts_one, aparts_none, aparts_often}
use Rattle.reo_mark_sets.proofs.sets.MarkSets.aparts.Goals as goal

pub returns-then-not-has : goal.returns-then-not-has
returns-then-not-has c =
    let here = has_told c.open_at.result (open_at c.args.self.now (slice_index c.args.places.now c.args.center)) c.center_apart.result (center_apart c.args.star) c.has.result false c.open_at.ensures c.center_apart.ensures c.has.ensures c.if-not-has.true in
    λ x. none_works c.args.star c.args.center c.args.from c.args.to c.args.places.now c.args.self.now c.requires.star (apart x) here

pub returns-in-Nowhere : goal.returns-in-Nowhere
returns-in-Nowhere c =
    let here = has_told c.open_at.result (open_at c.args.self.now (slice_index c.args.places.now c.args.center)) c.center_apart.result (center_apart c.args.star) c.has.result true c.open_at.ensures c.center_apart.ensures c.has.ensures c.if-not-has.false in
    let mute = subst (IsTally (λ (o : ℕ). alike false (has (open_at c.args.self.now (slice_index c.args.places.now o)) G)) c.args.from c.args.to) c.in-Nowhere.is c.tally.ensures in
    let found = subst (λ (m : Mark). IsTally (λ (o : ℕ). alike true (has (open_at c.args.self.now (slice_index c.args.places.now o)) m)) c.args.from c.args.to c.tally-in-Nowhere.result) c.apart_mark.ensures c.tally-in-Nowhere.ensures in
    aparts_all c.args.star c.args.center c.args.from c.args.to c.args.places.now c.args.self.now c.requires.star here c.tally-in-Nowhere.result mute found

pub returns-then-has : goal.returns-then-has
returns-then-has c =
    let here = has_told c.open_at.result (open_at c.args.self.now (slice_index c.args.places.now c.args.center)) c.center_apart.result (center_apart c.args.star) c.has.result true c.open_at.ensures c.center_apart.ensures c.has.ensures c.if-not-has.false in
    let mute = subst (IsTally (λ (o : ℕ). alike false (has (open_at c.args.self.now (slice_index c.args.places.now o)) G)) c.args.from c.args.to) c.in-Once.is c.tally.ensures in
    let there = has_told c.open_at-in-Once.result (open_at c.args.self.now (slice_index c.args.places.now c.in-Once.only)) c.apart_mark-in-Once.result (apart_mark c.args.star) c.has-in-Once.result true c.open_at-in-Once.ensures c.apart_mark-in-Once.ensures c.has-in-Once.ensures c.if-has.true in
    aparts_one c.args.star c.args.center c.args.from c.args.to c.args.places.now c.args.self.now c.requires.star here c.in-Once.only mute there

pub returns-else-has : goal.returns-else-has
returns-else-has c =
    let here = has_told c.open_at.result (open_at c.args.self.now (slice_index c.args.places.now c.args.center)) c.center_apart.result (center_apart c.args.star) c.has.result true c.open_at.ensures c.center_apart.ensures c.has.ensures c.if-not-has.false in
    let mute = subst (IsTally (λ (o : ℕ). alike false (has (open_at c.args.self.now (slice_index c.args.places.now o)) G)) c.args.from c.args.to) c.in-Once.is c.tally.ensures in
    let there = has_told c.open_at-in-Once.result (open_at c.args.self.now (slice_index c.args.places.now c.in-Once.only)) c.apart_mark-in-Once.result (apart_mark c.args.star) c.has-in-Once.result false c.open_at-in-Once.ensures c.apart_mark-in-Once.ensures c.has-in-Once.ensures c.if-has.false in
    aparts_none c.args.star c.args.center c.args.from c.args.to c.args.places.now c.args.self.now c.requires.star here c.in-Once.only mute there

pub returns-in-Often : goal.returns-in-Often
returns-in-Often c =
    let here = has_told c.open_at.result (open_at c.args.self.now (slice_index c.args.places.now c.args.center)) c.center_apart.result (center_apart c.args.star) c.has.result true c.open_at.ensures c.center_apart.ensures c.has.ensures c.if-not-has.false in
    let mute = subst (IsTally (λ (o : ℕ). alike false (has (open_at c.args.self.now (slice_index c.args.places.now o)) G)) c.args.from c.args.to) c.in-Often.is c.tally.ensures in
    aparts_often c.args.star c.args.center c.args.from c.args.to c.args.places.now c.args.self.now c.requires.star here mute
