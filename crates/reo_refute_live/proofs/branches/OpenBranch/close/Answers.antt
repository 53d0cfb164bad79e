use Rattle.std.proofs.Common.{◌∙◌, ◌+◌, ◌<◌, ◌≤◌, List, [], ◌∷◌, ◌++◌, length, ap, sym, subst, arith}
use Rattle.std.specs.List.{All}
use Rattle.reo_joint_values.specs.Values.{Family}
use Rattle.reo_refute_base.specs.Live.{live_at}
use Rattle.reo_refute_live.specs.support.Families.{family_of}
use Rattle.reo_refute_live.specs.declared.branches.Split.{Split}
use Rattle.reo_refute_live.specs.declared.trail.Gone.{Gone}
use Rattle.reo_refute_live.specs.OpenBranch.{all_to_come, IsSplit, AreNested}
use Rattle.reo_refute_live.proofs.OpenLemmas.{open_last, none_to_come, next_open, split_after, split_before, splits_after, splits_before, nested_front, nested_last, nested_more}
use Rattle.reo_refute_live.proofs.TrailLemmas.{all_front, all_last, all_more, none_since}
use Rattle.reo_refute_live.proofs.branches.OpenBranch.close.Goals as goal

pub hold-requires-clause-values : goal.hold-requires-clause-values
hold-requires-clause-values c =
    let split : Split = c.in-Some.split in
    let lists = c.args.lists.now in
    let rest : List Split = c.pop.new.self in
    let live : Family = family_of c.loop-split.self.table in
    let gone : List Gone = c.loop-split.self.gone in
    let mid : Family = family_of c.come_back.new.table in
    let left : List Gone = c.come_back.new.gone in
    let back = c.come_back.ensures.lost in
    let all : All (IsSplit lists live gone) (rest ++ (split ∷ [])) = subst (All (IsSplit lists live gone)) c.in-Some.ensures c.loop-split.invariant.splits in
    let since : split.gone ≤ length left = omega (arith, c.come_back.ensures.count) in
    let is : IsSplit lists mid left split = split_before lists mid live left gone back split since (all_last (IsSplit lists live gone) rest split all) in
    let past : length left ≤ split.gone = omega (arith, c.come_back.ensures.count) in
    is.values_are ∙ ap (λ (f : Family). live_at lists f split.joint) (none_since mid left split.gone past)

pub returns-then-split-len-clause-open : goal.returns-then-split-len-clause-open
returns-then-split-len-clause-open c = λ _.
    let split : Split = c.in-Some.split in
    let lists = c.args.lists.now in
    let rest : List Split = c.pop.new.self in
    let live : Family = family_of c.loop-split.self.table in
    let gone : List Gone = c.loop-split.self.gone in
    let mid : Family = family_of c.come_back.new.table in
    let left : List Gone = c.come_back.new.gone in
    let back = c.come_back.ensures.lost in
    let all : All (IsSplit lists live gone) (rest ++ (split ∷ [])) = subst (All (IsSplit lists live gone)) c.in-Some.ensures c.loop-split.invariant.splits in
    let since : split.gone ≤ length left = omega (arith, c.come_back.ensures.count) in
    let is : IsSplit lists mid left split = split_before lists mid live left gone back split since (all_last (IsSplit lists live gone) rest split all) in
    let nested : AreNested (rest ++ (split ∷ [])) = subst AreNested c.in-Some.ensures c.loop-split.invariant.nested in
    let inner : All (λ (t : Split). t.gone ≤ split.gone) rest = nested_last rest split nested in
    let le : All (λ (t : Split). t.gone ≤ length left) rest = λ k d lt. omega (arith, c.come_back.ensures.count, inner k d lt) in
    let now : Family = family_of c.hold.new.table in
    let held = c.in_ok-hold.ensures.lost in
    let after : Split = record split { next = split.next + 1 } in
    let one : IsSplit lists mid left after = record { since = is.since; joint = is.joint; values_are = is.values_are } in
    record {
      kept = c.in_ok-hold.ensures.kept;
      splits = subst (All (IsSplit lists now c.hold.new.gone)) (sym c.in_ok-push.ensures.ok)
          (all_more (IsSplit lists now c.hold.new.gone) rest after
          (splits_after lists mid now left c.hold.new.gone held rest (splits_before lists mid live left gone back rest le (all_front (IsSplit lists live gone) rest split all)))
          (split_after lists mid now left c.hold.new.gone held after one));
      nested = subst AreNested (sym c.in_ok-push.ensures.ok) (nested_more rest after (nested_front rest split nested) inner);
    }

pub returns-then-split-len-clause-next : goal.returns-then-split-len-clause-next
returns-then-split-len-clause-next c =
    let split : Split = c.in-Some.split in
    let lists = c.args.lists.now in
    let rest : List Split = c.pop.new.self in
    let live : Family = family_of c.loop-split.self.table in
    let gone : List Gone = c.loop-split.self.gone in
    let mid : Family = family_of c.come_back.new.table in
    let left : List Gone = c.come_back.new.gone in
    let back = c.come_back.ensures.lost in
    let all : All (IsSplit lists live gone) (rest ++ (split ∷ [])) = subst (All (IsSplit lists live gone)) c.in-Some.ensures c.loop-split.invariant.splits in
    let since : split.gone ≤ length left = omega (arith, c.come_back.ensures.count) in
    let is : IsSplit lists mid left split = split_before lists mid live left gone back split since (all_last (IsSplit lists live gone) rest split all) in
    let nested : AreNested (rest ++ (split ∷ [])) = subst AreNested c.in-Some.ensures c.loop-split.invariant.nested in
    let inner : All (λ (t : Split). t.gone ≤ split.gone) rest = nested_last rest split nested in
    let le : All (λ (t : Split). t.gone ≤ length left) rest = λ k d lt. omega (arith, c.come_back.ensures.count, inner k d lt) in
    let now : Family = family_of c.hold.new.table in
    let held = c.in_ok-hold.ensures.lost in
    let after : Split = record split { next = split.next + 1 } in
    let lt : split.next < length split.values = omega (arith, c.if-split-len.true, c.len.ensures) in
    sym c.loop-split.invariant.open_is ∙ ap (all_to_come live gone) c.in-Some.ensures
    ∙ next_open lists live mid now gone left c.hold.new.gone back held rest le split (sym c.come_back.ensures.count) c.at-value.result.now lt c.at-value.ensures c.in_ok-hold.ensures.alone
    ∙ ap (λ (l : List Split). now ∷ all_to_come now c.hold.new.gone l) (sym c.in_ok-push.ensures.ok)

pub loop-split-preserved : goal.loop-split-preserved
loop-split-preserved c =
    let split : Split = c.in-Some.split in
    let live : Family = family_of c.loop-split.self.table in
    let gone : List Gone = c.loop-split.self.gone in
    let all : All (IsSplit c.args.lists.now live gone) (c.pop.new.self ++ (split ∷ [])) = subst (All (IsSplit c.args.lists.now live gone)) c.in-Some.ensures c.loop-split.invariant.splits in
    record {
      kept = c.loop-split.invariant.kept;
      splits = all_front (IsSplit c.args.lists.now live gone) c.pop.new.self split all;
      nested = nested_front c.pop.new.self split (subst AreNested c.in-Some.ensures c.loop-split.invariant.nested);
      open_is =
          ap (λ (l : List Family). l ++ all_to_come live gone c.pop.new.self) (sym (none_to_come live gone split (omega (arith, c.if-split-len.false, c.len.ensures))))
          ∙ sym (open_last live gone c.pop.new.self split) ∙ ap (all_to_come live gone) (sym c.in-Some.ensures) ∙ c.loop-split.invariant.open_is;
    }
