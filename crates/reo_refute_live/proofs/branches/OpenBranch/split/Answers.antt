use Rattle.std.proofs.Common.{◌≡◌, ◌∙◌, ◌<◌, ◌≤◌, List, ◌∷◌, ◌++◌, length, map, ap, sym, subst, arith}
use Rattle.std.specs.List.{All}
use Rattle.reo_joint_values.specs.declared.value.JointValue.{JointValue}
use Rattle.reo_joint_values.specs.Values.{Family}
use Rattle.reo_refute_base.specs.Live.{alone, live_at}
use Rattle.reo_refute_live.specs.support.Families.{family_of}
use Rattle.reo_refute_live.specs.declared.branches.Split.{Split}
use Rattle.reo_refute_live.specs.OpenBranch.{all_to_come, IsSplit, AreNested}
use Rattle.reo_refute_live.proofs.OpenLemmas.{split_open, split_after, splits_after, all_since, nested_more, some_first}
use Rattle.reo_refute_live.proofs.TrailLemmas.{all_more, none_since}
use Rattle.reo_refute_live.proofs.branches.OpenBranch.split.Goals as goal

pub returns-clause-open : goal.returns-clause-open
returns-clause-open c =
    let old = c.args.self.now in
    let live : Family = family_of old.table in
    let now : Family = family_of c.hold.new.table in
    let split : Split = record { gone = c.len-gone.result; joint = c.args.joint; values = c.in_ok-values.values; next = 1 } in
    let lost = c.in_ok-hold.ensures.lost in
    let past : length old.gone ≤ c.len-gone.result = omega (arith, c.len-gone.ensures) in
    let is : IsSplit c.args.lists.now live old.gone split = record {
      since = omega (arith, c.len-gone.ensures);
      joint = c.requires.joint;
      values_are = c.in_ok-values.ensures c.args.lists.now c.requires.open.kept.live ∙ ap (λ (f : Family). live_at c.args.lists.now f c.args.joint) (sym (none_since live old.gone c.len-gone.result past));
    } in
    record {
      kept = c.in_ok-hold.ensures.kept;
      splits = subst (All (IsSplit c.args.lists.now now c.hold.new.gone)) (sym c.in_ok-push.ensures.ok)
          (all_more (IsSplit c.args.lists.now now c.hold.new.gone) old.splits split (splits_after c.args.lists.now live now old.gone c.hold.new.gone lost old.splits c.requires.open.splits)
          (split_after c.args.lists.now live now old.gone c.hold.new.gone lost split is));
      nested = subst AreNested (sym c.in_ok-push.ensures.ok) (nested_more old.splits split c.requires.open.nested (λ k d lt. omega (arith, c.len-gone.ensures, (c.requires.open.splits k d lt).since)));
    }

pub returns-clause-branches : goal.returns-clause-branches
returns-clause-branches c =
    let old = c.args.self.now in
    let live : Family = family_of old.table in
    let now : Family = family_of c.hold.new.table in
    let values : List JointValue = c.in_ok-values.values in
    let values_are : values ≡ live_at c.args.lists.now live c.args.joint = c.in_ok-values.ensures c.args.lists.now c.requires.open.kept.live in
    let lt : 0 < length values = some_first values (λ e. c.requires.some (sym values_are ∙ e)) in
    ap (λ (l : List Split). now ∷ all_to_come now c.hold.new.gone l) c.in_ok-push.ensures.ok
    ∙ split_open c.args.lists.now live now old.gone c.hold.new.gone c.in_ok-hold.ensures.lost old.splits (all_since c.args.lists.now live old.gone old.splits c.requires.open.splits)
    c.len-gone.result c.args.joint values c.len-gone.ensures c.at-first.result.now lt c.at-first.ensures c.in_ok-hold.ensures.alone
    ∙ ap (λ (l : List JointValue). map (alone live c.args.joint) l ++ all_to_come live old.gone old.splits) values_are
