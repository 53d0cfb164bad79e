-- Each row can be a group of its own.
use Rattle.std.proofs.Common.{ℕ, refl, sym, ap, subst, ◌∙◌, None, arith}
use Rattle.reo_net_base.specs.Lawful.{GivesAt}
use Rattle.reo_net_base.specs.OwnGroups.{with_own_groups, OwnGroupsAreGroups}

pub own_groups : OwnGroupsAreGroups
own_groups b = record {
  group_in = λ side row h k. k;
  few_groups = λ side h. omega arith;
  apart_end = λ side row end h k is. cc;
  common_mark = λ side row end h k e n. refl;
  given_alike = λ side row other end are gives alone. (ap (λ (r : ℕ). b.from side r end) (sym are.one_group) ∙ alone, ap (λ (r : ℕ). b.given side r end None) are.one_group);
  let_in_alike = λ side row other end item are takes. ap (λ (r : ℕ). b.passes side r end item) are.one_group;
  decides_alike = λ side row other end giver are takes gives from. (
    subst (λ (r : ℕ). GivesAt (with_own_groups b) side r giver) are.one_group gives,
    ap (λ (r : ℕ). b.from side r giver) (sym are.one_group) ∙ from,
    λ taken. ap (λ (r : ℕ). b.given side r giver taken) are.one_group,
  );
}
