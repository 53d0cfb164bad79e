use Rattle.std.proofs.Common.{◌≡◌, ◌++◌, OnOk, subst}
use Rattle.std.specs.List.{flat_map}
use Rattle.reo_expand.specs.base.Steps.{two_in}
use Rattle.reo_expand.specs.base.Judged.{IsWalked}
use Rattle.reo_expand.proofs.programs.Copies.{family_steps, family_made}
use Rattle.reo_expand.proofs.programs.families.family.Goals as goal

pub returns-in_ok-values-in-Some-clause-walked : goal.returns-in_ok-values-in-Some-clause-walked
returns-in_ok-values-in-Some-clause-walked c =
    subst (λ s. IsWalked c.args.walk.now.count s c.numbered.new.walk.count c.numbered.result)
    (family_steps (flat_map two_in c.args.before.now) c.args.uses.now.names c.args.connector.now c.in-Some.number c.as_slice.result.now c.in_ok-values-in-Some.values c.as_slice-values.result.now
    c.in-Some.is c.as_slice.ensures c.in_ok-values-in-Some.ensures c.as_slice-values.ensures)
    c.numbered.ensures.walked

pub returns-in_ok-values-in-Some-clause-made : goal.returns-in_ok-values-in-Some-clause-made
returns-in_ok-values-in-Some-clause-made c =
    subst (λ ds. OnOk c.numbered.result (c.numbered.new.out ≡ c.args.out.now ++ ds))
    (family_made (flat_map two_in c.args.before.now) c.args.uses.now.names c.args.connector.now c.in-Some.number c.as_slice.result.now c.in_ok-values-in-Some.values c.as_slice-values.result.now
    c.in-Some.is c.as_slice.ensures c.in_ok-values-in-Some.ensures c.as_slice-values.ensures)
    c.numbered.ensures.made
