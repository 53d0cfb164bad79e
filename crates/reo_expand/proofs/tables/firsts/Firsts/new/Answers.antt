use Rattle.std.proofs.Common.{arith, ◌≡◌, ◌≤◌, true, false, length, take, subst}
use Rattle.std.proofs.lemmas.List.{take_all}
use Rattle.reo_expand.specs.tables.Knows.{AreFirst}
use Rattle.reo_expand.proofs.tables.Placed.{known}
use Rattle.reo_expand.proofs.tables.firsts.Firsts.new.Goals as goal

pub returns : goal.returns
returns c p h =
    let ds = c.args.declarations.now in
    let firsts = c.loop-place.firsts in
    let long : length ds ≤ c.loop-place.place = omega arith in
    let whole : take c.loop-place.place ds ≡ ds = take_all c.loop-place.place ds long in
    record {
      numbered = known true ds p firsts.numbered h (subst (λ s. AreFirst true s firsts.numbered) whole c.loop-place.invariant.numbered);
      plain = known false ds p firsts.plain h (subst (λ s. AreFirst false s firsts.plain) whole c.loop-place.invariant.plain);
    }
