-- The move that was found.
use Rattle.std.proofs.Common.{refl, rules}
use Rattle.reo_handles.proofs.moving.moved.Goals as goal

pub returns-in-Some : goal.returns-in-Some
returns-in-Some c = (c.in-Some.one.now, search rules, refl, refl)
