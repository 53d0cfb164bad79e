-- The move that was found, and the text that was laid.
use Rattle.std.proofs.Common.{refl, rules}
use Rattle.reo_handles.proofs.moving.item.Goals as goal

pub returns-in-Ok : goal.returns-in-Ok
returns-in-Ok c = (c.in-Some.one.now, search rules, record { bytes_are = search rules; length_is = search rules }, refl)
