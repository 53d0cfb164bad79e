-- No item has this text.
use Rattle.std.proofs.Common.{refl, rules}
use Rattle.reo_handles.specs.Offers.{Writes}
use Rattle.reo_handles.proofs.session.Session.write.Goals as goal

pub returns-in-Err-NoItem : goal.returns-in-Err-NoItem
unfolding Writes
returns-in-Err-NoItem c = (c.in-Err-NoItem.ensures.none (search rules), refl)
