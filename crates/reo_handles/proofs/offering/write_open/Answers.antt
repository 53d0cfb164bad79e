-- The session was changed.
use Rattle.std.proofs.Common.{refl}
use Rattle.reo_handles.specs.Offers.{Writes}
use Rattle.reo_handles.proofs.AtLemmas.{at_changed}
use Rattle.reo_handles.proofs.offering.write_open.Goals as goal

pub returns : goal.returns
returns c =
    at_changed (Writes c.args.port c.args.text.now) c.args.handle.now.place.session c.put.new.handle.place.session
    c.in-Some.session.value c.write-status.result c.write-status.new.self c.deref_mut.result.now c.write-status.new.self
    c.in-Some.ensures.some c.put.ensures c.deref_mut.ensures.value refl c.write-status.ensures
