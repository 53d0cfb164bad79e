-- The session was read.
use Rattle.reo_handles.specs.Moves.{Moved}
use Rattle.reo_handles.proofs.AtLemmas.{at_read}
use Rattle.reo_handles.proofs.moving.moved_open.Goals as goal

pub returns : goal.returns
returns c =
    at_read (Moved c.args.index c.args.port.now c.moved-status.new.port) c.args.handle.now.place.session c.put.new.handle.place.session
    c.in-Some.session.value c.moved-status.result c.deref.result.now c.in-Some.ensures.some c.put.ensures c.deref.ensures c.moved-status.ensures
