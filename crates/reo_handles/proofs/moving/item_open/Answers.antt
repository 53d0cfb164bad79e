-- The session was read.
use Rattle.reo_handles.specs.Moves.{TellsItem}
use Rattle.reo_handles.proofs.AtLemmas.{at_read}
use Rattle.reo_handles.proofs.moving.item_open.Goals as goal

pub returns : goal.returns
returns c =
    at_read (TellsItem c.args.index (record { bytes = c.args.room.now; length = c.args.length.now })
    (record { bytes = c.item-status.new.room; length = c.item-status.new.length }))
    c.args.handle.now.place.session c.put.new.handle.place.session
    c.in-Some.session.value c.item-status.result c.deref.result.now c.in-Some.ensures.some c.put.ensures c.deref.ensures c.item-status.ensures
