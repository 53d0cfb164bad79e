-- What the place of a session owns.
use base.Fml.{Fml, ftrue}
use mir.Syntax.{Ty}
use denote.RawPtr.{Ptr}
use Rattle.std.specs.Prelude.{Option, Some, None}
use Rattle.std.specs.Box.Ownership.{box_owns}
use Rattle.std_heap.specs.contracts.GlobalAllocator.TheImpl.{ghosts}
use Rattle.reo_handles.specs.declared.session.Session.{Session}
use Rattle.reo_handles.specs.contracts.session.Session.{the_row}

-- The right to free a block of the heap.
abbrev pub freeing : Ty → Ptr → Fml
freeing = ghosts.dealloc_token (record { memory = record { seal = tt } })

-- The block of a session, and the right to free it; nothing where there is no session.
abbrev pub owned : Ptr → Option Session → Fml
owned p (Some session) = box_owns freeing the_row p session
owned p None = ftrue
