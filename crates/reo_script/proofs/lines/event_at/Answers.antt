use Rattle.std.proofs.Common.{sym, subst}
use Rattle.reo_script.specs.scripts.Events.{written_event, event_for, IsThisEvent}
use Rattle.reo_script.proofs.lines.event_at.Goals as goal

pub returns-in-Write : goal.returns-in-Write
returns-in-Write c =
    let ports = c.args.ports.now in
    let answer = c.written.result in
    let same = subst (λ name. IsThisEvent (written_event ports name c.in-Write.literal) answer) c.as_slice.ensures c.written.ensures in
    subst (λ form. IsThisEvent (event_for ports form) answer) (sym c.in-Write.is) same
