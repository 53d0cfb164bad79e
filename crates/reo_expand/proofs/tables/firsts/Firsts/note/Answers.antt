use Rattle.std.proofs.Common.{true, false}
use Rattle.reo_expand.proofs.tables.Placed.{one, numbered_made, plain_made}
use Rattle.reo_expand.proofs.tables.firsts.Firsts.note.Goals as goal

pub returns-in_ok-note-in-Some-clause-numbered : goal.returns-in_ok-note-in-Some-clause-numbered
returns-in_ok-note-in-Some-clause-numbered c =
    let d = c.index-declarations-place.result in
    one true c.args.declarations.now c.args.place d c.requires.place c.index-declarations-place.is
    c.args.self.now.numbered c.note.new.self c.as_slice.result.now c.requires.numbered c.in_ok-note-in-Some.ensures.even c.in_ok-note-in-Some.ensures.noted
    (λ name. numbered_made name c.as_slice.result.now d c.in-Made.connector c.in-Some.field-0 c.in-Made.is c.in-Some.is c.as_slice.ensures)

pub returns-in_ok-note-in-None-clause-plain : goal.returns-in_ok-note-in-None-clause-plain
returns-in_ok-note-in-None-clause-plain c =
    let d = c.index-declarations-place.result in
    one false c.args.declarations.now c.args.place d c.requires.place c.index-declarations-place.is
    c.args.self.now.plain c.note-in-None.new.self c.as_slice-in-None.result.now c.requires.plain c.in_ok-note-in-None.ensures.even c.in_ok-note-in-None.ensures.noted
    (λ name. plain_made name c.as_slice-in-None.result.now d c.in-Made.connector c.in-Made.is c.in-None.is c.as_slice-in-None.ensures)
