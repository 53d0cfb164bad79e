use Rattle.std.proofs.Common.{rules}
use Rattle.reo_live.specs.closings.Sources.{state_of}
use Rattle.reo_rounds.specs.Rules.{rules_of}
use Rattle.reo_rounds.specs.Lasting.{KeepsShape}
use Rattle.reo_live.proofs.hearing.HeardLemmas.{piece_next}
use Rattle.reo_live.proofs.hearing.TakeLemmas.{close_next, missed_next}
use Rattle.reo_live.proofs.hearing.taking.hear_next.Goals as goal

pub returns-in-Ok-eq0-clause-heard : goal.returns-in-Ok-eq0-clause-heard
returns-in-Ok-eq0-clause-heard g c =
    let r = rules_of g.P.Primitive.behaviour g.P.Primitive.settled g.P.Ported.port_state g.P.Ported.placed g.P.Ported.withdrawn in
    let at = state_of g.R.Source.told g.R.Source.given g.R.Source.ends g.R.Source.faults c.args.source.now in
    let new = state_of g.R.Source.told g.R.Source.given g.R.Source.ends g.R.Source.faults c.take.new.self in
    close_next r c.args.live.now.ports c.args.live.now.budget (g.S.Sink.told c.args.out.now) (g.S.Sink.told c.hear_end.new.out) at new c.args.live.now.live c.hear_end.new.live.live c.args.taken
    c.requires.open c.requires.taken c.take.new.room c.hear_end.result c.in-Ok-eq0.field-0 c.in-Ok-eq0.field-0-test c.in-Ok-eq0.ensures.cause.later (c.in-Ok-eq0.ensures.bytes, c.in-Ok-eq0.ensures.given, c.in-Ok-eq0.ensures.ended) c.hear_end.ensures.closed

pub returns-in-Ok-clause-heard : goal.returns-in-Ok-clause-heard
returns-in-Ok-clause-heard g c = λ w before old far.
    let r = rules_of g.P.Primitive.behaviour g.P.Primitive.settled g.P.Ported.port_state g.P.Ported.placed g.P.Ported.withdrawn in
    let shape : KeepsShape r = record { lawful = g.met.P.Primitive.lawful; settled = g.met.P.Primitive.settled_shape; placed = g.met.P.Ported.placed_shape; withdrawn = g.met.P.Ported.withdrawn_shape } in
    let at = state_of g.R.Source.told g.R.Source.given g.R.Source.ends g.R.Source.faults c.args.source.now in
    let new = state_of g.R.Source.told g.R.Source.given g.R.Source.ends g.R.Source.faults c.take.new.self in
    piece_next r c.args.live.now.ports c.args.live.now.budget c.cuts_change_nothing.ensures w before (g.S.Sink.told c.args.out.now) (g.S.Sink.told c.hear_piece.new.out) old at new c.args.live.now.live
    c.args.taken c.take.new.room c.in-Ok.count c.in-Ok.ensures.cause.later far c.hearing_exists.ensures shape c.hear_piece.new.live.live c.in-Ok.ensures.bound (search rules)
    (c.in-Ok.ensures.bytes, c.in-Ok.ensures.given, c.in-Ok.ensures.ended) c.hear_piece.result c.hear_piece.ensures.piece c.hear_piece.ensures.count

pub returns-in-Err-Failed-clause-heard : goal.returns-in-Err-Failed-clause-heard
returns-in-Err-Failed-clause-heard g c =
    let r = rules_of g.P.Primitive.behaviour g.P.Primitive.settled g.P.Ported.port_state g.P.Ported.placed g.P.Ported.withdrawn in
    let at = state_of g.R.Source.told g.R.Source.given g.R.Source.ends g.R.Source.faults c.args.source.now in
    let new = state_of g.R.Source.told g.R.Source.given g.R.Source.ends g.R.Source.faults c.take.new.self in
    missed_next r c.args.live.now.ports c.args.live.now.budget (g.S.Sink.told c.args.out.now) (g.S.Sink.told c.args.out.now) at new c.args.live.now.live c.args.live.now.live c.args.taken
    c.requires.open c.requires.taken c.take.new.room c.take.result c.in-Err-Failed.field-0 c.in-Err-Failed.is c.take.ensures.cause (c.take.ensures.bytes, c.take.ensures.given, c.take.ensures.ended)
