use Rattle.std.proofs.lemmas.Option.{slice_get_within}
use Rattle.reo_trace_reader.proofs.texts.Moves.{kindred_at}
use Rattle.reo_trace_reader.proofs.PortTexts.{port_there, move_stood, move_parts, move_item}
use Rattle.reo_trace_reader.proofs.Steps.{passes}
use Rattle.reo_trace_reader.proofs.moves.one_move.Goals as goal

pub returns-in_err-port-clause-again : goal.returns-in_err-port-clause-again
returns-in_err-port-clause-again c x rest h ends e =
    let parts = move_parts c.args.ports.now.list c.requires c.args.from c.args.reader.now rest x h e in
    passes c.from_residual.result c.in_err-port.field-0.0 _ x.port _ _ x rest (c.in_err-port.ensures.again x.port _ parts.0 tt parts.1) c.from_residual.ensures

pub at-requires : goal.at-requires
at-requires c =
    let there = c.in_ok-port.ensures.stood.0.1 in
    slice_get_within c.args.ports.now.list c.in_ok-port.port there.0 there.1

pub item-requires : goal.item-requires
item-requires c =
    let there = c.in_ok-port.ensures.stood.0.1 in
    let at = port_there c.args.ports.now.list c.in_ok-port.port c.at.result.now (slice_get_within c.args.ports.now.list c.in_ok-port.port there.0 there.1) c.at.ensures in
    kindred_at c.args.ports.now.list c.requires c.in_ok-port.port c.at.result.now at

pub returns-in_err-item-clause-again : goal.returns-in_err-item-clause-again
returns-in_err-item-clause-again c x rest h ends e =
    let there = c.in_ok-port.ensures.stood.0.1 in
    let at = port_there c.args.ports.now.list c.in_ok-port.port c.at.result.now (slice_get_within c.args.ports.now.list c.in_ok-port.port there.0 there.1) c.at.ensures in
    let parts = move_parts c.args.ports.now.list c.requires c.args.from c.args.reader.now rest x h e in
    let first = c.in_ok-port.ensures.again x.port _ parts.0 tt parts.1 in
    let item = move_item c.args.ports.now.list c.requires c.args.from rest c.port.new.reader x h c.in_ok-port.port c.at.result.now at first.0 first.1 in
    passes c.from_residual-in_err-item.result c.in_err-item.field-0.0 _ x.item rest _ x rest (c.in_err-item.ensures.again x.item rest item.0 ends item.1)
    c.from_residual-in_err-item.ensures

pub returns-clause-stood : goal.returns-clause-stood
returns-clause-stood c =
    let there = c.in_ok-port.ensures.stood.0.1 in
    let at = port_there c.args.ports.now.list c.in_ok-port.port c.at.result.now (slice_get_within c.args.ports.now.list c.in_ok-port.port there.0 there.1) c.at.ensures in (
      (c.in_ok-port.ensures.stood.0.0, (c.at.result.now, at, c.in_ok-item.ensures.stood.0)),
      move_stood c.args.ports.now.list c.requires c.args.reader.now c.port.new.reader c.item.new.reader (record { port = c.in_ok-port.port; item = c.in_ok-item.item })
          c.at.result.now at c.in_ok-port.ensures.stood.1 c.in_ok-item.ensures.stood.1,
    )

pub returns-clause-again : goal.returns-clause-again
returns-clause-again c x rest h ends e =
    let there = c.in_ok-port.ensures.stood.0.1 in
    let at = port_there c.args.ports.now.list c.in_ok-port.port c.at.result.now (slice_get_within c.args.ports.now.list c.in_ok-port.port there.0 there.1) c.at.ensures in
    let parts = move_parts c.args.ports.now.list c.requires c.args.from c.args.reader.now rest x h e in
    let first = c.in_ok-port.ensures.again x.port _ parts.0 tt parts.1 in
    let item = move_item c.args.ports.now.list c.requires c.args.from rest c.port.new.reader x h c.in_ok-port.port c.at.result.now at first.0 first.1 in
    let last = c.in_ok-item.ensures.again x.item rest item.0 ends item.1 in
    ((λ i. record { port = first.0 i; item = last.0 i }), last.1)
