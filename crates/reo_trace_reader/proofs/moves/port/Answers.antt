use Rattle.std.proofs.Common.{◌<◌, ◌∙◌, ◌++◌, refl, ap, sym, length, arith}
use Rattle.reo_trace_reader.specs.Fronts.{port_text}
use Rattle.reo_trace_reader.proofs.PortTexts.{port_there, none_more, none_there, port_found}
use Rattle.reo_trace_reader.proofs.moves.port.Goals as goal

pub loop-number-init : goal.loop-number-init
loop-number-init c = (omega arith, refl, λ k port rest low high there e. omega arith)

pub returns-then-is_next-clause-stood : goal.returns-then-is_next-clause-stood
returns-then-is_next-clause-stood c =
    let within : c.loop-number.number < length c.args.ports.now.list = omega arith in
    let at = port_there c.args.ports.now.list c.loop-number.number c.at.result.now within c.at.ensures in (
      (c.loop-number.invariant.0, (c.at.result.now, at)),
      sym c.loop-number.invariant.1 ∙ c.is_next.ensures.taken c.if-is_next.true ∙ sym (ap (λ o. port_text o ++ c.is_next.new.reader) at),
    )

pub returns-then-is_next-clause-again : goal.returns-then-is_next-clause-again
returns-then-is_next-clause-again c x rest h ends e =
    let within : c.loop-number.number < length c.args.ports.now.list = omega arith in
    let at = port_there c.args.ports.now.list c.loop-number.number c.at.result.now within c.at.ensures in
    port_found c.args.ports.now.list c.requires c.args.from c.loop-number.number c.at.result.now c.args.reader.now c.is_next.new.reader at
    (sym c.loop-number.invariant.1 ∙ c.is_next.ensures.taken c.if-is_next.true) x rest h e

pub loop-number-smaller : goal.loop-number-smaller
loop-number-smaller c = omega arith

pub loop-number-preserved : goal.loop-number-preserved
loop-number-preserved c =
    let within : c.loop-number.number < length c.args.ports.now.list = omega arith in
    let at = port_there c.args.ports.now.list c.loop-number.number c.at.result.now within c.at.ensures in (
      omega (arith, c.loop-number.invariant.0),
      c.is_next.ensures.stays c.if-is_next.false ∙ c.loop-number.invariant.1,
      none_more c.args.ports.now.list c.args.from c.loop-number.number c.at.result.now c.args.reader.now c.loop-number.invariant.2 at
          (λ rest e. c.is_next.ensures.none c.if-is_next.false rest (c.loop-number.invariant.1 ∙ e)),
    )

pub returns-clause-again : goal.returns-clause-again
returns-clause-again c x rest h ends e =
    none_there c.args.ports.now.list c.args.from c.loop-number.number c.args.reader.now c.loop-number.invariant.2 (omega arith) x rest h e
