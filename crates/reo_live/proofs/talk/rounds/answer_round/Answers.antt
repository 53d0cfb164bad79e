-- The round that is made is that of the circuit, and its line is told.
use Rattle.std.proofs.Common.{◌+◌, ℕ, refl, inl, rules, sym, ap}
use Rattle.reo_net_base.specs.Net.{Net, net_of}
use Rattle.reo_trace.specs.Entries.{line_for}
use Rattle.reo_rounds.specs.Rules.{rules_of}
use Rattle.reo_engine.specs.MadeRounds.{after_made}
use Rattle.reo_live.specs.declared.base.answer.Answer.TheVariants.{Made}
use Rattle.reo_live.proofs.talk.rounds.answer_round.Goals as goal

pub returns-in-Ok-clause-does : goal.returns-in-Ok-clause-does
returns-in-Ok-clause-does g c lines =
    let r = rules_of g.P.Primitive.behaviour g.P.Primitive.settled g.P.Ported.port_state g.P.Ported.placed g.P.Ported.withdrawn in
    let w = c.args.engine.now.circuit in
    let net = net_of g.P.Primitive.behaviour w in
    let turn = c.args.engine.now.rounds + 1 in
    let made = c.in-Ok.made.0 in
    let line = line_for net turn made.colouring.rows made.line.moves in
    let round = c.made_rounds_are_rounds.ensures c.args.budget turn w made c.in-Ok.ensures.exact in (
      Made line,
      (line, refl, c.in-Ok.ensures.text),
      inl (record { line = line; next = after_made r w made; round = round; is = search rules }),
    )
