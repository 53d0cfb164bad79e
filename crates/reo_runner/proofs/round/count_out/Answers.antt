use Rattle.std.proofs.Common.{◌≡◌, ◌∙◌, ◌≤◌, ◌<◌, ◌^◌, List, length, ap, subst, arith}
use Rattle.std.specs.List.{count_by}
use Rattle.std.proofs.lemmas.List.Sums.{count_by-le-length}
use Rattle.reo_net_base.specs.declared.colouring.Move.{Move}
use Rattle.reo_net_base.specs.declared.port.Port.{Port}
use Rattle.reo_net_base.specs.Net.{Wiring, net_of}
use Rattle.reo_trace.specs.declared.line.RoundLine.{RoundLine}
use Rattle.reo_runs.specs.Written.{goes, is_in, is_out}
use Rattle.reo_runner.proofs.CountLemmas.{moves_few}
use Rattle.reo_runner.proofs.round.count_out.Goals as goal

pub after-tally-requires-clause-few : goal.after-tally-requires-clause-few
after-tally-requires-clause-few g c =
    let w : Wiring g.row.P.Denot = c.args.engine.now.circuit in
    let moves : c.as_slice.result.now ≡ c.args.made_round.line.moves = c.as_slice.ensures ∙ c.carry_on-moves.ensures.moves in
    let same : length c.as_slice.result.now ≡ length _ = ap (λ (ms : List Move). length ms) (moves ∙ ap (λ (l : RoundLine). l.moves) c.requires.is_made.line) in
    let few = moves_few (net_of g.P.Primitive.behaviour w) w.ports c.args.made_round.colouring.rows c.args.made_round.colouring.items in
    let few_ports = subst (λ (v : Wiring g.row.P.Denot). v.ports < 2 ^ 31) c.circuit.ensures c.known.ensures.few_ports in omega (arith, same, few, few_ports)

pub returns-clause-small : goal.returns-clause-small
returns-clause-small g c =
    let w : Wiring g.row.P.Denot = c.args.engine.now.circuit in
    let ports : List Port = c.args.ports.now.list in
    let ms : List Move = c.as_slice.result.now in
    let moves : ms ≡ c.args.made_round.line.moves = c.as_slice.ensures ∙ c.carry_on-moves.ensures.moves in
    let same : length ms ≡ length _ = ap (λ (ms : List Move). length ms) (moves ∙ ap (λ (l : RoundLine). l.moves) c.requires.is_made.line) in
    let few = moves_few (net_of g.P.Primitive.behaviour w) w.ports c.args.made_round.colouring.rows c.args.made_round.colouring.items in
    let few_ports = subst (λ (v : Wiring g.row.P.Denot). v.ports < 2 ^ 31) c.circuit.ensures c.known.ensures.few_ports in
    let most_in : count_by (goes is_in ports) ms ≤ length ms = count_by-le-length (goes is_in ports) ms in
    let most_out : count_by (goes is_out ports) ms ≤ length ms = count_by-le-length (goes is_out ports) ms in
    record {
      rounds = omega (arith, c.after-tally.ensures.rounds, c.requires.fewer);
      written = omega (arith, c.after-tally.ensures.written, c.after-tally.ensures.rounds, most_in, same, few, few_ports, c.requires.small.written);
      delivered = omega (arith, c.after-tally.ensures.delivered, c.after-tally.ensures.rounds, most_out, same, few, few_ports, c.requires.small.delivered);
    }
