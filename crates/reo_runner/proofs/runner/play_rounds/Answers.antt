use Rattle.std.proofs.Common.{◌≡◌, ◌∙◌, ◌+◌, ℕ, None, refl, sym, ap, arith, rules}
use Rattle.reo_values.proofs.Sequences.{no_value}
use Rattle.reo_rounds.specs.Rules.{rules_of}
use Rattle.reo_runs.specs.Run.{Place}
use Rattle.reo_runs.proofs.at_ports.Kept.{self_but}
use Rattle.reo_io.proofs.Counts.{same_count}
use Rattle.reo_runner.specs.declared.planning.RoundFault.TheVariants.{Failed as SinkFailed}
use Rattle.reo_runner.proofs.RunLemmas.{so_far_none, at_limit, ended, so_far_more, stopped_by}
use Rattle.reo_runner.proofs.runner.play_rounds.Goals as goal

pub loop-limits-init : goal.loop-limits-init
loop-limits-init g c =
    let r = rules_of g.P.Primitive.behaviour g.P.Primitive.settled g.P.Ported.port_state g.P.Ported.placed g.P.Ported.withdrawn in
    record {
      so_far = so_far_none r c.args.ports.now.list c.args.limits.budget c.args.limits.rounds c.args.engine.now.circuit c.args.players.now (g.S.Sink.told c.args.out.now) c.args.engine.now.rounds c.new-tally.result
          (self_but r g.met.P.Restoring.placed_again c.args.engine.now.circuit) c.requires.none_made c.new-tally.ensures.rounds c.new-tally.ensures.written c.new-tally.ensures.delivered;
      between = c.requires.between;
      within = omega (arith, c.requires.none_made);
      small = record {
        rounds = omega (arith, c.new-tally.ensures.rounds);
        written = omega (arith, c.new-tally.ensures.written);
        delivered = omega (arith, c.new-tally.ensures.delivered);
      };
      count = c.new-tally.ensures.rounds ∙ sym c.requires.none_made;
      same = refl;
    }

pub returns-then-made-limits-clause-came : goal.returns-then-made-limits-clause-came
returns-then-made-limits-clause-came g c =
    let r = rules_of g.P.Primitive.behaviour g.P.Primitive.settled g.P.Ported.port_state g.P.Ported.placed g.P.Ported.withdrawn in
    let start : Place g.row.P.Denot = record { state = record { circuit = c.args.engine.now.circuit; players = c.args.players.now }; over = None } in
    at_limit r c.args.ports.now.list c.args.limits.budget c.args.limits.rounds start _ _ c.loop-limits.engine.rounds c.loop-limits.engine.circuit c.loop-limits.players c.loop-limits.tally c.loop-limits.invariant.so_far
    _ c.close.result c.rounds-made.result c.rounds-made.ensures (search rules) c.close.ensures.text

pub returns-in-Some-clause-came : goal.returns-in-Some-clause-came
returns-in-Some-clause-came g c =
    let r = rules_of g.P.Primitive.behaviour g.P.Primitive.settled g.P.Ported.port_state g.P.Ported.placed g.P.Ported.withdrawn in
    let start : Place g.row.P.Denot = record { state = record { circuit = c.args.engine.now.circuit; players = c.args.players.now }; over = None } in
    let so_far = c.loop-limits.invariant.so_far in
    ended r c.args.ports.now.list c.args.limits.budget c.args.limits.rounds start _ _ c.loop-limits.engine.rounds c.loop-limits.engine.circuit c.loop-limits.players c.loop-limits.tally so_far
    _ _ _ c.in-Ok.made (c.in-Ok.ensures.made so_far.circuit so_far.left) _ c.close-in-Some.result c.in-Some.ending c.in-Some.is c.close-in-Some.ensures.text

pub loop-limits-preserved : goal.loop-limits-preserved
loop-limits-preserved g c =
    let r = rules_of g.P.Primitive.behaviour g.P.Primitive.settled g.P.Ported.port_state g.P.Ported.placed g.P.Ported.withdrawn in
    let start : Place g.row.P.Denot = record { state = record { circuit = c.args.engine.now.circuit; players = c.args.players.now }; over = None } in
    let so_far = c.loop-limits.invariant.so_far in
    let made = c.in-Ok.ensures.made so_far.circuit so_far.left in
    let rounds : c.play_round-round.new.engine.rounds ≡ c.loop-limits.engine.rounds + 1 = c.in-Ok.ensures.rounds in
    let more = so_far_more r c.args.ports.now.list c.args.limits.budget c.args.limits.rounds start _ _ c.loop-limits.engine.rounds c.loop-limits.engine.circuit c.loop-limits.players c.loop-limits.tally so_far
    _ _ _ c.in-Ok.made made (no_value c.in-Ok.made.over c.in_default.not-Some) in
    record {
      so_far = rw (sym rounds) at more;
      between = c.in-Ok.ensures.between;
      within = search rules;
      small = c.in-Ok.ensures.small;
      count = made.tallied.rounds ∙ ap (λ (n : ℕ). n + 1) c.loop-limits.invariant.count ∙ sym rounds;
      same = same_count _ _ c.in-Ok.made SinkFailed c.in-Ok.ensures.later c.in-Ok.ensures.risen ∙ c.loop-limits.invariant.same;
    }

pub returns-in-Err-clause-came : goal.returns-in-Err-clause-came
returns-in-Err-clause-came g c =
    let r = rules_of g.P.Primitive.behaviour g.P.Primitive.settled g.P.Ported.port_state g.P.Ported.placed g.P.Ported.withdrawn in
    let start : Place g.row.P.Denot = record { state = record { circuit = c.args.engine.now.circuit; players = c.args.players.now }; over = None } in
    let so_far = c.loop-limits.invariant.so_far in
    stopped_by r c.args.ports.now.list c.args.limits.budget c.args.limits.rounds start _ _ c.loop-limits.engine.rounds c.loop-limits.engine.circuit c.loop-limits.players c.loop-limits.tally so_far
    (c.has_runs.ensures c.args.limits.budget c.args.limits.rounds start (sym c.circuit.ensures)) _ _ c.stop.result c.in-Err.fault (search rules) (c.in-Err.ensures.fault so_far.circuit so_far.left) (rw c.rounds-made.ensures at c.stop.ensures.stops)
