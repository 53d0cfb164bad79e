use Rattle.std.proofs.Common.{◌≡◌, ◌∙◌, None, Err, refl, sym, ap, arith}
use Rattle.reo_values.proofs.Sequences.{no_value}
use Rattle.reo_io.proofs.Counts.{same_count}
use Rattle.reo_trace.specs.declared.write.WriteFault.TheVariants.{Failed as SinkFailed}
use Rattle.reo_rounds.specs.Rules.{rules_of}
use Rattle.reo_runs.specs.Run.{Place, firsts}
use Rattle.reo_runs.proofs.at_ports.Kept.{self_but}
use Rattle.reo_proof_laws.specs.Proofs.{HasProofs}
use Rattle.reo_proving.specs.Proving.{HasCome}
use Rattle.reo_proving.proofs.RunLemmas.{so_far_none, so_far_more, finished, proved_by, cut_at_end, kept_at_end, cut_round, kept, passed_on}
use Rattle.reo_proving.proofs.run.log_rounds.Goals as goal

pub loop-ending-init : goal.loop-ending-init
loop-ending-init g c =
    let r = rules_of g.P.Primitive.behaviour g.P.Primitive.settled g.P.Ported.port_state g.P.Ported.placed g.P.Ported.withdrawn in
    record {
      so_far = so_far_none r c.args.ports.now.list c.args.limits.budget c.args.limits.rounds c.args.engine.now.circuit c.args.players.now (g.S.Sink.told c.args.out.now) c.args.engine.now.rounds
          (self_but r g.met.P.Restoring.placed_again c.args.engine.now.circuit) c.requires.none_made;
      between = c.requires.between;
      within = omega (arith, c.requires.none_made);
      same = refl;
    }

pub returns-in_err-ending-clause-came : goal.returns-in_err-ending-clause-came
returns-in_err-ending-clause-came g c =
    let r = rules_of g.P.Primitive.behaviour g.P.Primitive.settled g.P.Ported.port_state g.P.Ported.placed g.P.Ported.withdrawn in
    let start : Place g.row.P.Denot = record { state = record { circuit = c.args.engine.now.circuit; players = c.args.players.now }; over = None } in
    let have : HasProofs (firsts c.args.limits.budget c.args.limits.rounds) r c.args.ports.now.list start = c.have_proofs.ensures c.args.limits.budget c.args.limits.rounds c.args.ports.now.list start (sym c.circuit.ensures) in
    let so_far = c.loop-ending.invariant.so_far in
    passed_on (HasCome (firsts c.args.limits.budget c.args.limits.rounds) r c.args.ports.now.list start (g.S.Sink.told c.args.out.now) (g.S.Sink.told c.log_next.new.out)) c.from_residual.result c.in_err-ending.field-0.0 c.from_residual.ensures
    (λ is. cut_round r c.args.ports.now.list c.args.limits.budget c.args.limits.rounds start _ _ c.loop-ending.engine.rounds c.loop-ending.engine.circuit c.loop-ending.players so_far have _ (c.in_err-ending.ensures.failed so_far.circuit so_far.left (ap Err is)))
    (λ is. kept r c.args.ports.now.list c.args.limits.budget c.args.limits.rounds start _ _ c.loop-ending.engine.rounds c.loop-ending.engine.circuit c.loop-ending.players so_far have _ (ap g.S.Sink.told (c.in_err-ending.ensures.memory (ap Err is))))

pub returns-in_err-write_ending-clause-came : goal.returns-in_err-write_ending-clause-came
returns-in_err-write_ending-clause-came g c =
    let r = rules_of g.P.Primitive.behaviour g.P.Primitive.settled g.P.Ported.port_state g.P.Ported.placed g.P.Ported.withdrawn in
    let start : Place g.row.P.Denot = record { state = record { circuit = c.args.engine.now.circuit; players = c.args.players.now }; over = None } in
    let so_far = c.loop-ending.invariant.so_far in
    let went = rw c.in-Some.is at (c.in_ok-ending.ensures.went so_far.circuit so_far.left) in
    let end = finished r c.args.ports.now.list c.args.limits.budget c.args.limits.rounds start _ _ c.loop-ending.engine.rounds c.loop-ending.engine.circuit c.loop-ending.players so_far _ _ _ c.in-Some.ending went in
    passed_on (HasCome (firsts c.args.limits.budget c.args.limits.rounds) r c.args.ports.now.list start (g.S.Sink.told c.args.out.now) (g.S.Sink.told c.write_ending.new.out)) c.from_residual-in_err-write_ending.result c.in_err-write_ending.field-0.0 c.from_residual-in_err-write_ending.ensures
    (λ is. cut_at_end r c.args.ports.now.list c.args.limits.budget c.args.limits.rounds start _ _ _ c.in-Some.ending end (c.in_err-write_ending.ensures.failed (ap Err is)))
    (λ is. kept_at_end r c.args.ports.now.list c.args.limits.budget c.args.limits.rounds start _ _ _ c.in-Some.ending end (ap g.S.Sink.told (c.in_err-write_ending.ensures.memory (ap Err is))))

pub returns-in-Some-clause-came : goal.returns-in-Some-clause-came
returns-in-Some-clause-came g c =
    let r = rules_of g.P.Primitive.behaviour g.P.Primitive.settled g.P.Ported.port_state g.P.Ported.placed g.P.Ported.withdrawn in
    let start : Place g.row.P.Denot = record { state = record { circuit = c.args.engine.now.circuit; players = c.args.players.now }; over = None } in
    let so_far = c.loop-ending.invariant.so_far in
    let went = rw c.in-Some.is at (c.in_ok-ending.ensures.went so_far.circuit so_far.left) in
    let end = finished r c.args.ports.now.list c.args.limits.budget c.args.limits.rounds start _ _ c.loop-ending.engine.rounds c.loop-ending.engine.circuit c.loop-ending.players so_far _ _ _ c.in-Some.ending went in
    proved_by r c.args.ports.now.list c.args.limits.budget c.args.limits.rounds start _ _ _ c.in-Some.ending end c.in_ok-write_ending.ensures.ok

pub loop-ending-smaller : goal.loop-ending-smaller
loop-ending-smaller g c =
    let more = c.in_ok-ending.ensures.rounds (no_value c.in_ok-ending.field-0 c.in_default.not-Some) in
    omega (arith, more.0, more.1)

pub loop-ending-preserved : goal.loop-ending-preserved
loop-ending-preserved g c =
    let r = rules_of g.P.Primitive.behaviour g.P.Primitive.settled g.P.Ported.port_state g.P.Ported.placed g.P.Ported.withdrawn in
    let start : Place g.row.P.Denot = record { state = record { circuit = c.args.engine.now.circuit; players = c.args.players.now }; over = None } in
    let so_far = c.loop-ending.invariant.so_far in
    let none : c.in_ok-ending.field-0 ≡ None = no_value c.in_ok-ending.field-0 c.in_default.not-Some in
    let went = rw none at (c.in_ok-ending.ensures.went so_far.circuit so_far.left) in
    let rounds = c.in_ok-ending.ensures.rounds none in
    let more = so_far_more r c.args.ports.now.list c.args.limits.budget c.args.limits.rounds start _ _ c.loop-ending.engine.rounds c.loop-ending.engine.circuit c.loop-ending.players so_far _ _ _ went in
    record {
      so_far = rw (sym rounds.0) at more;
      between = c.in_ok-ending.ensures.between none;
      within = omega (arith, rounds.0, rounds.1);
      same = same_count _ _ c.in_ok-ending.field-0 SinkFailed c.in_ok-ending.ensures.later c.in_ok-ending.ensures.risen ∙ c.loop-ending.invariant.same;
    }
