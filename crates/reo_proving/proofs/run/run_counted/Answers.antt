use Rattle.std.proofs.Common.{◌≡◌, ◌∙◌, true, [], Err, map, refl, sym, ap, subst}
use Rattle.reo_io.proofs.Taken.{Appended-none}
use Rattle.reo_net_base.specs.Net.{Wiring}
use Rattle.reo_players.specs.Players.{all_done, beginning_of}
use Rattle.reo_trace.specs.declared.line.Ending.TheVariants as endings
use Rattle.reo_trace.specs.declared.write.WriteFault.TheVariants.{NoMemory as OutOfMemory}
use Rattle.reo_rounds.specs.Rules.{rules_of}
use Rattle.reo_runs.specs.Run.{Place, start_of, firsts}
use Rattle.reo_runs.specs.at_ports.Between.{AreBetween}
use Rattle.reo_runs.proofs.at_ports.Begun.{just_ports, between_first}
use Rattle.reo_proof_laws.specs.Proofs.{HasProofs}
use Rattle.reo_proving.specs.Proving.{HasCome}
use Rattle.reo_proving.proofs.RunLemmas.{done_first, proved_by, cut_at_end, kept_at_end, kept_by, passed_on, begun}
use Rattle.reo_proving.proofs.run.run_counted.Goals as goal

pub returns-in_err-players-clause-came : goal.returns-in_err-players-clause-came
returns-in_err-players-clause-came g c =
    let r = rules_of g.P.Primitive.behaviour g.P.Primitive.settled g.P.Ported.port_state g.P.Ported.placed g.P.Ported.withdrawn in
    let start : Place g.row.P.Denot = start_of c.args.circuit c.args.script.components in
    let have : HasProofs (firsts c.args.limits.budget c.args.limits.rounds) r c.args.ports.now.list start = c.have_proofs.ensures c.args.limits.budget c.args.limits.rounds c.args.ports.now.list start refl in
    passed_on (HasCome (firsts c.args.limits.budget c.args.limits.rounds) r c.args.ports.now.list start (g.S.Sink.told c.args.out.now) (g.S.Sink.told c.args.out.now)) c.from_residual.result OutOfMemory c.from_residual.ensures
    (λ is. absurd (cc))
    (λ is. kept_by r c.args.ports.now.list c.args.limits.budget c.args.limits.rounds start have _ _ [] start refl (Appended-none _))

pub returns-in_err-write_ending-clause-came : goal.returns-in_err-write_ending-clause-came
returns-in_err-write_ending-clause-came g c =
    let r = rules_of g.P.Primitive.behaviour g.P.Primitive.settled g.P.Ported.port_state g.P.Ported.placed g.P.Ported.withdrawn in
    let start : Place g.row.P.Denot = start_of c.args.circuit c.args.script.components in
    let done : all_done (map beginning_of c.args.script.components) ≡ true = sym (ap all_done c.in_ok-players.ensures) ∙ sym c.all_done.ensures ∙ c.if-all_done.true in
    let end = done_first r c.args.ports.now.list c.args.limits.budget c.args.limits.rounds start c.args.circuit c.args.script.components refl done (g.S.Sink.told c.args.out.now) in
    passed_on (HasCome (firsts c.args.limits.budget c.args.limits.rounds) r c.args.ports.now.list start (g.S.Sink.told c.args.out.now) (g.S.Sink.told c.write_ending.new.out)) c.from_residual-in_err-write_ending.result c.in_err-write_ending.field-0.0 c.from_residual-in_err-write_ending.ensures
    (λ is. cut_at_end r c.args.ports.now.list c.args.limits.budget c.args.limits.rounds start _ _ _ (endings.Done 0) end (c.in_err-write_ending.ensures.failed (ap Err is)))
    (λ is. kept_at_end r c.args.ports.now.list c.args.limits.budget c.args.limits.rounds start _ _ _ (endings.Done 0) end (ap g.S.Sink.told (c.in_err-write_ending.ensures.memory (ap Err is))))

pub returns-then-all_done-clause-came : goal.returns-then-all_done-clause-came
returns-then-all_done-clause-came g c =
    let r = rules_of g.P.Primitive.behaviour g.P.Primitive.settled g.P.Ported.port_state g.P.Ported.placed g.P.Ported.withdrawn in
    let start : Place g.row.P.Denot = start_of c.args.circuit c.args.script.components in
    let done : all_done (map beginning_of c.args.script.components) ≡ true = sym (ap all_done c.in_ok-players.ensures) ∙ sym c.all_done.ensures ∙ c.if-all_done.true in
    let end = done_first r c.args.ports.now.list c.args.limits.budget c.args.limits.rounds start c.args.circuit c.args.script.components refl done (g.S.Sink.told c.args.out.now) in
    proved_by r c.args.ports.now.list c.args.limits.budget c.args.limits.rounds start _ _ _ (endings.Done 0) end c.in_ok-write_ending.ensures.ok

pub new-requires-2 : goal.new-requires-2
new-requires-2 g c = just_ports _ _ c.args.ports.now.list c.requires.fit.count_is c.requires.fit.ports_are

pub returns-in_err-engine-clause-came : goal.returns-in_err-engine-clause-came
returns-in_err-engine-clause-came g c =
    let r = rules_of g.P.Primitive.behaviour g.P.Primitive.settled g.P.Ported.port_state g.P.Ported.placed g.P.Ported.withdrawn in
    let start : Place g.row.P.Denot = start_of c.args.circuit c.args.script.components in
    let have : HasProofs (firsts c.args.limits.budget c.args.limits.rounds) r c.args.ports.now.list start = c.have_proofs.ensures c.args.limits.budget c.args.limits.rounds c.args.ports.now.list start refl in
    passed_on (HasCome (firsts c.args.limits.budget c.args.limits.rounds) r c.args.ports.now.list start (g.S.Sink.told c.args.out.now) (g.S.Sink.told c.args.out.now)) c.from_residual-in_err-engine.result OutOfMemory c.from_residual-in_err-engine.ensures
    (λ is. absurd (cc))
    (λ is. kept_by r c.args.ports.now.list c.args.limits.budget c.args.limits.rounds start have _ _ [] start refl (Appended-none _))

pub log_rounds-ending-requires-clause-between : goal.log_rounds-ending-requires-clause-between
log_rounds-ending-requires-clause-between g c =
    let first = between_first (map g.P.Ported.port_state c.args.circuit.primitives) c.args.circuit.ports c.args.ports.now.list c.args.script.components c.requires.fit in
    let players = subst (λ ps. AreBetween c.args.ports.now.list c.args.circuit.ports ps (map g.P.Ported.port_state c.args.circuit.primitives)) (sym c.in_ok-players.ensures) first in
    subst (λ (w : Wiring g.row.P.Denot). AreBetween c.args.ports.now.list w.ports c.in_ok-players.players (map g.P.Ported.port_state w.primitives)) (sym c.in_ok-engine.ensures.circuit) players

pub returns-clause-came : goal.returns-clause-came
returns-clause-came g c =
    let r = rules_of g.P.Primitive.behaviour g.P.Primitive.settled g.P.Ported.port_state g.P.Ported.placed g.P.Ported.withdrawn in
    begun (λ (s : Place g.row.P.Denot). HasCome (firsts c.args.limits.budget c.args.limits.rounds) r c.args.ports.now.list s (g.S.Sink.told c.args.out.now) (g.S.Sink.told c.log_rounds-ending.new.out) c.log_rounds-ending.result)
    c.args.circuit c.in_ok-engine.engine.circuit c.args.script.components c.in_ok-players.players
    (sym (ap all_done c.in_ok-players.ensures) ∙ sym c.all_done.ensures ∙ c.if-all_done.false) c.in_ok-players.ensures c.in_ok-engine.ensures.circuit c.log_rounds-ending.ensures.came
