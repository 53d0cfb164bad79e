use Rattle.std.proofs.Common.{◌∙◌, ◌+◌, ◌<◌, ◌^◌, ℕ, List, length, refl, sym, subst, arith, rules}
use Rattle.reo_rounds.specs.Rules.{rules_of}
use Rattle.reo_rounds.specs.Lasting.{KeepsShape}
use Rattle.reo_runs.specs.Round.{State}
use Rattle.reo_runs.specs.Run.{Place}
use Rattle.reo_runs.proofs.at_ports.Kept.{self_but}
use Rattle.reo_verify.proofs.judging.EndLemmas.{ended_by, on_by}
use Rattle.reo_proof_reader.specs.declared.next.Next.{Next}
use Rattle.reo_proof_reader.specs.Found.{IsFound, IsRoundFound}
use Rattle.reo_verify_proof.specs.proof_rounds.Rounds.{IsNoProof}
use Rattle.reo_verify_proof.proofs.Lists.{wrong_le}
use Rattle.reo_verify_proof.proofs.ReplayLemmas.{so_far_none, so_far_more, made_le, before_le, lines_few, is_of_round}
use Rattle.reo_verify_proof.proofs.VerdictLemmas.{by_ending, by_line, by_ended, by_round}
use Rattle.reo_verify_proof.proofs.SoFar.{SoFar}
use Rattle.reo_verify_proof.proofs.replay.replay_rounds.Goals as goal

pub loop-line-init : goal.loop-line-init
loop-line-init g c =
    let r = rules_of g.P.Primitive.behaviour g.P.Primitive.settled g.P.Ported.port_state g.P.Ported.placed g.P.Ported.withdrawn in
    let start : Place g.row.P.Denot = record { state = record { circuit = c.args.stage.now.circuit; players = c.args.players.now }; over = c.args.begins } in
    let ordered = rw c.circuit.ensures at c.known_order.ensures in
    let none = so_far_none r c.args.ports.now.list c.args.proof.now c.args.stage.now.circuit c.args.players.now c.args.begins ordered (self_but r g.met.P.Restoring.placed_again c.args.stage.now.circuit) in
    record {
      so_far = subst (λ (left : List ℕ). SoFar r c.args.ports.now.list start c.args.proof.now left 0 c.args.stage.now.rounds c.args.stage.now.circuit c.args.players.now c.args.begins) (sym c.new-reader.ensures)
          (subst (λ (made : ℕ). SoFar r c.args.ports.now.list start c.args.proof.now c.args.proof.now 0 made c.args.stage.now.circuit c.args.players.now c.args.begins) (sym c.requires.none_made) none);
      between = c.requires.between;
    }

pub overflow_add-made : goal.overflow_add-made
overflow_add-made g c =
    let r = rules_of g.P.Primitive.behaviour g.P.Primitive.settled g.P.Ported.port_state g.P.Ported.placed g.P.Ported.withdrawn in
    let start : Place g.row.P.Denot = record { state = record { circuit = c.args.stage.now.circuit; players = c.args.players.now }; over = c.args.begins } in
    let short : length c.args.proof.now < 2 ^ 63 = search rules in
    let so_far : SoFar r c.args.ports.now.list start c.args.proof.now c.loop-line.reader c.loop-line.before c.loop-line.stage.rounds c.loop-line.stage.circuit c.loop-line.players c.loop-line.over = c.loop-line.invariant.so_far in
    omega (arith, short, c.rounds-made.ensures, made_le r c.args.ports.now.list start c.args.proof.now c.loop-line.reader c.loop-line.before c.loop-line.stage.rounds c.loop-line.stage.circuit c.loop-line.players c.loop-line.over so_far, before_le r c.args.ports.now.list start c.args.proof.now c.loop-line.reader c.loop-line.before c.loop-line.stage.rounds c.loop-line.stage.circuit c.loop-line.players c.loop-line.over so_far)

pub overflow_add-result : goal.overflow_add-result
overflow_add-result g c =
    let r = rules_of g.P.Primitive.behaviour g.P.Primitive.settled g.P.Ported.port_state g.P.Ported.placed g.P.Ported.withdrawn in
    let start : Place g.row.P.Denot = record { state = record { circuit = c.args.stage.now.circuit; players = c.args.players.now }; over = c.args.begins } in
    let short : length c.args.proof.now < 2 ^ 63 = search rules in
    let so_far : SoFar r c.args.ports.now.list start c.args.proof.now c.loop-line.reader c.loop-line.before c.loop-line.stage.rounds c.loop-line.stage.circuit c.loop-line.players c.loop-line.over = c.loop-line.invariant.so_far in
    let found = subst (λ (n : Next). IsFound c.args.ports.now.list (c.rounds-made.result + 1) c.loop-line.reader c.read_next.new.reader n) c.in-Ok-Wrong.field-0-is c.in-Ok-Wrong.ensures in
    omega (arith, short, before_le r c.args.ports.now.list start c.args.proof.now c.loop-line.reader c.loop-line.before c.loop-line.stage.rounds c.loop-line.stage.circuit c.loop-line.players c.loop-line.over so_far, wrong_le c.args.ports.now.list (c.rounds-made.result + 1) c.in-Ok-Wrong.line c.loop-line.reader found)

pub returns-in-Ok-Wrong : goal.returns-in-Ok-Wrong
returns-in-Ok-Wrong g c =
    let r = rules_of g.P.Primitive.behaviour g.P.Primitive.settled g.P.Ported.port_state g.P.Ported.placed g.P.Ported.withdrawn in
    let start : Place g.row.P.Denot = record { state = record { circuit = c.args.stage.now.circuit; players = c.args.players.now }; over = c.args.begins } in
    let so_far : SoFar r c.args.ports.now.list start c.args.proof.now c.loop-line.reader c.loop-line.before c.rounds-made.result c.loop-line.stage.circuit c.loop-line.players c.loop-line.over =
    subst (λ (n : ℕ). SoFar r c.args.ports.now.list start c.args.proof.now c.loop-line.reader c.loop-line.before n c.loop-line.stage.circuit c.loop-line.players c.loop-line.over) (sym c.rounds-made.ensures) c.loop-line.invariant.so_far in
    let found = subst (λ (n : Next). IsFound c.args.ports.now.list (c.rounds-made.result + 1) c.loop-line.reader c.read_next.new.reader n) c.in-Ok-Wrong.field-0-is c.in-Ok-Wrong.ensures in
    by_line r c.args.ports.now.list c.args.nodes.now c.args.homes.now start c.args.proof.now c.loop-line.reader c.loop-line.before c.rounds-made.result c.loop-line.stage.circuit c.loop-line.players c.loop-line.over so_far c.in-Ok-Wrong.line found

pub verdict_at-requires : goal.verdict_at-requires
verdict_at-requires g c =
    let r = rules_of g.P.Primitive.behaviour g.P.Primitive.settled g.P.Ported.port_state g.P.Ported.placed g.P.Ported.withdrawn in
    let start : Place g.row.P.Denot = record { state = record { circuit = c.args.stage.now.circuit; players = c.args.players.now }; over = c.args.begins } in
    let short : length c.args.proof.now < 2 ^ 63 = search rules in
    let so_far : SoFar r c.args.ports.now.list start c.args.proof.now c.loop-line.reader c.loop-line.before c.loop-line.stage.rounds c.loop-line.stage.circuit c.loop-line.players c.loop-line.over = c.loop-line.invariant.so_far in
    omega (arith, short, c.rounds-made.ensures, made_le r c.args.ports.now.list start c.args.proof.now c.loop-line.reader c.loop-line.before c.loop-line.stage.rounds c.loop-line.stage.circuit c.loop-line.players c.loop-line.over so_far, before_le r c.args.ports.now.list start c.args.proof.now c.loop-line.reader c.loop-line.before c.loop-line.stage.rounds c.loop-line.stage.circuit c.loop-line.players c.loop-line.over so_far)

pub returns-in-Ok-Ending : goal.returns-in-Ok-Ending
returns-in-Ok-Ending g c =
    let r = rules_of g.P.Primitive.behaviour g.P.Primitive.settled g.P.Ported.port_state g.P.Ported.placed g.P.Ported.withdrawn in
    let start : Place g.row.P.Denot = record { state = record { circuit = c.args.stage.now.circuit; players = c.args.players.now }; over = c.args.begins } in
    let so_far : SoFar r c.args.ports.now.list start c.args.proof.now c.loop-line.reader c.loop-line.before c.rounds-made.result c.loop-line.stage.circuit c.loop-line.players c.loop-line.over =
    subst (λ (n : ℕ). SoFar r c.args.ports.now.list start c.args.proof.now c.loop-line.reader c.loop-line.before n c.loop-line.stage.circuit c.loop-line.players c.loop-line.over) (sym c.rounds-made.ensures) c.loop-line.invariant.so_far in
    let found = subst (λ (n : Next). IsFound c.args.ports.now.list (c.rounds-made.result + 1) c.loop-line.reader c.read_next.new.reader n) c.in-Ok-Ending.field-0-is c.in-Ok-Ending.ensures in
    by_ending r c.args.ports.now.list c.args.nodes.now c.args.homes.now start c.args.proof.now c.loop-line.reader c.loop-line.before c.rounds-made.result c.loop-line.stage.circuit c.loop-line.players c.loop-line.over so_far c.in-Ok-Ending.ending c.verdict_at.result found c.verdict_at.ensures

pub returns-then-is_some : goal.returns-then-is_some
returns-then-is_some g c =
    let r = rules_of g.P.Primitive.behaviour g.P.Primitive.settled g.P.Ported.port_state g.P.Ported.placed g.P.Ported.withdrawn in
    let start : Place g.row.P.Denot = record { state = record { circuit = c.args.stage.now.circuit; players = c.args.players.now }; over = c.args.begins } in
    let so_far : SoFar r c.args.ports.now.list start c.args.proof.now c.loop-line.reader c.loop-line.before c.rounds-made.result c.loop-line.stage.circuit c.loop-line.players c.loop-line.over =
    subst (λ (n : ℕ). SoFar r c.args.ports.now.list start c.args.proof.now c.loop-line.reader c.loop-line.before n c.loop-line.stage.circuit c.loop-line.players c.loop-line.over) (sym c.rounds-made.ensures) c.loop-line.invariant.so_far in
    let found = subst (λ (n : Next). IsFound c.args.ports.now.list (c.rounds-made.result + 1) c.loop-line.reader c.read_next.new.reader n) c.in-Ok-Round.field-0-is c.in-Ok-Round.ensures in
    by_ended r c.args.ports.now.list c.args.nodes.now c.args.homes.now start c.args.proof.now c.loop-line.reader c.loop-line.before c.rounds-made.result c.loop-line.stage.circuit c.loop-line.players c.loop-line.over so_far c.read_next.new.reader c.in-Ok-Round.line c.in-Ok-Round.log.now c.in-Ok-Round.lines found (ended_by c.loop-line.over (sym c.is_some.ensures ∙ c.if-is_some.true))

pub refuse_round-requires : goal.refuse_round-requires
refuse_round-requires g c =
    let r = rules_of g.P.Primitive.behaviour g.P.Primitive.settled g.P.Ported.port_state g.P.Ported.placed g.P.Ported.withdrawn in
    let shape : KeepsShape r = record { lawful = g.met.P.Primitive.lawful; settled = g.met.P.Primitive.settled_shape; placed = g.met.P.Ported.placed_shape; withdrawn = g.met.P.Ported.withdrawn_shape } in
    let start : Place g.row.P.Denot = record { state = record { circuit = c.args.stage.now.circuit; players = c.args.players.now }; over = c.args.begins } in
    let short : length c.args.proof.now < 2 ^ 63 = search rules in
    let so_far : SoFar r c.args.ports.now.list start c.args.proof.now c.loop-line.reader c.loop-line.before c.loop-line.stage.rounds c.loop-line.stage.circuit c.loop-line.players c.loop-line.over = c.loop-line.invariant.so_far in
    let found = subst (λ (n : Next). IsFound c.args.ports.now.list (c.rounds-made.result + 1) c.loop-line.reader c.read_next.new.reader n) c.in-Ok-Round.field-0-is c.in-Ok-Round.ensures in
    let here : IsRoundFound c.args.ports.now.list (c.loop-line.stage.rounds + 1) c.loop-line.reader c.read_next.new.reader c.in-Ok-Round.line c.in-Ok-Round.log.now c.in-Ok-Round.lines =
    subst (λ (n : ℕ). IsRoundFound c.args.ports.now.list (n + 1) c.loop-line.reader c.read_next.new.reader c.in-Ok-Round.line c.in-Ok-Round.log.now c.in-Ok-Round.lines) c.rounds-made.ensures found in
    is_of_round r c.args.ports.now.list start c.args.proof.now c.loop-line.reader c.loop-line.before c.loop-line.stage.rounds c.loop-line.stage.circuit c.loop-line.players c.loop-line.over so_far shape (c.loop-line.stage.rounds + 1) c.read_next.new.reader c.in-Ok-Round.line c.in-Ok-Round.log.now c.in-Ok-Round.lines refl here short c.in-Err-prove_round.stop
    (c.in-Err-prove_round.ensures.wrong so_far.circuit so_far.same)

pub returns-in-Err-prove_round : goal.returns-in-Err-prove_round
returns-in-Err-prove_round g c =
    let r = rules_of g.P.Primitive.behaviour g.P.Primitive.settled g.P.Ported.port_state g.P.Ported.placed g.P.Ported.withdrawn in
    let start : Place g.row.P.Denot = record { state = record { circuit = c.args.stage.now.circuit; players = c.args.players.now }; over = c.args.begins } in
    let so_far : SoFar r c.args.ports.now.list start c.args.proof.now c.loop-line.reader c.loop-line.before c.rounds-made.result c.loop-line.stage.circuit c.loop-line.players c.loop-line.over =
    subst (λ (n : ℕ). SoFar r c.args.ports.now.list start c.args.proof.now c.loop-line.reader c.loop-line.before n c.loop-line.stage.circuit c.loop-line.players c.loop-line.over) (sym c.rounds-made.ensures) c.loop-line.invariant.so_far in
    let found = subst (λ (n : Next). IsFound c.args.ports.now.list (c.rounds-made.result + 1) c.loop-line.reader c.read_next.new.reader n) c.in-Ok-Round.field-0-is c.in-Ok-Round.ensures in
    let now : State g.row.P.Denot = record { circuit = so_far.circuit; players = c.loop-line.players } in
    let why : IsNoProof r (c.rounds-made.result + 1) now c.in-Ok-Round.line c.in-Ok-Round.log.now c.in-Err-prove_round.stop =
    subst (λ (n : ℕ). IsNoProof r (n + 1) now c.in-Ok-Round.line c.in-Ok-Round.log.now c.in-Err-prove_round.stop) (sym c.rounds-made.ensures) (c.in-Err-prove_round.ensures.wrong so_far.circuit so_far.same) in
    by_round r c.args.ports.now.list c.args.nodes.now c.args.homes.now start c.args.proof.now c.loop-line.reader c.loop-line.before c.rounds-made.result c.loop-line.stage.circuit c.loop-line.players c.loop-line.over so_far c.read_next.new.reader c.in-Ok-Round.line c.in-Ok-Round.log.now c.in-Ok-Round.lines found
    (on_by c.loop-line.over (sym c.is_some.ensures ∙ c.if-is_some.false)) found.next_is.0.line.number_is c.in-Err-prove_round.stop c.refuse_round.result why c.refuse_round.ensures

pub overflow_add-before : goal.overflow_add-before
overflow_add-before g c =
    let r = rules_of g.P.Primitive.behaviour g.P.Primitive.settled g.P.Ported.port_state g.P.Ported.placed g.P.Ported.withdrawn in
    let shape : KeepsShape r = record { lawful = g.met.P.Primitive.lawful; settled = g.met.P.Primitive.settled_shape; placed = g.met.P.Ported.placed_shape; withdrawn = g.met.P.Ported.withdrawn_shape } in
    let start : Place g.row.P.Denot = record { state = record { circuit = c.args.stage.now.circuit; players = c.args.players.now }; over = c.args.begins } in
    let short : length c.args.proof.now < 2 ^ 63 = search rules in
    let so_far : SoFar r c.args.ports.now.list start c.args.proof.now c.loop-line.reader c.loop-line.before c.loop-line.stage.rounds c.loop-line.stage.circuit c.loop-line.players c.loop-line.over = c.loop-line.invariant.so_far in
    let found = subst (λ (n : Next). IsFound c.args.ports.now.list (c.rounds-made.result + 1) c.loop-line.reader c.read_next.new.reader n) c.in-Ok-Round.field-0-is c.in-Ok-Round.ensures in
    let here : IsRoundFound c.args.ports.now.list (c.loop-line.stage.rounds + 1) c.loop-line.reader c.read_next.new.reader c.in-Ok-Round.line c.in-Ok-Round.log.now c.in-Ok-Round.lines =
    subst (λ (n : ℕ). IsRoundFound c.args.ports.now.list (n + 1) c.loop-line.reader c.read_next.new.reader c.in-Ok-Round.line c.in-Ok-Round.log.now c.in-Ok-Round.lines) c.rounds-made.ensures found in
    omega (arith, lines_few r c.args.ports.now.list start c.args.proof.now c.loop-line.reader c.loop-line.before c.loop-line.stage.rounds c.loop-line.stage.circuit c.loop-line.players c.loop-line.over so_far shape (c.loop-line.stage.rounds + 1) c.read_next.new.reader c.in-Ok-Round.line c.in-Ok-Round.log.now c.in-Ok-Round.lines refl here short)

pub overflow_add-before-in-Ok-Round : goal.overflow_add-before-in-Ok-Round
overflow_add-before-in-Ok-Round g c =
    let r = rules_of g.P.Primitive.behaviour g.P.Primitive.settled g.P.Ported.port_state g.P.Ported.placed g.P.Ported.withdrawn in
    let shape : KeepsShape r = record { lawful = g.met.P.Primitive.lawful; settled = g.met.P.Primitive.settled_shape; placed = g.met.P.Ported.placed_shape; withdrawn = g.met.P.Ported.withdrawn_shape } in
    let start : Place g.row.P.Denot = record { state = record { circuit = c.args.stage.now.circuit; players = c.args.players.now }; over = c.args.begins } in
    let short : length c.args.proof.now < 2 ^ 63 = search rules in
    let so_far : SoFar r c.args.ports.now.list start c.args.proof.now c.loop-line.reader c.loop-line.before c.loop-line.stage.rounds c.loop-line.stage.circuit c.loop-line.players c.loop-line.over = c.loop-line.invariant.so_far in
    let found = subst (λ (n : Next). IsFound c.args.ports.now.list (c.rounds-made.result + 1) c.loop-line.reader c.read_next.new.reader n) c.in-Ok-Round.field-0-is c.in-Ok-Round.ensures in
    let here : IsRoundFound c.args.ports.now.list (c.loop-line.stage.rounds + 1) c.loop-line.reader c.read_next.new.reader c.in-Ok-Round.line c.in-Ok-Round.log.now c.in-Ok-Round.lines =
    subst (λ (n : ℕ). IsRoundFound c.args.ports.now.list (n + 1) c.loop-line.reader c.read_next.new.reader c.in-Ok-Round.line c.in-Ok-Round.log.now c.in-Ok-Round.lines) c.rounds-made.ensures found in
    omega (arith, lines_few r c.args.ports.now.list start c.args.proof.now c.loop-line.reader c.loop-line.before c.loop-line.stage.rounds c.loop-line.stage.circuit c.loop-line.players c.loop-line.over so_far shape (c.loop-line.stage.rounds + 1) c.read_next.new.reader c.in-Ok-Round.line c.in-Ok-Round.log.now c.in-Ok-Round.lines refl here short)

pub loop-line-preserved : goal.loop-line-preserved
loop-line-preserved g c =
    let r = rules_of g.P.Primitive.behaviour g.P.Primitive.settled g.P.Ported.port_state g.P.Ported.placed g.P.Ported.withdrawn in
    let shape : KeepsShape r = record { lawful = g.met.P.Primitive.lawful; settled = g.met.P.Primitive.settled_shape; placed = g.met.P.Ported.placed_shape; withdrawn = g.met.P.Ported.withdrawn_shape } in
    let start : Place g.row.P.Denot = record { state = record { circuit = c.args.stage.now.circuit; players = c.args.players.now }; over = c.args.begins } in
    let so_far : SoFar r c.args.ports.now.list start c.args.proof.now c.loop-line.reader c.loop-line.before c.loop-line.stage.rounds c.loop-line.stage.circuit c.loop-line.players c.loop-line.over = c.loop-line.invariant.so_far in
    let found = subst (λ (n : Next). IsFound c.args.ports.now.list (c.rounds-made.result + 1) c.loop-line.reader c.read_next.new.reader n) c.in-Ok-Round.field-0-is c.in-Ok-Round.ensures in
    let here : IsRoundFound c.args.ports.now.list (c.loop-line.stage.rounds + 1) c.loop-line.reader c.read_next.new.reader c.in-Ok-Round.line c.in-Ok-Round.log.now c.in-Ok-Round.lines =
    subst (λ (n : ℕ). IsRoundFound c.args.ports.now.list (n + 1) c.loop-line.reader c.read_next.new.reader c.in-Ok-Round.line c.in-Ok-Round.log.now c.in-Ok-Round.lines) c.rounds-made.ensures found in
    let more = so_far_more r c.args.ports.now.list start c.args.proof.now c.loop-line.reader c.loop-line.before c.loop-line.stage.rounds c.loop-line.stage.circuit c.loop-line.players c.loop-line.over so_far shape (c.loop-line.stage.rounds + 1) c.read_next.new.reader c.in-Ok-Round.line c.in-Ok-Round.log.now c.in-Ok-Round.lines refl here c.prove_round.new.stage.circuit c.prove_round.new.players c.in-Ok.now
    (on_by c.loop-line.over (sym c.is_some.ensures ∙ c.if-is_some.false)) (c.in-Ok.ensures.made so_far.circuit so_far.same) in
    record {
      so_far = subst (λ (n : ℕ). SoFar r c.args.ports.now.list start c.args.proof.now c.read_next.new.reader (c.loop-line.before + (c.in-Ok-Round.lines + 2)) n c.prove_round.new.stage.circuit c.prove_round.new.players c.in-Ok.now) (sym c.in-Ok.ensures.rounds) more;
      between = c.in-Ok.ensures.between;
    }
