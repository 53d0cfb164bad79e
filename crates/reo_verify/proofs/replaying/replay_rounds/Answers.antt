use Rattle.std.proofs.Common.{◌≡◌, ◌∙◌, ◌+◌, ◌++◌, ℕ, List, [], ◌∷◌, length, ap, refl, sym, subst, arith, append-nil, append_assoc, length-append}
use Rattle.reo_trace.specs.declared.line.RoundLine.{RoundLine}
use Rattle.reo_trace_reader.specs.texts.Lines.{AreLines}
use Rattle.reo_rounds.specs.Rules.{rules_of}
use Rattle.reo_runs.specs.Run.{Place}
use Rattle.reo_runs.specs.verdicts.Said.{jammed}
use Rattle.reo_runs.proofs.at_ports.Kept.{self_but}
use Rattle.reo_verify.proofs.judging.EndLemmas.{ended_by, on_by}
use Rattle.reo_verify.proofs.JamLemmas.{jams_of, jammed_behind, jammed_more}
use Rattle.reo_verify.proofs.ReplayLemmas.{line_behind, so_far_none, so_far_more, ended_before, stopped_at, all_replayed}
use Rattle.reo_verify.proofs.replaying.replay_rounds.Goals as goal

pub loop-line-init : goal.loop-line-init
loop-line-init g c =
    let r = rules_of g.P.Primitive.behaviour g.P.Primitive.settled g.P.Ported.port_state g.P.Ported.placed g.P.Ported.withdrawn in
    record {
      done = [];
      cut = refl;
      so_far = so_far_none r c.args.stage.now.circuit c.args.players.now c.args.begins (self_but r g.met.P.Restoring.placed_again c.args.stage.now.circuit);
      between = c.requires.between;
      count = c.requires.none_made;
      jams = refl;
      seen = c.requires.none_seen (record { state = record { circuit = c.args.stage.now.circuit; players = c.args.players.now }; over = c.args.begins });
    }

pub loop-line-smaller : goal.loop-line-smaller
loop-line-smaller g c =
    let taken : c.loop-line.left ≡ c.in-Some.line ∷ c.next.new.self = rw c.in-Some.is at c.in_ok-line.ensures in
    let count : length c.loop-line.left ≡ length (c.in-Some.line ∷ c.next.new.self) = ap (λ (ls : List RoundLine). length ls) taken in
    omega (arith, count)

pub overflow_add-turn : goal.overflow_add-turn
overflow_add-turn g c =
    let so = c.loop-line.invariant in
    let taken : c.loop-line.left ≡ c.in-Some.line ∷ c.next.new.self = rw c.in-Some.is at c.in_ok-line.ensures in
    let cut : c.args.rounds ≡ so.done ++ c.in-Some.line ∷ c.next.new.self = so.cut ∙ ap (λ (ls : List RoundLine). so.done ++ ls) taken in
    let line = line_behind c.args.ports.now.list 1 so.done c.in-Some.line c.next.new.self (subst (AreLines c.args.ports.now.list 1) cut c.requires.lines) in
    omega (arith, line.small, so.count, c.rounds-turn.ensures)

pub returns-then-is_some-clause-replayed : goal.returns-then-is_some-clause-replayed
returns-then-is_some-clause-replayed g c =
    let r = rules_of g.P.Primitive.behaviour g.P.Primitive.settled g.P.Ported.port_state g.P.Ported.placed g.P.Ported.withdrawn in
    let start : Place g.row.P.Denot = record { state = record { circuit = c.args.stage.now.circuit; players = c.args.players.now }; over = c.args.begins } in
    let so = c.loop-line.invariant in
    let taken : c.loop-line.left ≡ c.in-Some.line ∷ c.next.new.self = rw c.in-Some.is at c.in_ok-line.ensures in
    let cut : c.args.rounds ≡ so.done ++ c.in-Some.line ∷ c.next.new.self = so.cut ∙ ap (λ (ls : List RoundLine). so.done ++ ls) taken in
    ended_before r c.args.nodes.now c.args.homes.now start c.args.rounds so.done c.in-Some.line c.next.new.self cut c.loop-line.stage.circuit c.loop-line.players c.loop-line.over so.so_far
    (c.rounds-turn.result + 1) (ap (λ (n : ℕ). n + 1) (c.rounds-turn.ensures ∙ so.count)) (ended_by c.loop-line.over (sym c.is_some.ensures ∙ c.if-is_some.true))

pub entries_jams-jammed-requires : goal.entries_jams-jammed-requires
entries_jams-jammed-requires g c =
    let so = c.loop-line.invariant in
    let taken : c.loop-line.left ≡ c.in-Some.line ∷ c.next.new.self = rw c.in-Some.is at c.in_ok-line.ensures in
    let cut : c.args.rounds ≡ so.done ++ c.in-Some.line ∷ c.next.new.self = so.cut ∙ ap (λ (ls : List RoundLine). so.done ++ ls) taken in
    let all : jammed c.args.rounds ≡ jammed (so.done ++ c.in-Some.line ∷ c.next.new.self) = ap jammed cut in
    let same : jams_of c.as_slice.result.now ≡ jams_of c.in-Some.line.entries = ap jams_of c.as_slice.ensures in
    omega (arith, all, same, jammed_behind so.done c.in-Some.line c.next.new.self, c.requires.few)

pub overflow_add-jammed : goal.overflow_add-jammed
overflow_add-jammed g c =
    let so = c.loop-line.invariant in
    let taken : c.loop-line.left ≡ c.in-Some.line ∷ c.next.new.self = rw c.in-Some.is at c.in_ok-line.ensures in
    let cut : c.args.rounds ≡ so.done ++ c.in-Some.line ∷ c.next.new.self = so.cut ∙ ap (λ (ls : List RoundLine). so.done ++ ls) taken in
    let all : jammed c.args.rounds ≡ jammed (so.done ++ c.in-Some.line ∷ c.next.new.self) = ap jammed cut in
    let same : jams_of c.as_slice.result.now ≡ jams_of c.in-Some.line.entries = ap jams_of c.as_slice.ensures in
    omega (arith, all, same, jammed_behind so.done c.in-Some.line c.next.new.self, c.requires.few, so.jams, c.entries_jams-jammed.ensures)

pub replay_round-requires-clause-between : goal.replay_round-requires-clause-between
replay_round-requires-clause-between g c = c.loop-line.invariant.between

pub replay_round-requires-clause-few : goal.replay_round-requires-clause-few
replay_round-requires-clause-few g c =
    let so = c.loop-line.invariant in
    let taken : c.loop-line.left ≡ c.in-Some.line ∷ c.next.new.self = rw c.in-Some.is at c.in_ok-line.ensures in
    let cut : c.args.rounds ≡ so.done ++ c.in-Some.line ∷ c.next.new.self = so.cut ∙ ap (λ (ls : List RoundLine). so.done ++ ls) taken in
    let line = line_behind c.args.ports.now.list 1 so.done c.in-Some.line c.next.new.self (subst (AreLines c.args.ports.now.list 1) cut c.requires.lines) in
    omega (arith, line.small, so.count)

pub replay_round-requires-clause-number : goal.replay_round-requires-clause-number
replay_round-requires-clause-number g c =
    let so = c.loop-line.invariant in
    let taken : c.loop-line.left ≡ c.in-Some.line ∷ c.next.new.self = rw c.in-Some.is at c.in_ok-line.ensures in
    let cut : c.args.rounds ≡ so.done ++ c.in-Some.line ∷ c.next.new.self = so.cut ∙ ap (λ (ls : List RoundLine). so.done ++ ls) taken in
    let line = line_behind c.args.ports.now.list 1 so.done c.in-Some.line c.next.new.self (subst (AreLines c.args.ports.now.list 1) cut c.requires.lines) in
    omega (arith, line.number_is, so.count)

pub returns-in-Err-clause-replayed : goal.returns-in-Err-clause-replayed
returns-in-Err-clause-replayed g c =
    let r = rules_of g.P.Primitive.behaviour g.P.Primitive.settled g.P.Ported.port_state g.P.Ported.placed g.P.Ported.withdrawn in
    let start : Place g.row.P.Denot = record { state = record { circuit = c.args.stage.now.circuit; players = c.args.players.now }; over = c.args.begins } in
    let so = c.loop-line.invariant in
    let taken : c.loop-line.left ≡ c.in-Some.line ∷ c.next.new.self = rw c.in-Some.is at c.in_ok-line.ensures in
    let cut : c.args.rounds ≡ so.done ++ c.in-Some.line ∷ c.next.new.self = so.cut ∙ ap (λ (ls : List RoundLine). so.done ++ ls) taken in
    let line = line_behind c.args.ports.now.list 1 so.done c.in-Some.line c.next.new.self (subst (AreLines c.args.ports.now.list 1) cut c.requires.lines) in
    let turn_is : c.rounds-turn.result ≡ length so.done = c.rounds-turn.ensures ∙ so.count in
    stopped_at r c.args.nodes.now c.args.homes.now start c.args.rounds so.done c.in-Some.line c.next.new.self cut c.loop-line.stage.circuit c.loop-line.players c.loop-line.over so.so_far
    (c.rounds-turn.result + 1) c.in-Err.stop _ (ap (λ (n : ℕ). n + 1) turn_is) (on_by c.loop-line.over (sym c.is_some.ensures ∙ c.if-is_some.false)) (omega (arith, line.number_is, turn_is))
    (c.in-Err.ensures.wrong so.so_far.circuit so.so_far.left) c.in_ok-refusal-in-Err.ensures.refusal

pub loop-line-preserved : goal.loop-line-preserved
loop-line-preserved g c =
    let r = rules_of g.P.Primitive.behaviour g.P.Primitive.settled g.P.Ported.port_state g.P.Ported.placed g.P.Ported.withdrawn in
    let start : Place g.row.P.Denot = record { state = record { circuit = c.args.stage.now.circuit; players = c.args.players.now }; over = c.args.begins } in
    let so = c.loop-line.invariant in
    let taken : c.loop-line.left ≡ c.in-Some.line ∷ c.next.new.self = rw c.in-Some.is at c.in_ok-line.ensures in
    let cut : c.args.rounds ≡ so.done ++ c.in-Some.line ∷ c.next.new.self = so.cut ∙ ap (λ (ls : List RoundLine). so.done ++ ls) taken in
    let same : jams_of c.as_slice.result.now ≡ jams_of c.in-Some.line.entries = ap jams_of c.as_slice.ensures in
    record {
      done = so.done ++ c.in-Some.line ∷ [];
      cut = cut ∙ sym (append_assoc so.done (c.in-Some.line ∷ []) c.next.new.self);
      so_far = so_far_more r c.args.nodes.now c.args.homes.now start c.args.rounds so.done c.in-Some.line c.next.new.self cut c.loop-line.stage.circuit c.loop-line.players c.loop-line.over so.so_far
          (c.loop-line.stage.rounds + 1) c.replay_round.new.stage.circuit c.replay_round.new.players c.in-Ok.now (ap (λ (n : ℕ). n + 1) so.count) (on_by c.loop-line.over (sym c.is_some.ensures ∙ c.if-is_some.false))
          (c.in-Ok.ensures.made so.so_far.circuit so.so_far.left);
      between = c.in-Ok.ensures.between;
      count = c.in-Ok.ensures.rounds ∙ (let more = length-append so.done (c.in-Some.line ∷ []) in omega (arith, so.count, more));
      jams = omega (arith, so.jams, c.entries_jams-jammed.ensures, same, jammed_more so.done c.in-Some.line);
      seen = c.in-Ok.ensures.seen c.args.witness.now start (record { state = record { circuit = so.so_far.circuit; players = c.loop-line.players }; over = c.loop-line.over }) so.done so.so_far.rounds refl so.so_far.left
          (sym so.count) so.seen;
    }

pub returns-clause-replayed : goal.returns-clause-replayed
returns-clause-replayed g c =
    let r = rules_of g.P.Primitive.behaviour g.P.Primitive.settled g.P.Ported.port_state g.P.Ported.placed g.P.Ported.withdrawn in
    let start : Place g.row.P.Denot = record { state = record { circuit = c.args.stage.now.circuit; players = c.args.players.now }; over = c.args.begins } in
    let so = c.loop-line.invariant in
    let none = rw c.in_default.is at c.in_ok-line.ensures in
    let same : c.args.rounds ≡ so.done = so.cut ∙ ap (λ (ls : List RoundLine). so.done ++ ls) none.0 ∙ append-nil so.done in
    all_replayed r start c.args.rounds so.done c.loop-line.stage.circuit c.loop-line.players _ same so.so_far (c.rounds-rounds.ensures ∙ so.count) so.jams

pub returns-clause-seen : goal.returns-clause-seen
returns-clause-seen g c =
    let start : Place g.row.P.Denot = record { state = record { circuit = c.args.stage.now.circuit; players = c.args.players.now }; over = c.args.begins } in
    let so = c.loop-line.invariant in
    let none = rw c.in_default.is at c.in_ok-line.ensures in
    let same : c.args.rounds ≡ so.done = so.cut ∙ ap (λ (ls : List RoundLine). so.done ++ ls) none.0 ∙ append-nil so.done in
    subst (λ (ls : List RoundLine). g.W.Witness.seen c.args.witness.now start ls c.loop-line.witness) (sym same) so.seen
