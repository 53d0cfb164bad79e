-- Rounds of a replay, one after another.
use Rattle.std.proofs.Common.{◌≡◌, ◌≢◌, ◌∙◌, inl, inr, ℕ, zero, suc, ◌+◌, ◌<◌, ◌≤◌, ◌^◌, List, [], ◌∷◌, ◌++◌, length, refl, sym, ap, subst, arith}
use Rattle.std.specs.Prelude.{Option, None}
use Rattle.reo_net_base.specs.declared.port.Port.{Port}
use Rattle.reo_net_base.specs.Colouring.{IsColouring}
use Rattle.reo_net_base.specs.Moves.{moves_of}
use Rattle.reo_net_base.specs.Net.{Wiring, net_of}
use Rattle.reo_net_base.specs.Step.{stepped}
use Rattle.reo_players.specs.Players.{Player}
use Rattle.reo_players.specs.Offers.{offer_for}
use Rattle.reo_trace.specs.declared.line.RoundLine.{RoundLine}
use Rattle.reo_trace.specs.declared.line.Ending.{Ending}
use Rattle.reo_trace.specs.Entries.{line_for}
use Rattle.reo_trace_reader.specs.texts.Lines.{IsLine, AreLines}
use Rattle.reo_rounds.specs.declared.plan.Plan.{Plan}
use Rattle.reo_rounds.specs.Ready.{ready}
use Rattle.reo_rounds.specs.Rules.{Rules}
use Rattle.reo_runs.specs.Round.{State, advanced, net_ready}
use Rattle.reo_runs.specs.Run.{Place, Leads, place_after, over_after}
use Rattle.reo_runs.proofs.WholeLemmas.{leads_on}
use Rattle.reo_runs.specs.at_ports.Pending.{IsButForOffers}
use Rattle.reo_runs.proofs.at_ports.AfterRound.{over_by}
use Rattle.reo_runs.specs.declared.verdicts.verdict.Refusal.{Refusal}
use Rattle.reo_runs.specs.declared.verdicts.verdict.Refusal.TheVariants as refusals
use Rattle.reo_runs.specs.verdicts.Replays.{colourings}
use Rattle.reo_runs.specs.verdicts.Wrongs.{IsWrongRound}
use Rattle.reo_runs.specs.verdicts.Said.{jammed}
use Rattle.reo_verify.specs.declared.outcome.Outcome.{Outcome}
use Rattle.reo_verify.specs.declared.judging.judging.Stop.{Stop}
use Rattle.reo_verify.specs.judging.Judged.{IsPlanShown}
use Rattle.reo_verify.specs.judging.Refused.{IsRefusalBy}
use Rattle.reo_verify.specs.Replayed.{IsReplayed, IsNoRound, AreReplayed, IsCutOff}
use Rattle.reo_verify.proofs.judging.RefusalLemmas.{wrong_by}
use Rattle.reo_verify.proofs.SoFar.{SoFar}

-- What a line shows, and was done, is a round.
pub round_replayed : {P : Type 0} (r : Rules P) (turn : ℕ) (a : State P) (w v : Wiring P) (p : Plan) (line : RoundLine) (players : List Player) (over : Option Ending) → w ≡ ready r (offer_for a.players) a.circuit
    → line.round ≡ turn → IsPlanShown (net_of r.behaviour w) w.ports line p → players ≡ advanced (net_of r.behaviour w) p.colouring.rows a.players
    → IsButForOffers r (record w { primitives = stepped r.behaviour r.settled w p.colouring.rows p.colouring.items }) v → over ≡ over_after turn p.idle a.players players
    → IsReplayed r turn a line v players over
round_replayed r turn a w v p line players over same number plan players_are but over_is =
    let line_is : line ≡ line_for (net_of r.behaviour w) turn p.colouring.rows p.moves = plan.shown ∙ ap (λ n. line_for (net_of r.behaviour w) n p.colouring.rows p.moves) number in
    record {
      next = record { circuit = record w { primitives = stepped r.behaviour r.settled w p.colouring.rows p.colouring.items }; players = players };
      round = record {
        made = record {
          rows = p.colouring.rows;
          items = p.colouring.items;
          suits = subst (λ (x : Wiring _). IsColouring (net_of r.behaviour x) p.colouring.rows p.colouring.items) same plan.suits.colouring;
          shown = line_is ∙ ap (λ ms. line_for (net_of r.behaviour w) turn p.colouring.rows ms) plan.suits.shows.moves
              ∙ ap (λ (x : Wiring _). line_for (net_of r.behaviour x) turn p.colouring.rows (moves_of (net_of r.behaviour x) x.ports p.colouring.rows p.colouring.items)) same;
          circuit = ap (λ (x : Wiring _). record x { primitives = stepped r.behaviour r.settled x p.colouring.rows p.colouring.items }) same;
        };
        players = players_are ∙ ap (λ (x : Wiring _). advanced (net_of r.behaviour x) p.colouring.rows a.players) same;
      };
      over_is = over_is ∙ over_by (net_of r.behaviour w) turn w.ports p line a.players players plan.suits.shows line_is;
      circuit = but;
      players_are = refl;
    }

-- A line behind others has the number of its round.
pub line_behind : (ports : List Port) (number : ℕ) (done : List RoundLine) (line : RoundLine) (left : List RoundLine) → AreLines ports number (done ++ line ∷ left) → IsLine ports (number + length done) line
line_behind ports number [] line left are = let none : number ≡ number + zero = omega arith in subst (λ n. IsLine ports n line) none are.0
line_behind ports number (x ∷ xs) line left are =
    let next : number + 1 + length xs ≡ number + suc (length xs) = omega arith in
    subst (λ n. IsLine ports n line) next (line_behind ports (number + 1) xs line left are.1)

-- So there are few lines.
pub few_lines : (ports : List Port) (number : ℕ) (lines : List RoundLine) → number ≤ 2 ^ 63 → AreLines ports number lines → number + length lines ≤ 2 ^ 63
few_lines ports number [] le are = omega arith
few_lines ports number (x ∷ xs) le are =
    let small : number < 2 ^ 63 = are.0.small in
    let more = few_lines ports (number + 1) xs (omega (arith, small)) are.1 in omega (arith, more)

-- No line was replayed yet.
pub so_far_none : {P : Type 0} (r : Rules P) (w : Wiring P) (players : List Player) (over : Option Ending) → IsButForOffers r w w
    → SoFar r (record { state = record { circuit = w; players = players }; over = over }) [] w players over
so_far_none r w players over left = record { circuit = w; rounds = refl; left = left }

-- All lines were replayed.
pub all_replayed : {P : Type 0} (r : Rules P) (start : Place P) (lines done : List RoundLine) (w : Wiring P) (players : List Player) (outcome : Outcome)
    → lines ≡ done → SoFar r start done w players outcome.over → outcome.rounds ≡ length done → outcome.jammed ≡ jammed done → AreReplayed r start lines outcome
all_replayed r start lines done w players outcome same so_far count jams =
    let last : Place _ = record { state = record { circuit = so_far.circuit; players = players }; over = outcome.over } in
    record {
      last = last;
      rounds = subst (λ (ls : List RoundLine). Leads colourings r 1 start ls last) (sym same) so_far.rounds;
      over_is = refl;
      count = count ∙ ap (λ (ls : List RoundLine). length ls) (sym same);
      jams = jams ∙ ap (λ (ls : List RoundLine). jammed ls) (sym same);
    }

module _ {P : Type 0} (r : Rules P) (nodes : List (List ℕ)) (homes : List ℕ) where
  module _ (start : Place P) (lines done : List RoundLine) (line : RoundLine) (left : List RoundLine) (cut : lines ≡ done ++ line ∷ left) (w : Wiring P) (players : List Player) (over : Option Ending) (so_far : SoFar r start done w players over) where
    abbrev pub now_at : State P
    now_at = record { circuit = so_far.circuit; players = players }

    abbrev pub place_now : Place P
    place_now = record { state = now_at; over = over }

    -- The lines with one more.
    pub so_far_more : (turn : ℕ) (v : Wiring P) (others : List Player) (now : Option Ending) → turn ≡ length done + 1 → over ≡ None → IsReplayed r turn now_at line v others now → SoFar r start (done ++ line ∷ []) v others now
    so_far_more turn v others now turn_is on more = record {
      circuit = more.next.circuit;
      rounds =
          let here : place_after turn line now_at more.next ≡ record { state = record { circuit = more.next.circuit; players = others }; over = now }
          = λ k. record { state = record { circuit = more.next.circuit; players = sym more.players_are k }; over = sym more.over_is k } in
          let leads : Leads colourings r 1 start (done ++ line ∷ []) (place_after turn line now_at more.next) =
          leads_on colourings r 1 turn start done place_now (omega (arith, turn_is)) so_far.rounds
          (line ∷ []) (place_after turn line now_at more.next) (on, more.next, more.round, refl) in
          subst (Leads colourings r 1 start (done ++ line ∷ [])) here leads;
      left = more.circuit;
    }

    -- The run is over before a line.
    pub ended_before : (turn : ℕ) → turn ≡ length done + 1 → over ≢ None → IsCutOff r nodes homes start lines (refusals.Ended turn)
    ended_before turn turn_is ended = record {
      right = done;
      line = line;
      left = left;
      last = place_now;
      cut = cut;
      rounds = so_far.rounds;
      wrong = λ ending. inl (ended, ap refusals.Ended turn_is);
    }

    -- A line shows no round.
    pub stopped_at : (turn : ℕ) (stop : Stop) (refusal : Refusal) → turn ≡ length done + 1 → over ≡ None → line.round ≡ turn → IsNoRound r now_at line stop → IsRefusalBy nodes homes turn stop refusal
        → IsCutOff r nodes homes start lines refusal
    stopped_at turn stop refusal turn_is on number why is = record {
      right = done;
      line = line;
      left = left;
      last = place_now;
      cut = cut;
      rounds = so_far.rounds;
      wrong = λ ending. inr (
        on,
        subst (λ n. IsWrongRound nodes homes (net_ready r now_at) so_far.circuit.ports n line refusal) turn_is (wrong_by nodes homes (net_ready r now_at) so_far.circuit.ports turn line stop refusal number why is),
      );
    }
