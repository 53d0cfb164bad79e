-- The replay of a proof text, round by round.
use Rattle.std.proofs.Common.{◌≡◌, ◌∙◌, ap, refl, sym, subst, ℕ, ◌+◌, ◌<◌, ◌≤◌, ◌^◌, List, [], ◌∷◌, ◌++◌, length, append_assoc, length-append, arith}
use Rattle.std.specs.Prelude.{Option, None}
use Rattle.reo_net_base.specs.declared.port.Port.{Port}
use Rattle.reo_net_base.specs.Net.{Net, Wiring, net_of}
use Rattle.reo_players.specs.Players.{Player}
use Rattle.reo_players.specs.Offers.{offer_for}
use Rattle.reo_trace.specs.declared.line.RoundLine.{RoundLine}
use Rattle.reo_trace.specs.declared.line.Ending.{Ending}
use Rattle.reo_rounds.specs.Order.{HasOrder}
use Rattle.reo_rounds.specs.Rules.{Rules}
use Rattle.reo_rounds.specs.Lasting.{KeepsShape}
use Rattle.reo_rounds.proofs.OrderLemmas.{ready_order, round_order}
use Rattle.reo_runs.specs.Round.{State, net_ready}
use Rattle.reo_runs.specs.Run.{Place, place_after}
use Rattle.reo_runs.specs.at_ports.Pending.{IsButForOffers}
use Rattle.reo_runs.specs.verdicts.Replays.{colourings}
use Rattle.reo_runs.specs.verdicts.Said.{AreSaid}
use Rattle.reo_refute_base.specs.declared.faults.fault.ProofFault.TheVariants as faults
use Rattle.reo_refute_base.specs.faults.Faults.{IsProof}
use Rattle.reo_proof_texts.specs.Cuts.{LoggedRound, logged_text, all_logged, IsLogged}
use Rattle.reo_proof_texts.specs.Proven.{IsProven, AreProven}
use Rattle.reo_proof_reader.specs.Found.{IsRoundFound}
use Rattle.reo_verify_proof.specs.declared.proof_rounds.stop.RoundStop.{RoundStop}
use Rattle.reo_verify_proof.specs.declared.proof_rounds.stop.RoundStop.TheVariants as stops
use Rattle.reo_verify_proof.specs.proof_rounds.Rounds.{IsRoundProven, IsNoProof}
use Rattle.reo_verify_proof.specs.Refusing.{IsOfRound}
use Rattle.reo_verify_proof.proofs.FaultLemmas.{none_wrong_by, wrong_line_le}
use Rattle.reo_verify_proof.proofs.Lists.{lines_more, text_more, logged_more, proven_more, lines_le, rounds_le, Found, found_le}
use Rattle.reo_verify_proof.proofs.SoFar.{SoFar}

-- No round was read yet.
pub so_far_none : {P : Type 0} (r : Rules P) (ports : List Port) (text : List ℕ) (w : Wiring P) (players : List Player) (over : Option Ending) → HasOrder (net_of r.behaviour w) → IsButForOffers r w w
    → SoFar r ports (record { state = record { circuit = w; players = players }; over = over }) text text 0 0 w players over
so_far_none r ports text w players over ordered same = record {
  rounds = [];
  circuit = w;
  cut = refl;
  logged = tt;
  proven = refl;
  lines_are = refl;
  count_is = refl;
  ordered = ordered;
  same = same;
}

module _ {P : Type 0} (r : Rules P) (ports : List Port) (start : Place P) (text left : List ℕ) (before made : ℕ) (w : Wiring P) (players : List Player) (over : Option Ending)
    (so_far : SoFar r ports start text left before made w players over) where
  abbrev pub now_at : State P
  now_at = record { circuit = so_far.circuit; players = players }

  abbrev pub place_now : Place P
  place_now = record { state = now_at; over = over }

  -- There are no more rounds than lines, and no more lines than bytes.
  pub made_le : made ≤ before
  made_le = omega (arith, so_far.count_is, so_far.lines_are, rounds_le so_far.rounds)

  pub before_le : before + length left ≤ length text
  before_le = omega (arith, so_far.lines_are, lines_le ports so_far.rounds, ap (λ (t : List ℕ). length t) so_far.cut, length-append (all_logged ports so_far.rounds) left)

  module _ (k : KeepsShape r) (turn : ℕ) (new : List ℕ) (line : RoundLine) (log : List ℕ) (lines : ℕ) (turn_is : turn ≡ made + 1) (found : IsRoundFound ports turn left new line log lines) where
    abbrev pub round_now : LoggedRound
    round_now = record { line = line; log = found.log }

    -- The rounds with one more.
    pub so_far_more : (v : Wiring P) (others : List Player) (now : Option Ending) → over ≡ None → IsRoundProven r turn now_at line log v others now
        → SoFar r ports start text new (before + (lines + 2)) (made + 1) v others now
    so_far_more v others now on more =
        let at : turn ≡ 1 + length so_far.rounds = omega (arith, turn_is, so_far.count_is) in
        let proven : IsProven colourings r turn now_at round_now more.next = record { round = more.round; proof = subst (IsProof (net_ready r now_at) turn more.round.made.rows) found.text_is more.proof } in
        let here : place_after turn line now_at more.next ≡ record { state = record { circuit = more.next.circuit; players = others }; over = now }
        = λ i. record { state = record { circuit = more.next.circuit; players = sym more.players_are i }; over = sym more.over_is i } in
        let leads : AreProven colourings r 1 start (so_far.rounds ++ round_now ∷ []) (place_after turn line now_at more.next) =
        subst (λ (n : ℕ). AreProven colourings r 1 start (so_far.rounds ++ round_now ∷ []) (place_after n line now_at more.next)) (sym at)
        (proven_more r place_now round_now more.next on 1 start so_far.rounds so_far.proven (subst (λ (n : ℕ). IsProven colourings r n now_at round_now more.next) at proven)) in
        record {
          rounds = so_far.rounds ++ round_now ∷ [];
          circuit = more.next.circuit;
          cut =
              so_far.cut ∙ ap (λ (t : List ℕ). all_logged ports so_far.rounds ++ t) found.next_is.1 ∙ sym (append_assoc (all_logged ports so_far.rounds) (logged_text ports round_now) new)
              ∙ ap (λ (t : List ℕ). t ++ new) (sym (text_more ports so_far.rounds round_now));
          logged = logged_more ports 1 so_far.rounds round_now so_far.logged (subst (λ (n : ℕ). IsLogged ports n round_now) at found.next_is.0);
          proven = subst (AreProven colourings r 1 start (so_far.rounds ++ round_now ∷ [])) here leads;
          lines_are = omega (arith, so_far.lines_are, found.count_is, lines_more so_far.rounds round_now);
          count_is = omega (arith, so_far.count_is, length-append so_far.rounds (round_now ∷ []));
          ordered = round_order r k (offer_for players) colourings.suits turn so_far.circuit line more.next.circuit more.round.made so_far.ordered;
          same = more.circuit;
        }

    bytes : Found left new log lines
    bytes = found_le ports turn left new line log lines found

    -- Less is left.
    pub less : length new < length left
    less = omega (arith, bytes.bytes)

    pub lines_few : length text < 2 ^ 63 → before + lines + 2 < 2 ^ 64
    lines_few short = omega (arith, short, before_le, bytes.bytes, bytes.lines_le)

    -- A round that is not accepted is refused by its line or by a fault of its log.
    pub is_of_round : length text < 2 ^ 63 → (stop : RoundStop) → IsNoProof r turn now_at line log stop → IsOfRound before stop
    is_of_round short (stops.Line stop) why = tt
    is_of_round short (stops.Log (faults.Colouring wrong)) why =
        let net : Net = net_ready r now_at in
        let made_of = why.round.made in
        let said : AreSaid net line.entries made_of.rows = record { in_tables = made_of.suits.rows_fit.in_tables; shown = ap (λ (l : RoundLine). l.entries) (sym made_of.shown) } in
        absurd (none_wrong_by net (ready_order r k (offer_for players) so_far.circuit so_far.ordered) line.entries made_of.rows made_of.items said made_of.suits wrong why.fault_is)
    is_of_round short (stops.Log faults.Wide) why = tt
    is_of_round short (stops.Log (faults.Line number)) why =
        omega (arith, short, before_le, bytes.bytes, wrong_line_le (net_ready r now_at) turn why.round.made.rows log number why.fault_is.2)
    is_of_round short (stops.Log faults.NoMemory) why = tt
