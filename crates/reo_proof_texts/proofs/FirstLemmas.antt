-- Rounds with logs that are accepted are first, and what a run proves is verified.
use Rattle.std.proofs.Common.{◌≡◌, refl, sym, subst, inl, inr, ℕ, ◌+◌, List, [], ◌∷◌, length, map}
use Rattle.std.proofs.lemmas.List.{length-map}
use Rattle.reo_net_base.specs.declared.port.Port.{Port}
use Rattle.reo_net_base.specs.Net.{Net, net_of}
use Rattle.reo_players.specs.Offers.{offer_for}
use Rattle.reo_trace.specs.declared.line.RoundLine.{RoundLine}
use Rattle.reo_trace.specs.declared.line.Ending.{Ending}
use Rattle.reo_rounds.specs.Order.{HasOrder}
use Rattle.reo_rounds.specs.Ready.{ready}
use Rattle.reo_rounds.specs.Rules.{Rules}
use Rattle.reo_rounds.specs.Lasting.{KeepsShape}
use Rattle.reo_rounds.proofs.OrderLemmas.{ready_order, round_order}
use Rattle.reo_rounds.proofs.RoundLemmas.{suits_also}
use Rattle.reo_runs.specs.Round.{State, Choosing, RoundOf, net_ready}
use Rattle.reo_runs.specs.Run.{Place, Leads, EndsAs, IsRun, place_after, firsts}
use Rattle.reo_runs.specs.verdicts.Replays.{MayStop, colourings}
use Rattle.reo_runs.proofs.verdicts.VerifiedLemmas.{may_stop}
use Rattle.reo_refute_base.specs.Logs.{RightLogsRefute}
use Rattle.reo_proof_texts.specs.Cuts.{LoggedRound}
use Rattle.reo_proof_texts.specs.Proven.{IsProven, AreProven, IsProved}
use Rattle.reo_proof_texts.specs.Laws.{first_colourings, VerifiedRoundsAreFirst, ProvedTextsAreVerified, ProvedTextsAreOfRuns}

abbrev line_of : LoggedRound → RoundLine
line_of x = x.line

module _ {P : Type 0} (r : Rules P) (k : KeepsShape r) (refute : RightLogsRefute) where
  round_first : (turn : ℕ) (a : State P) (x : LoggedRound) (b : State P) → HasOrder (net_of r.behaviour a.circuit) → IsProven colourings r turn a x b → RoundOf first_colourings r turn a x.line b
  round_first turn a x b old proven =
      let net : Net = net_ready r a in
      let ordered = ready_order r k (offer_for a.players) a.circuit old in
      let made = proven.round.made in
      record {
        made = record {
          rows = made.rows;
          items = made.items;
          suits = record { colouring = made.suits; least = refute net ordered.wired ordered.order ordered.is_order turn made.rows proven.proof.right.lines proven.proof.right.right };
          shown = made.shown;
          circuit = made.circuit;
        };
        players = proven.round.players;
      }

  leads_first : (turn : ℕ) (p : Place P) (xs : List LoggedRound) (q : Place P) → HasOrder (net_of r.behaviour p.state.circuit) → AreProven colourings r turn p xs q → Leads first_colourings r turn p (map line_of xs) q
  leads_first turn p [] q old d = d
  leads_first turn p (x ∷ xs) q old d =
      let here = round_order r k (offer_for p.state.players) colourings.suits turn p.state.circuit x.line d.1.circuit d.2.round.made old in
      (d.0, d.1, round_first turn p.state x d.1 old d.2, leads_first (turn + 1) (place_after turn x.line p.state d.1) xs q here d.3)

  pub rounds_first : VerifiedRoundsAreFirst r
  rounds_first ports start rounds ending text old proved =
      let count : length rounds ≡ length (map line_of rounds) = sym (length-map rounds line_of) in
      record {
        last = proved.last;
        rounds = leads_first 1 start rounds proved.last old proved.proven;
        ends = subst (λ (n : ℕ). EndsAs first_colourings r (n + 1) proved.last ending) count proved.ends;
      }

module _ {P : Type 0} (r : Rules P) (budget limit : ℕ) where
  round_kept : (turn : ℕ) (a : State P) (x : LoggedRound) (b : State P) → IsProven (firsts budget limit) r turn a x b → IsProven colourings r turn a x b
  round_kept turn a x b d = record {
    round = record {
      made = suits_also r turn (ready r (offer_for a.players) a.circuit) (firsts budget limit).suits colourings.suits (λ net n rows items fits. fits.1.1.colouring) x.line b.circuit d.round.made;
      players = d.round.players;
    };
    proof = d.proof;
  }

  proven_kept : (turn : ℕ) (p : Place P) (xs : List LoggedRound) (q : Place P) → AreProven (firsts budget limit) r turn p xs q → AreProven colourings r turn p xs q
  proven_kept turn p [] q same = same
  proven_kept turn p (x ∷ xs) q d =
      (d.0, d.1, round_kept turn p.state x d.1 d.2, proven_kept (turn + 1) (place_after turn x.line p.state d.1) xs q d.3)

  stops_kept : (net : Net) (turn : ℕ) (ending : Ending) → (firsts budget limit).stops net turn ending → MayStop turn ending
  stops_kept net turn ending (inl d) = subst (MayStop turn) (sym d.1) d.0
  stops_kept net turn ending (inr d) = subst (MayStop turn) (sym d.3) (may_stop turn d.1)

  pub ends_kept : (turn : ℕ) (q : Place P) (ending : Ending) → EndsAs (firsts budget limit) r turn q ending → EndsAs colourings r turn q ending
  ends_kept turn q ending (inl over) = inl over
  ends_kept turn q ending (inr d) = inr (d.0, stops_kept (net_ready r q.state) turn ending d.1)

module _ {P : Type 0} (r : Rules P) where
  pub proved_verified : ProvedTextsAreVerified r
  proved_verified budget limit ports nodes homes start rounds ending text logged is_ending proved = record {
    rounds = rounds;
    ending = ending;
    logged = logged;
    is_ending = is_ending;
    proved = record {
      text_is = proved.text_is;
      last = proved.last;
      proven = proven_kept r budget limit 1 start rounds proved.last proved.proven;
      ends = ends_kept r budget limit (length rounds + 1) proved.last ending proved.ends;
    };
    count_is = refl;
  }

-- The rounds and the ending of a proved text are those of a run.
module _ {P : Type 0} (C : Choosing) (r : Rules P) where
  leads_bare : (turn : ℕ) (p : Place P) (xs : List LoggedRound) (q : Place P) → AreProven C r turn p xs q → Leads C r turn p (map line_of xs) q
  leads_bare turn p [] q d = d
  leads_bare turn p (x ∷ xs) q d = (d.0, d.1, d.2.round, leads_bare (turn + 1) (place_after turn x.line p.state d.1) xs q d.3)

  run_bare : (ports : List Port) (start : Place P) (rounds : List LoggedRound) (ending : Ending) (text : List ℕ) → IsProved C r ports start rounds ending text → IsRun C r start (map line_of rounds) ending
  run_bare ports start rounds ending text proved =
      let count : length rounds ≡ length (map line_of rounds) = sym (length-map rounds line_of) in
      record {
        last = proved.last;
        rounds = leads_bare 1 start rounds proved.last proved.proven;
        ends = subst (λ (n : ℕ). EndsAs C r (n + 1) proved.last ending) count proved.ends;
      }

module _ {P : Type 0} (r : Rules P) where
  pub proved_of_runs : ProvedTextsAreOfRuns r
  proved_of_runs budget limit ports start rounds ending text proved = run_bare (firsts budget limit) r ports start rounds ending text proved
