-- What a line shows is a round.
use Rattle.std.proofs.Common.{◌≡◌, ◌∙◌, ℕ, List, ap, subst}
use Rattle.std.specs.Prelude.{Option}
use Rattle.reo_net_base.specs.Colouring.{IsColouring}
use Rattle.reo_net_base.specs.Moves.{moves_of}
use Rattle.reo_net_base.specs.Net.{Wiring, net_of}
use Rattle.reo_net_base.specs.Step.{stepped}
use Rattle.reo_players.specs.Players.{Player}
use Rattle.reo_players.specs.Offers.{offer_for}
use Rattle.reo_trace.specs.declared.line.RoundLine.{RoundLine}
use Rattle.reo_trace.specs.declared.line.Ending.{Ending}
use Rattle.reo_trace.specs.Entries.{line_for}
use Rattle.reo_rounds.specs.declared.plan.Plan.{Plan}
use Rattle.reo_rounds.specs.Ready.{ready}
use Rattle.reo_rounds.specs.Rules.{Rules}
use Rattle.reo_runs.specs.Round.{State, RoundOf, advanced}
use Rattle.reo_runs.specs.Run.{over_after}
use Rattle.reo_runs.specs.at_ports.Pending.{IsButForOffers}
use Rattle.reo_runs.proofs.at_ports.AfterRound.{over_by}
use Rattle.reo_runs.specs.verdicts.Replays.{colourings}
use Rattle.reo_verify.specs.judging.Judged.{IsPlanShown}
use Rattle.reo_refute_base.specs.declared.faults.fault.ProofFault.{ProofFault}
use Rattle.reo_refute_base.specs.declared.faults.fault.ProofFault.TheVariants as faults
use Rattle.reo_refute_base.specs.faults.Faults.{IsProof, IsProofFault}
use Rattle.reo_verify_proof.specs.proof_rounds.Rounds.{IsRoundProven, IsLogRefused, IsRefusedBy}

module _ {P : Type 0} (r : Rules P) (turn : ℕ) (a : State P) (w : Wiring P) (p : Plan) (line : RoundLine) (same : w ≡ ready r (offer_for a.players) a.circuit) (number : line.round ≡ turn) (plan : IsPlanShown (net_of r.behaviour w) w.ports line p) where
  abbrev state_by : State P
  state_by = record { circuit = record w { primitives = stepped r.behaviour r.settled w p.colouring.rows p.colouring.items }; players = advanced (net_of r.behaviour w) p.colouring.rows a.players }

  shown_as : line ≡ line_for (net_of r.behaviour w) turn p.colouring.rows p.moves
  shown_as = plan.shown ∙ ap (λ n. line_for (net_of r.behaviour w) n p.colouring.rows p.moves) number

  -- What a line shows is a round.
  abbrev round_by : RoundOf colourings r turn a line state_by
  round_by = record {
    made = record {
      rows = p.colouring.rows;
      items = p.colouring.items;
      suits = subst (λ (x : Wiring _). IsColouring (net_of r.behaviour x) p.colouring.rows p.colouring.items) same plan.suits.colouring;
      shown = shown_as ∙ ap (λ ms. line_for (net_of r.behaviour w) turn p.colouring.rows ms) plan.suits.shows.moves
          ∙ ap (λ (x : Wiring _). line_for (net_of r.behaviour x) turn p.colouring.rows (moves_of (net_of r.behaviour x) x.ports p.colouring.rows p.colouring.items)) same;
      circuit = ap (λ (x : Wiring _). record x { primitives = stepped r.behaviour r.settled x p.colouring.rows p.colouring.items }) same;
    };
    players = ap (λ (x : Wiring _). advanced (net_of r.behaviour x) p.colouring.rows a.players) same;
  }

  -- And was made, where its log is accepted.
  pub round_proven : (log : List ℕ) (v : Wiring P) (players : List Player) (over : Option Ending) → IsProof (net_of r.behaviour w) turn p.colouring.rows log
      → players ≡ advanced (net_of r.behaviour w) p.colouring.rows a.players
      → IsButForOffers r (record w { primitives = stepped r.behaviour r.settled w p.colouring.rows p.colouring.items }) v → over ≡ over_after turn p.idle a.players players
      → IsRoundProven r turn a line log v players over
  round_proven log v players over proof players_are but over_is = record {
    next = state_by;
    round = round_by;
    proof = subst (λ (x : Wiring _). IsProof (net_of r.behaviour x) turn p.colouring.rows log) same proof;
    over_is = over_is ∙ over_by (net_of r.behaviour w) turn w.ports p line a.players players plan.suits.shows shown_as ∙ ap (λ (ps : List Player). over_after turn line.idle a.players ps) players_are;
    circuit = but;
    players_are = players_are;
  }

  log_refused : (log : List ℕ) (fault : ProofFault) → IsProofFault (net_of r.behaviour w) turn p.colouring.rows log fault → IsLogRefused r turn a line log fault
  log_refused log fault why = record {
    next = state_by;
    round = round_by;
    fault_is = subst (λ (x : Wiring _). IsProofFault (net_of r.behaviour x) turn p.colouring.rows log fault) same why;
  }

  -- Its log is not accepted.
  pub refused_by : (log : List ℕ) (fault : ProofFault) → IsProofFault (net_of r.behaviour w) turn p.colouring.rows log fault → IsRefusedBy r turn a line log fault
  refused_by log (faults.Colouring wrong) why = log_refused log (faults.Colouring wrong) why
  refused_by log faults.Wide why = log_refused log faults.Wide why
  refused_by log (faults.Line n) why = log_refused log (faults.Line n) why
  refused_by log faults.NoMemory why = tt
