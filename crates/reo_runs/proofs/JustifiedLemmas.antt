-- The rounds of a run lose no flow, and jam only for cause.
use Rattle.std.proofs.Common.{ℕ, ◌+◌, List, [], ◌∷◌}
use Rattle.std.specs.Prelude.{Option}
use Rattle.reo_values.specs.declared.value.Value.{Value}
use Rattle.reo_net_base.specs.First.{IsFirst}
use Rattle.reo_net_base.specs.Net.{Net, net_of}
use Rattle.reo_net_base.specs.Wired.{IsWired}
use Rattle.reo_net_laws.specs.FirstLaws.{FirstFlows, FirstJamsForCause}
use Rattle.reo_players.specs.Offers.{offer_for}
use Rattle.reo_trace.specs.declared.line.RoundLine.{RoundLine}
use Rattle.reo_trace.specs.declared.line.Ending.{Ending}
use Rattle.reo_trace.specs.Idle.{IdleMeansNoFlow}
use Rattle.reo_rounds.specs.Rules.{Rules}
use Rattle.reo_runs.specs.Round.{State, RoundOf, net_ready}
use Rattle.reo_runs.specs.Run.{Place, Leads, IsRun, place_after, firsts}
use Rattle.reo_runs.specs.Justified.{IsJustified, justified}
use Rattle.reo_rounds.specs.Lasting.{KeepsShape}
use Rattle.reo_rounds.proofs.OrderLemmas.{ready_wired, round_wired}

module _ {P : Type 0} (r : Rules P) (k : KeepsShape r) (budget limit : ℕ) (flows : FirstFlows) (cause : FirstJamsForCause) (still : IdleMeansNoFlow) where
  first_justified : (net : Net) → IsWired net → (turn : ℕ) (rows : List ℕ) (items : List (Option Value)) → IsFirst net turn rows items → IsJustified net turn rows items
  first_justified net wired turn rows items first = record {
    first = first;
    idle = λ none others other_items col some.
        let found = flows net wired turn rows items first others other_items col some in
        (still net rows wired).0 none found.end found.is_end found.flows;
    jammed = λ inside closed others other_items three side lt here. cause net wired turn rows items first inside closed others other_items three side lt here;
  }

  round_justified : (turn : ℕ) (a : State P) (line : RoundLine) (b : State P) → IsWired (net_of r.behaviour a.circuit)
      → RoundOf (firsts budget limit) r turn a line b → RoundOf (justified (firsts budget limit)) r turn a line b
  round_justified turn a line b wired round = record {
    made = record {
      rows = round.made.rows;
      items = round.made.items;
      suits = (
        round.made.suits,
        first_justified (net_ready r a) (ready_wired r k (offer_for a.players) a.circuit wired) turn round.made.rows round.made.items round.made.suits.1.1,
      );
      shown = round.made.shown;
      circuit = round.made.circuit;
    };
    players = round.players;
  }

  leads_justified : (turn : ℕ) (p : Place P) (lines : List RoundLine) (q : Place P) → IsWired (net_of r.behaviour p.state.circuit)
      → Leads (firsts budget limit) r turn p lines q → Leads (justified (firsts budget limit)) r turn p lines q
  leads_justified turn p [] q wired same = same
  leads_justified turn p (x ∷ xs) q wired d =
      let next = round_wired r k (offer_for p.state.players) (firsts budget limit).suits turn p.state.circuit x d.1.circuit d.2.made wired in
      (d.0, d.1, round_justified turn p.state x d.1 wired d.2, leads_justified (turn + 1) (place_after turn x p.state d.1) xs q next d.3)

  pub run_justified : (start : Place P) → IsWired (net_of r.behaviour start.state.circuit) → (lines : List RoundLine) (ending : Ending)
      → IsRun (firsts budget limit) r start lines ending → IsRun (justified (firsts budget limit)) r start lines ending
  run_justified start wired lines ending run = record {
    last = run.last;
    rounds = leads_justified 1 start lines run.last wired run.rounds;
    ends = run.ends;
  }
