-- A round of the engine is a round of the run.
use Rattle.std.proofs.Common.{◌≡◌, ◌∙◌, ℕ, ◌≤◌, List, refl, sym, ap, subst}
use Rattle.reo_net_base.specs.declared.port.Port.{Port}
use Rattle.reo_net_base.specs.Moves.{moves_of}
use Rattle.reo_net_base.specs.Net.{Net, Wiring, net_of}
use Rattle.reo_net_base.specs.Step.{stepped}
use Rattle.reo_net_base.specs.First.{IsFirst}
use Rattle.reo_players.specs.Players.{Player}
use Rattle.reo_players.specs.Offers.{offer_for}
use Rattle.reo_trace.specs.declared.line.RoundLine.{RoundLine}
use Rattle.reo_trace.specs.Entries.{line_for}
use Rattle.reo_rounds.specs.declared.plan.Plan.{Plan}
use Rattle.reo_weights.specs.Over.{IsOver}
use Rattle.reo_rounds.specs.Plans.{IsPlan, jammed_sides}
use Rattle.reo_runner.specs.at_ports.Engines.{IsMadeWithin, MadeRound}
use Rattle.reo_rounds.specs.Ready.{ready}
use Rattle.reo_rounds.specs.Rules.{Rules}
use Rattle.reo_runs.specs.Round.{State, RoundOf, advanced}
use Rattle.reo_runs.specs.Run.{firsts}
use Rattle.reo_runner.specs.declared.outcome.Tally.{Tally}
use Rattle.reo_runner.specs.Rounds.{IsTallied}

-- What was planned and done is a round.
pub round_planned : {P : Type 0} (r : Rules P) (budget limit turn : ℕ) (a : State P) (w : Wiring P) (p : Plan) (line : RoundLine) (players : List Player) → w ≡ ready r (offer_for a.players) a.circuit
    → turn ≤ limit → IsPlan budget (net_of r.behaviour w) w.ports turn p → line ≡ line_for (net_of r.behaviour w) turn p.colouring.rows p.moves
    → players ≡ advanced (net_of r.behaviour w) p.colouring.rows a.players
    → RoundOf (firsts budget limit) r turn a line (record { circuit = record w { primitives = stepped r.behaviour r.settled w p.colouring.rows p.colouring.items }; players = players })
round_planned r budget limit turn a w p line players same within plan line_is players_are = record {
  made = record {
    rows = p.colouring.rows;
    items = p.colouring.items;
    suits = (
      within,
      (
        λ cause over. plan.within cause (subst (λ x. IsOver budget (net_of r.behaviour x) cause) (sym same) over),
        subst (λ x. IsFirst (net_of r.behaviour x) turn p.colouring.rows p.colouring.items) same plan.first,
      ),
    );
    shown = line_is ∙ ap (λ ms. line_for (net_of r.behaviour w) turn p.colouring.rows ms) plan.shows.moves
        ∙ ap (λ (x : Wiring _). line_for (net_of r.behaviour x) turn p.colouring.rows (moves_of (net_of r.behaviour x) x.ports p.colouring.rows p.colouring.items)) same;
    circuit = ap (λ (x : Wiring _). record x { primitives = stepped r.behaviour r.settled x p.colouring.rows p.colouring.items }) same;
  };
  players = players_are ∙ ap (λ (x : Wiring _). advanced (net_of r.behaviour x) p.colouring.rows a.players) same;
}

-- The moves of a plan are those of its line.
pub tallied_by : (net : Net) (turn : ℕ) (p : Plan) (ports : List Port) (line : RoundLine) (old new : Tally) → line ≡ line_for net turn p.colouring.rows p.moves → IsTallied ports p.moves old new → IsTallied ports line.moves old new
tallied_by net turn p ports line old new line_is tallied = subst (λ ms. IsTallied ports ms old new) (sym (ap (λ (l : RoundLine). l.moves) line_is)) tallied

-- What stands, as a plan.
abbrev pub plan_of : Net → MadeRound → Plan
plan_of net s = record { colouring = s.colouring; moves = s.line.moves; idle = s.line.idle; jammed = jammed_sides net s.colouring.rows }

pub stood_plan : (budget : ℕ) (net : Net) (ports turn : ℕ) (s : MadeRound) → IsMadeWithin budget net ports turn s → IsPlan budget net ports turn (plan_of net s)
stood_plan budget net ports turn s is = record {
  within = is.within;
  first = is.is_made.first;
  shows = record {
    moves = ap (λ (l : RoundLine). l.moves) is.is_made.line;
    idle = ap (λ (l : RoundLine). l.idle) is.is_made.line;
    jammed = refl;
  };
}
