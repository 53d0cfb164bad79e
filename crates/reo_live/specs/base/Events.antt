-- What an event does, and what it is answered.
use Rattle.std.specs.Prelude.{ℕ, ◌+◌, ◌≡◌, ◌⊎◌, ◌&&◌, Bool, true, false, not, nat_lt, cond, is_some, Option, Some, None, List, [], ◌∷◌, map, Result, Ok, Err}
use Rattle.reo_net_base.specs.declared.port.Offer.{Offer}
use Rattle.reo_net_base.specs.declared.port.Offer.TheVariants as offers
use Rattle.reo_net_base.specs.declared.port.Way.{Way}
use Rattle.reo_net_base.specs.declared.port.Way.TheVariants.{In, Out}
use Rattle.reo_net_base.specs.PortState.{PortState, port_state_at, way_of}
use Rattle.reo_net_base.specs.Net.{Wiring, net_of}
use Rattle.reo_net_base.specs.Step.{change_at}
use Rattle.reo_trace.specs.declared.line.RoundLine.{RoundLine}
use Rattle.reo_script.specs.declared.scripts.event.Event.{Event}
use Rattle.reo_script.specs.declared.scripts.event.Event.TheVariants as events
use Rattle.reo_script.specs.declared.scripts.event.EventFault.{EventFault}
use Rattle.reo_script.specs.declared.scripts.event.EventFault.TheVariants as wrongs
use Rattle.reo_weights.specs.Over.{Cause, IsOver}
use Rattle.reo_rounds.specs.Rules.{Rules}
use Rattle.reo_rounds.specs.RoundOn.{RoundOn, first_within}
use Rattle.reo_live.specs.declared.base.answer.Answer.{Answer}
use Rattle.reo_live.specs.declared.base.answer.Answer.TheVariants as answers
use Rattle.reo_live.specs.declared.base.fault.LineRefusal.{LineRefusal}
use Rattle.reo_live.specs.declared.base.fault.LineRefusal.TheVariants as faults
use Rattle.reo_live.specs.base.Live.{Stand, with_circuit, after_round, closed}
use Rattle.reo_live.specs.base.Answers.{stopped_by}

-- How far it has come with a line, and the answers to the line.
pub record Told (P : Type 0) : Type 0 where
  pub stand : Stand P
  pub answers : List Answer

-- A port goes this way.
abbrev pub goes : Option Way → Way → Bool
goes (Some In) In = true
goes (Some Out) Out = true
goes way other = false

-- The port takes the item of an offer.
abbrev pub accepts : PortState → Offer → Bool
accepts state (offers.Write item) = state.accepts item
accepts state offers.Take = true

module _ {P : Type 0} (r : Rules P) where
  -- The port of a number.
  abbrev pub port_at : Wiring P → ℕ → PortState
  port_at w port = port_state_at (map r.port_state w.primitives) port

  -- There is a port of this number, and an offer is pending there.
  abbrev pub is_pending : Wiring P → ℕ → Bool
  is_pending w port = nat_lt port w.ports && is_some (port_at w port).pending

  -- The circuit with an offer more, and with one less.
  abbrev pub placed_at : Wiring P → ℕ → Offer → Wiring P
  placed_at w port offer = record w { primitives = change_at (λ p. r.placed p offer) w.primitives port }

  abbrev pub withdrawn_at : Wiring P → ℕ → Wiring P
  withdrawn_at w port = record w { primitives = change_at r.withdrawn w.primitives port }

  -- A line that is refused changes nothing but the number of lines.
  abbrev pub refusing : Stand P → LineRefusal → Told P
  refusing a fault = record {
    stand = with_circuit a a.circuit;
    answers = answers.Refused (a.lines + 1) fault ∷ [];
  }

  -- A line without an answer.
  abbrev pub silent : Stand P → Wiring P → Told P
  silent a w = record { stand = with_circuit a w; answers = [] }

  -- Why an offer is declined, the first of these that holds: no such port, another way, pending, or
  -- outside its type.
  abbrev pub declined : Wiring P → ℕ → Offer → Option LineRefusal
  declined w port offer =
      cond (not (nat_lt port w.ports)) (Some faults.Port)
      (cond (not (goes (port_at w port).way (way_of offer))) (Some faults.Way)
      (cond (is_pending w port) (Some faults.Pending)
      (cond (accepts (port_at w port) offer) None (Some faults.Outside))))

  -- An offer, where it is not declined.
  abbrev pub offered_by : Option LineRefusal → Stand P → ℕ → Offer → Told P
  offered_by (Some fault) a port offer = refusing a fault
  offered_by None a port offer = silent a (placed_at a.circuit port offer)

  abbrev pub offering : Stand P → ℕ → Offer → Told P
  offering a port offer = offered_by (declined a.circuit port offer) a port offer

  -- A withdrawal, where something is pending.
  abbrev pub withdrawing : Stand P → ℕ → Told P
  withdrawing a port =
      cond (is_pending a.circuit port) (silent a (withdrawn_at a.circuit port))
      (refusing a faults.Nothing)

  -- A write whose literal is no item of the port's type.
  abbrev pub outside : Stand P → ℕ → Told P
  outside a port = refusing a (cond (is_pending a.circuit port) faults.Pending faults.Outside)

  -- It is over: after so many rounds, or since the next cannot be planned.
  abbrev pub closing : Stand P → Answer → Told P
  closing a answer = record { stand = closed a; answers = answer ∷ [] }

  -- What a line comes to that is answered so as an event, but for a round.
  abbrev pub effect : Stand P → Result Event EventFault → Told P
  effect a (Ok (events.Write port item)) = offering a port (offers.Write item)
  effect a (Ok (events.Take port)) = offering a port offers.Take
  effect a (Ok (events.Withdraw port)) = withdrawing a port
  effect a (Ok events.End) = closing a (answers.Ended a.rounds)
  effect a (Ok event) = silent a a.circuit
  effect a (Err (wrongs.ItemOutside port)) = outside a port
  effect a (Err wrongs.NoPort) = refusing a faults.Port
  effect a (Err wrongs.WrongWay) = refusing a faults.Way
  effect a (Err fault) = refusing a faults.Form

  module _ (budget : ℕ) where
    -- A round was made.
    pub record Makes (a : Stand P) (told : Told P) : Type 0 where
      pub line : RoundLine
      pub next : Wiring P
      pub round : RoundOn (first_within budget) r (a.rounds + 1) a.circuit line next
      pub is : told ≡ record { stand = after_round a next; answers = answers.Made line ∷ [] }

    -- No round can be made, and so it is over.
    pub record Stops (a : Stand P) (told : Told P) : Type 0 where
      pub cause : Cause
      pub over : IsOver budget (net_of r.behaviour a.circuit) cause
      pub is : told ≡ closing a (stopped_by (a.rounds + 1) cause)

    -- What an answer as an event comes to.
    abbrev pub Does : Stand P → Result Event EventFault → Told P → Type 0
    Does a (Ok events.Round) told = Makes a told ⊎ Stops a told
    Does a answer told = told ≡ effect a answer
