-- The joints of a circuit stay in order whatever is heard.
use Rattle.std.proofs.Common.{◌≡◌, ℕ, ◌+◌, Bool, true, false, cond, inl, inr, List, [], ◌∷◌, Result, Ok, Err, sym, subst, map}
use Rattle.std.specs.Prelude.{Option, Some, None}
use Rattle.reo_net_base.specs.declared.joint.Joint.{Joint}
use Rattle.reo_net_base.specs.declared.port.Offer.{Offer}
use Rattle.reo_net_base.specs.declared.port.Offer.TheVariants as offers
use Rattle.reo_net_base.specs.declared.port.Port.{Port}
use Rattle.reo_net_base.specs.Net.{Wiring, net_of}
use Rattle.reo_net_base.specs.Shapes.{SameShapes}
use Rattle.reo_net_base.specs.Step.{change_at}
use Rattle.reo_net_circuit.proofs.ReshapeLemmas.{lawful_at, wired_same, order_same}
use Rattle.reo_net_circuit.proofs.PortLemmas.{changed}
use Rattle.reo_script.specs.declared.scripts.event.Event.{Event}
use Rattle.reo_script.specs.declared.scripts.event.Event.TheVariants as events
use Rattle.reo_script.specs.declared.scripts.event.EventFault.{EventFault}
use Rattle.reo_script.specs.declared.scripts.event.EventFault.TheVariants as wrongs
use Rattle.reo_rounds.specs.Rules.{Rules}
use Rattle.reo_live.specs.base.Held.{Held, short, long, joined}
use Rattle.reo_live.specs.base.Live.{Stand, Live, fresh}
use Rattle.reo_live.specs.declared.base.answer.Answer.{Answer}
use Rattle.reo_live.specs.base.Events.{Told, Does, effect, is_pending, placed_at, withdrawn_at, declined, offered_by}
use Rattle.reo_live.specs.declared.base.fault.LineRefusal.{LineRefusal}
use Rattle.reo_live.specs.base.Hearing.{Judges, HearsAll, cleaned}
use Rattle.reo_rounds.specs.Order.{HasOrder}
use Rattle.reo_rounds.specs.RoundOn.{first_within}
use Rattle.reo_rounds.specs.Lasting.{KeepsShape}
use Rattle.reo_rounds.proofs.OrderLemmas.{on_order}

module _ {P : Type 0} (r : Rules P) (k : KeepsShape r) where
  kept : (ps qs : List P) (joints : List Joint) → SameShapes (map r.behaviour ps) (map r.behaviour qs) → HasOrder (record { primitives = map r.behaviour ps; joints = joints })
      → HasOrder (record { primitives = map r.behaviour qs; joints = joints })
  kept ps qs joints same old = record {
    wired = wired_same (map r.behaviour ps) (map r.behaviour qs) same joints old.wired (lawful_at r.behaviour k.lawful qs);
    order = old.order;
    is_order = order_same (map r.behaviour ps) (map r.behaviour qs) same joints old.wired old.order old.is_order;
  }

  pub placed_order : (w : Wiring P) (port : ℕ) (offer : Offer) → HasOrder (net_of r.behaviour w) → HasOrder (net_of r.behaviour (placed_at r w port offer))
  placed_order w port offer old =
      kept w.primitives (change_at (λ p. r.placed p offer) w.primitives port) w.joints (changed r.behaviour (λ p. r.placed p offer) (λ p. k.placed p offer) w.primitives port) old

  pub withdrawn_order : (w : Wiring P) (port : ℕ) → HasOrder (net_of r.behaviour w) → HasOrder (net_of r.behaviour (withdrawn_at r w port))
  withdrawn_order w port old =
      kept w.primitives (change_at r.withdrawn w.primitives port) w.joints (changed r.behaviour r.withdrawn k.withdrawn w.primitives port) old

  abbrev Ordered : Told P → Type 0
  Ordered told = HasOrder (net_of r.behaviour told.stand.circuit)

  one_of_two : (b : Bool) (x y : Told P) → Ordered x → Ordered y → Ordered (cond b x y)
  one_of_two true x y h g = h
  one_of_two false x y h g = g

  offered_order : (o : Option LineRefusal) (a : Stand P) (port : ℕ) (offer : Offer) → HasOrder (net_of r.behaviour a.circuit) → Ordered (offered_by r o a port offer)
  offered_order None a port offer old = placed_order a.circuit port offer old
  offered_order (Some fault) a port offer old = old

  effect_order : (a : Stand P) (answer : Result Event EventFault) → HasOrder (net_of r.behaviour a.circuit) → Ordered (effect r a answer)
  effect_order a (Ok events.Nothing) old = old
  effect_order a (Ok (events.Write port item)) old = offered_order (declined r a.circuit port (offers.Write item)) a port (offers.Write item) old
  effect_order a (Ok (events.Take port)) old = offered_order (declined r a.circuit port offers.Take) a port offers.Take old
  effect_order a (Ok (events.Withdraw port)) old = one_of_two (is_pending r a.circuit port) _ _ (withdrawn_order a.circuit port old) old
  effect_order a (Ok events.Round) old = old
  effect_order a (Ok events.End) old = old
  effect_order a (Err wrongs.Form) old = old
  effect_order a (Err wrongs.NoPort) old = old
  effect_order a (Err wrongs.WrongWay) old = old
  effect_order a (Err (wrongs.ItemOutside port)) old = old
  effect_order a (Err wrongs.NoMemory) old = old

  module _ (budget : ℕ) where
    plain : (a : Stand P) (answer : Result Event EventFault) (told : Told P) → HasOrder (net_of r.behaviour a.circuit) → told ≡ effect r a answer → Ordered told
    plain a answer told old is = subst Ordered (sym is) (effect_order a answer old)

    does_order : (a : Stand P) (answer : Result Event EventFault) (told : Told P) → HasOrder (net_of r.behaviour a.circuit) → Does r budget a answer told → Ordered told
    does_order a (Ok events.Nothing) told old d = plain a (Ok events.Nothing) told old d
    does_order a (Ok (events.Write port item)) told old d = plain a (Ok (events.Write port item)) told old d
    does_order a (Ok (events.Take port)) told old d = plain a (Ok (events.Take port)) told old d
    does_order a (Ok (events.Withdraw port)) told old d = plain a (Ok (events.Withdraw port)) told old d
    does_order a (Ok events.Round) told old (inl m) =
        subst Ordered (sym m.is) (on_order r k (first_within budget) (a.rounds + 1) a.circuit m.line m.next m.round old)
    does_order a (Ok events.Round) told old (inr s) = subst Ordered (sym s.is) old
    does_order a (Ok events.End) told old d = plain a (Ok events.End) told old d
    does_order a (Err wrongs.Form) told old d = plain a (Err wrongs.Form) told old d
    does_order a (Err wrongs.NoPort) told old d = plain a (Err wrongs.NoPort) told old d
    does_order a (Err wrongs.WrongWay) told old d = plain a (Err wrongs.WrongWay) told old d
    does_order a (Err (wrongs.ItemOutside port)) told old d = plain a (Err (wrongs.ItemOutside port)) told old d
    does_order a (Err wrongs.NoMemory) told old d = plain a (Err wrongs.NoMemory) told old d

    pub judges_order : (ports : List Port) (a : Stand P) (h : Held) (told : Told P) → HasOrder (net_of r.behaviour a.circuit) → Judges r ports budget a h told → Ordered told
    judges_order ports a long told old d = subst Ordered (sym d) old
    judges_order ports a (short bytes) told old d = does_order a d.0 told old d.2

    pub all_order : (ports : List Port) (s t : Live P) (lines : List (List ℕ)) (answers : List Answer) → HasOrder (net_of r.behaviour s.stand.circuit) → HearsAll r ports budget s lines t answers
        → HasOrder (net_of r.behaviour t.stand.circuit)
    all_order ports s t [] answers old h = subst (λ (v : Live P). HasOrder (net_of r.behaviour v.stand.circuit)) (sym h.0) old
    all_order ports s t (l ∷ ls) answers old (inl h) = subst (λ (v : Live P). HasOrder (net_of r.behaviour v.stand.circuit)) (sym h.1) old
    all_order ports s t (l ∷ ls) answers old (inr h) =
        all_order ports (fresh h.1.stand) t ls h.2 (judges_order ports s.stand (cleaned (joined s.line l)) h.1 old h.3) h.4
