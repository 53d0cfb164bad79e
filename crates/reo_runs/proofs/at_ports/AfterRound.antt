-- The offers and the components after a round.
use Rattle.std.proofs.Common.{◌≡◌, ◌∙◌, ◌⊎◌, inl, inr, ⊎_elim, ℕ, zero, suc, ◌<◌, Bool, true, false, cond, List, [], ◌∷◌, length, map, refl, sym, ap, subst, arith}
use Rattle.std.specs.Prelude.{Option, Some, None, is_none, option_and_then, slice_get, slice_index_or}
use Rattle.std.specs.Option.{option_map_or}
use Rattle.std.proofs.lemmas.Option.{slice_get_within}
use Rattle.reo_values.specs.declared.value.Value.{Value}
use Rattle.reo_net_base.specs.declared.mark.Mark.{Mark}
use Rattle.reo_net_base.specs.declared.colouring.Move.{Move}
use Rattle.reo_net_base.specs.declared.port.Offer.{Offer}
use Rattle.reo_net_base.specs.declared.port.Offer.TheVariants.{Write, Take}
use Rattle.reo_net_base.specs.declared.port.Port.{Port}
use Rattle.reo_net_base.specs.Colouring.{IsColouring}
use Rattle.reo_net_base.specs.Marks.{is_flow}
use Rattle.reo_net_base.specs.Moves.{moves_of}
use Rattle.reo_net_base.specs.Net.{Net, mark_at, end_of}
use Rattle.reo_net_base.specs.PortState.{PortState}
use Rattle.reo_net_base.specs.Shapes.{SameWays}
use Rattle.reo_net_base.specs.Wired.{IsWired, ArePorts}
use Rattle.reo_net_base.proofs.Marks.{mark_flows as flows}
use Rattle.reo_net_circuit.specs.Offers.{AreAfterRound}
use Rattle.reo_players.specs.Written.{Task}
use Rattle.reo_players.specs.Written.Task.{writes, takes, rests}
use Rattle.reo_players.specs.Players.{Player, player_of, no_player, present, port_of, after}
use Rattle.reo_players.specs.Offers.{offer_at}
use Rattle.reo_trace.specs.declared.line.RoundLine.{RoundLine}
use Rattle.reo_trace.specs.Entries.{line_for}
use Rattle.reo_kinds_laws.specs.move_laws.Moved.{Has, MovesAreFlows}
use Rattle.reo_runs.specs.run_premises.PortsOf.{HasPorts}
use Rattle.reo_rounds.specs.declared.plan.Plan.{Plan}
use Rattle.reo_rounds.specs.Plans.{ShowsItsOwn}
use Rattle.reo_runs.specs.Round.{flowed, advanced}
use Rattle.reo_runs.specs.Run.{over_after}
use Rattle.reo_runs.specs.at_ports.Pending.{pending_at}
use Rattle.reo_runs.specs.at_ports.Between.{AreStarted, AreStepped, AreMoved, is_gone, gone_on}
use Rattle.reo_runs.proofs.at_ports.AtPorts.{in_range}
use Rattle.reo_runs.proofs.at_ports.Offered.{gives}

-- Lists by functions that agree on each item.
map_same : {X Y : Type 0} (f g : X → Y) (xs : List X) → ((i : ℕ) (x : X) → slice_get xs i ≡ Some x → f x ≡ g x) → map f xs ≡ map g xs
map_same f g [] agree = refl
map_same f g (x ∷ xs) agree =
    let here = agree 0 x refl in
    let rest = map_same f g xs (λ i y is. agree (suc i) y is) in
    cc

got_at : {X : Type 0} (xs : List X) (i : ℕ) (x d : X) → slice_get xs i ≡ Some x → slice_index_or xs i d ≡ x
got_at [] i x d is = absurd (cc)
got_at (y ∷ ys) zero x d is = cc
got_at (y ∷ ys) (suc i) x d is = got_at ys i x d is

ports_stay : (old new : List PortState) (ports : List Port) → SameWays old new → HasPorts old ports → HasPorts new ports
ports_stay old new ports same has = record {
  each = λ i port is. let was = has.each i port is in record { way = same.way i ∙ was.way; accepts = λ inward item. same.accepts i item ∙ was.accepts inward item };
  others = λ i le. same.way i ∙ has.others i le;
}

gone_or_stays : (flows : Bool) (was : Option Offer) (o : Offer) → was ≡ Some o → (cond flows None was ≡ None) ⊎ (cond flows None was ≡ Some o)
gone_or_stays true was o is = inl refl
gone_or_stays false was o is = inr is

none_stays : (flows : Bool) (was : Option Offer) → was ≡ None → cond flows None was ≡ None
none_stays true was is = refl
none_stays false was is = is

gone_where_flows : (flows : Bool) (o : Offer) → is_none (cond flows None (Some o)) ≡ flows
gone_where_flows true o = refl
gone_where_flows false o = refl

module _ (net : Net) (rows : List ℕ) (ports : List Port) (count : ℕ) (players : List Player) (old new : List PortState) (started : AreStarted ports count players old) (round : AreAfterRound net rows count old new) where
  left_at : (port : ℕ) → port < length ports → pending_at new port ≡ cond (is_flow (mark_at net rows (end_of port 0))) None (pending_at old port)
  left_at port lt = let same = started.at_ports.count_is in (round.port port (omega arith)).pending_is

  -- After the round some of the offers are gone.
  pub stepped_at : AreStepped ports count players new
  stepped_at = record {
    at_ports = record { count_is = started.at_ports.count_is; ports_are = ports_stay old new ports round.ways started.at_ports.ports_are; fit = started.at_ports.fit };
    pending = record {
      named = λ port i o lt within has.
          let may = gone_or_stays (is_flow (mark_at net rows (end_of port 0))) (pending_at old port) o (started.pending.named port i o lt within has) in
          elim may [ inl gone ↦ inl (left_at port lt ∙ gone) | inr stays ↦ inr (left_at port lt ∙ stays) ];
      unnamed = λ port lt none. left_at port lt ∙ none_stays (is_flow (mark_at net rows (end_of port 0))) (pending_at old port) (started.pending.unnamed port lt none);
    };
  }

  at_port : (i : ℕ) (p : Player) (port : ℕ) (o : Offer) → i < length players → player_of players i ≡ p → offer_at port p ≡ Some o
      → is_none (pending_at new port) ≡ is_flow (mark_at net rows (end_of port 0))
  at_port i p port o lt here offers =
      let flows : Bool = is_flow (mark_at net rows (end_of port 0)) in
      let there : offer_at port (player_of players i) ≡ Some o = ap (offer_at port) here ∙ offers in
      let inside = in_range ports count players old i port o started.at_ports lt there in
      ap is_none (left_at port inside ∙ ap (λ (u : Option Offer). cond flows None u) (started.pending.named port i o inside lt there)) ∙ gone_where_flows flows o

  at_task : (i : ℕ) (p : Player) (t : Option Task) → i < length players → player_of players i ≡ p → present p ≡ t
      → option_map_or (λ port. is_none (pending_at new port)) (option_and_then port_of t) false
      ≡ option_map_or (λ port. is_flow (mark_at net rows (end_of port 0))) (option_and_then port_of t) false
  at_task i p None lt here is = refl
  at_task i p (Some (writes port item within)) lt here is = at_port i p port (Write item) lt here (gives port (Write item) p (writes port item within) is refl refl)
  at_task i p (Some (takes port within)) lt here is = at_port i p port Take lt here (gives port Take p (takes port within) is refl refl)
  at_task i p (Some (rests rounds)) lt here is = refl

  -- The offer of a component is gone where it flowed.
  gone_is_flow : (i : ℕ) (p : Player) → slice_get players i ≡ Some p → is_gone new p ≡ flowed net rows p
  gone_is_flow i p is = at_task i p (present p) (slice_get_within players i p is) (got_at players i p no_player is) refl

  pub gone_as_said : gone_on new players ≡ advanced net rows players
  gone_as_said = map_same (λ (p : Player). after (is_gone new p) p) (λ (p : Player). after (flowed net rows p) p) players (λ i p is. ap (λ b. after b p) (gone_is_flow i p is))

-- The moves of the round are where offers are gone.
has_at : (moves : List Move) (move : Move) → Has moves move → (k : ℕ) × (slice_get moves k ≡ Some move)
has_at [] move has = absurd has
has_at (m ∷ ms) move has =
    ⊎_elim (λ same. (0, ap (λ (x : Move). Some x) same)) (λ later. let rest = has_at ms move later in (suc rest.0, rest.1)) has

at_has : (moves : List Move) (k : ℕ) (move : Move) → slice_get moves k ≡ Some move → Has moves move
at_has [] k move is = absurd (cc)
at_has (m ∷ ms) zero move is = inl cc
at_has (m ∷ ms) (suc k) move is = inr (at_has ms k move is)

gone_flows : (flowing : Bool) (o : Offer) → cond flowing None (Some o) ≡ None → flowing ≡ true
gone_flows true o is = refl
gone_flows false o is = absurd (cc)

pub moved_at : MovesAreFlows → (net : Net) (rows : List ℕ) (items : List (Option Value)) (ports : List Port) (count : ℕ) (players : List Player) (old new : List PortState)
    → IsWired net → ArePorts net.primitives count → IsColouring net rows items → AreStarted ports count players old → AreAfterRound net rows count old new
    → (moves : List Move) → moves ≡ moves_of net count rows items → AreMoved moves players new
moved_at are_flows net rows items ports count players old new wired are colouring started round moves moves_are =
    let flow = are_flows net count rows items wired are colouring in
    subst (λ (ms : List Move). AreMoved ms players new) (sym moves_are) record {
      gone = λ k m is.
          let has = at_has (moves_of net count rows items) k m is in
          let lt = flow.at_ports_alone m.port m.item has in
          let flowing = (flow.at_ports m.port lt).0 (m.item, has) in
          (round.port m.port lt).pending_is ∙ ap (λ (x : Mark). cond (is_flow x) None (pending_at old m.port)) flowing;
      each = λ port i o i_lt offers none.
          let inside = in_range ports count players old i port o started.at_ports i_lt offers in
          let lt : port < count = omega (arith, started.at_ports.count_is) in
          let was = started.pending.named port i o inside i_lt offers in
          let left = (round.port port lt).pending_is in
          let is : cond (is_flow (mark_at net rows (end_of port 0))) None (Some o) ≡ None =
          ap (λ (u : Option Offer). cond (is_flow (mark_at net rows (end_of port 0))) None u) (sym was) ∙ sym left ∙ none in
          let flowing = flows (mark_at net rows (end_of port 0)) (gone_flows (is_flow (mark_at net rows (end_of port 0))) o is) in
          let moved = (flow.at_ports port lt).1 flowing in
          let at = has_at (moves_of net count rows items) _ moved.1 in
          (at.0, _, at.1, refl);
    }

-- A plan and its line say alike whether it is idle.
pub over_by : (net : Net) (turn ports : ℕ) (p : Plan) (line : RoundLine) (old new : List Player) → ShowsItsOwn net ports p → line ≡ line_for net turn p.colouring.rows p.moves
    → over_after turn p.idle old new ≡ over_after turn line.idle old new
over_by net turn ports p line old new shows line_is = ap (λ b. over_after turn b old new) (shows.idle ∙ sym (ap (λ (l : RoundLine). l.idle) line_is))
