-- The part of one component in what all do.
use Rattle.std.specs.Prelude.{ℕ, ◌≡◌, ◌≢◌, ◌⊎◌, ◌<◌, ◌==◌, nat_lt, true, cond, Option, Some, None, List, length, slice_get}
use Rattle.reo_net_base.specs.declared.colouring.Move.{Move}
use Rattle.reo_net_base.specs.declared.port.Port.{Port}
use Rattle.reo_net_base.specs.declared.port.Offer.{Offer}
use Rattle.reo_net_base.specs.PortState.{PortState}
use Rattle.reo_players.specs.Players.{Player, player_of, after}
use Rattle.reo_players.specs.Offers.{offer_at}
use Rattle.reo_players.specs.Idle.{NamesPort}
use Rattle.reo_runs.specs.at_ports.Pending.{pending_at, held_at, ArePending}
use Rattle.reo_runs.specs.at_ports.Between.{AreAtPorts, is_gone}

-- What a component offers at a port, and no round has seen it yet.
pub record IsFresh (p : Player) (port : ℕ) (o : Offer) : Type 0 where
  pub unseen : (p.seen == 0) ≡ true
  pub offers : offer_at port p ≡ Some o

-- A component has left pending all that it offers.
abbrev pub HasOffered : Player → Type 0
HasOffered p = (port : ℕ) → held_at port p ≡ offer_at port p

-- What a component has at a port where the first so many have made their offers.
abbrev pub offered_at : List Player → ℕ → ℕ → ℕ → Option Offer
offered_at players done i port = cond (nat_lt i done) (offer_at port (player_of players i)) (held_at port (player_of players i))

-- While the components make their offers: the first so many have.
pub record AreOffering (ports : List Port) (count done : ℕ) (players : List Player) (states : List PortState) : Type 0 where
  pub at_ports : AreAtPorts ports count players states
  pub pending : ArePending (offered_at players done) (length players) (length ports) states

-- What a component offers is pending, or it is gone.
abbrev pub IsPendingOrGone : Player → List PortState → Type 0
IsPendingOrGone p states = (port : ℕ) (o : Offer) → offer_at port p ≡ Some o → (pending_at states port ≡ None) ⊎ (pending_at states port ≡ Some o)

-- One component has gone on after a round, and the others stand as they stood.
pub record HasGoneOn (component : ℕ) (states : List PortState) (old new : List Player) : Type 0 where
  pub count : length new ≡ length old
  pub here : player_of new component ≡ after (is_gone states (player_of old component)) (player_of old component)
  pub others : (i : ℕ) → i ≢ component → player_of new i ≡ player_of old i

-- Pending where a component has offered is what it has left there, and elsewhere what was; no offer comes.
pub record IsLeft (old new : Player) (before now : List PortState) : Type 0 where
  pub here : (port : ℕ) (o : Offer) → offer_at port old ≡ Some o → pending_at now port ≡ held_at port new
  pub elsewhere : (port : ℕ) → offer_at port old ≡ None → pending_at now port ≡ pending_at before port
  pub held : (port : ℕ) → offer_at port old ≡ None → held_at port new ≡ None
  pub were : (port : ℕ) (o : Offer) → pending_at now port ≡ Some o → pending_at before port ≡ Some o

-- One of so many first moves is at the port that a component's present action names.
pub record IsMoved (moves : List Move) (n : ℕ) (players : List Player) (component : ℕ) : Type 0 where
  pub place : ℕ
  pub move : Move
  pub first : place < n
  pub there : slice_get moves place ≡ Some move
  pub names : NamesPort players move.port component

-- At the port of each of so many first moves one whose action names it is as if no round had seen it, or none names it; all else is as it was.
pub record AreRoused (moves : List Move) (n : ℕ) (old new : List Player) : Type 0 where
  pub count : length new ≡ length old
  pub rest : (i : ℕ) → (player_of new i).rest ≡ (player_of old i).rest
  pub others : (i : ℕ) → (player_of new i ≡ player_of old i) ⊎ IsMoved moves n old i
  pub roused : (k : ℕ) (m : Move) → k < n → slice_get moves k ≡ Some m
      → ((i : ℕ) → NamesPort old m.port i → ⊥) ⊎ ((i : ℕ) × NamesPort old m.port i × ((player_of new i).seen ≡ 0))
