-- The offers of a round.
use Rattle.std.specs.Prelude.{ℕ, ◌≡◌, ◌==◌, ◌↔◌, false, cond, Option, Some, None, List, [], ◌∷◌, slice_get, option_and_then}
use Rattle.std.specs.Option.{option_or, option_map_or}
use Rattle.reo_net_base.specs.declared.port.Offer.{Offer}
use Rattle.reo_players.specs.Written.{Task}
use Rattle.reo_players.specs.Players.{Player, present, port_of, offer_of}

-- What a component offers at a port: only where its present action names the port.
abbrev pub task_offer : ℕ → Task → Option Offer
task_offer port t = cond (option_map_or (λ n. n == port) (port_of t) false) (offer_of t) None

abbrev pub offer_at : ℕ → Player → Option Offer
offer_at port p = option_and_then (task_offer port) (present p)

-- The offer at a port, found component by component.
abbrev pub offer_for : List Player → ℕ → Option Offer
offer_for [] port = None
offer_for (p ∷ ps) port = option_or (offer_at port p) (offer_for ps port)

-- In the subject's own words: pending at a port is the offer of the component whose present action names it, and nothing where none does.
pub record IsOffered (ps : List Player) (port : ℕ) (pending : Option Offer) : Type 0 where
  pub named : (i : ℕ) (p : Player) (o : Offer) → slice_get ps i ≡ Some p → offer_at port p ≡ Some o → pending ≡ Some o
  pub unnamed : ((i : ℕ) (p : Player) → slice_get ps i ≡ Some p → offer_at port p ≡ None) → pending ≡ None

-- No two components offer at one port.
abbrev pub AreApart : List Player → Type 0
AreApart ps = (port i j : ℕ) (p q : Player) (o u : Offer) → slice_get ps i ≡ Some p → slice_get ps j ≡ Some q
    → offer_at port p ≡ Some o → offer_at port q ≡ Some u → i ≡ j

-- What is found is what the words say, and nothing else is.
abbrev pub OffersAgree : Type 0
OffersAgree = (ps : List Player) (port : ℕ) (pending : Option Offer) → AreApart ps → IsOffered ps port pending ↔ (pending ≡ offer_for ps port)
