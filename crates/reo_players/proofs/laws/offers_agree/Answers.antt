-- Component by component.
use Rattle.std.proofs.Common.{arith, ◌≡◌, ◌∙◌, ℕ, zero, suc, List, [], ◌∷◌, Option, Some, None, refl, sym, ap, subst, slice_get}
use Rattle.std.specs.Prelude.{option_and_then}
use Rattle.std.specs.Option.{option_or}
use Rattle.reo_net_base.specs.declared.port.Offer.{Offer}
use Rattle.reo_players.specs.Players.{Player}
use Rattle.reo_players.specs.Offers.{offer_at, offer_for, IsOffered, AreApart}
use Rattle.reo_players.proofs.laws.offers_agree.Goals as goal

-- What is said of the first and of the others is said of all.
all_none : (port : ℕ) (p : Player) (ps : List Player) → offer_at port p ≡ None → ((i : ℕ) (q : Player) → slice_get ps i ≡ Some q → offer_at port q ≡ None)
    → (i : ℕ) (q : Player) → slice_get (p ∷ ps) i ≡ Some q → offer_at port q ≡ None
all_none port p ps none all zero q got = sym (ap (option_and_then (offer_at port)) got) ∙ none
all_none port p ps none all (suc i) q got = all i q got

-- Where the first offers nothing at the port, the others decide.
others : (port : ℕ) (p : Player) (ps : List Player) (pending : Option Offer) → offer_at port p ≡ None → IsOffered (p ∷ ps) port pending → IsOffered ps port pending
others port p ps pending none d = record { named = λ i q o got offers. d.named (suc i) q o got offers; unnamed = λ all. d.unnamed (all_none port p ps none all) }

found_by : (port : ℕ) (p : Player) (ps : List Player) (pending found : Option Offer) (here : Option Offer) → offer_at port p ≡ here
    → (IsOffered ps port pending → pending ≡ found) → IsOffered (p ∷ ps) port pending → pending ≡ option_or here found
found_by port p ps pending found None e next d = next (others port p ps pending e d)
found_by port p ps pending found (Some o) e next d = d.named 0 p o refl e

found : (port : ℕ) (ps : List Player) (pending : Option Offer) → IsOffered ps port pending → pending ≡ offer_for ps port
found port [] pending d = d.unnamed (λ i q got. sym (ap (option_and_then (offer_at port)) got))
found port (p ∷ ps) pending d = found_by port p ps pending (offer_for ps port) (offer_at port p) refl (found port ps pending) d

apart : (p : Player) (ps : List Player) → AreApart (p ∷ ps) → AreApart ps
apart p ps d = λ port i j q s o u got there offers other. let same : suc i ≡ suc j = d port (suc i) (suc j) q s o u got there offers other in omega arith

-- What is found is what the words say.
module _ (port : ℕ) (p : Player) (ps : List Player) where
  -- the offer of the first, at the first place
  at_first : (i : ℕ) (q : Player) (o u : Offer) → 0 ≡ i → offer_at port p ≡ Some o → slice_get (p ∷ ps) i ≡ Some q → offer_at port q ≡ Some u → Some o ≡ Some u
  at_first zero q o u same e got offers = sym e ∙ (ap (option_and_then (offer_at port)) got ∙ offers)
  at_first (suc i) q o u same e got offers = absurd (omega arith)

  first : AreApart (p ∷ ps) → (o : Offer) → offer_at port p ≡ Some o → IsOffered (p ∷ ps) port (Some o)
  first d o e = record { named = λ i q u got offers. at_first i q o u (d port 0 i p q o u refl got e offers) e got offers; unnamed = λ all. sym e ∙ all 0 p refl }

  at_later : (pending : Option Offer) → offer_at port p ≡ None → IsOffered ps port pending
      → (i : ℕ) (q : Player) (u : Offer) → slice_get (p ∷ ps) i ≡ Some q → offer_at port q ≡ Some u → pending ≡ Some u
  at_later pending e next zero q u got offers = ap (λ o. option_or o pending) (sym e ∙ (ap (option_and_then (offer_at port)) got ∙ offers))
  at_later pending e next (suc i) q u got offers = next.named i q u got offers

  later : (pending : Option Offer) → offer_at port p ≡ None → IsOffered ps port pending → IsOffered (p ∷ ps) port pending
  later pending e next = record { named = at_later pending e next; unnamed = λ all. next.unnamed (λ i q got. all (suc i) q got) }

  both : AreApart (p ∷ ps) → (here pending : Option Offer) → offer_at port p ≡ here → IsOffered ps port pending → IsOffered (p ∷ ps) port (option_or here pending)
  both d None pending e next = later pending e next
  both d (Some o) pending e next = first d o e

said : (port : ℕ) (ps : List Player) → AreApart ps → IsOffered ps port (offer_for ps port)
said port [] d = record { named = λ i p o got offers. ap (option_and_then (offer_at port)) got ∙ offers; unnamed = λ all. refl }
said port (p ∷ ps) d = both port p ps d (offer_at port p) (offer_for ps port) refl (said port ps (apart p ps d))

pub returns : goal.returns
returns c = λ ps port pending d. (found port ps pending, λ e. subst (λ o. IsOffered ps port o) (sym e) (said port ps d))
