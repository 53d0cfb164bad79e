-- What an engine makes of an offer, as a line is answered.
use Rattle.std.specs.Prelude.{ℕ, ◌≡◌, cond, Option, Some, None}
use Rattle.reo_net_base.specs.declared.port.Offer.{Offer}
use Rattle.reo_net_base.specs.Net.{Wiring}
use Rattle.reo_script.specs.declared.scripts.event.EventFault.{EventFault}
use Rattle.reo_script.specs.declared.scripts.event.EventFault.TheVariants as wrongs
use Rattle.reo_rounds.specs.declared.offer.OfferFault.{OfferFault}
use Rattle.reo_rounds.specs.declared.offer.OfferFault.TheVariants as declines
use Rattle.reo_rounds.specs.Rules.{Rules}
use Rattle.reo_live.specs.declared.base.answer.Answer.{Answer}
use Rattle.reo_live.specs.declared.base.answer.Answer.TheVariants.{Refused}
use Rattle.reo_live.specs.declared.base.fault.LineRefusal.{LineRefusal}
use Rattle.reo_live.specs.declared.base.fault.LineRefusal.TheVariants as faults
use Rattle.reo_live.specs.base.Events.{declined, is_pending, placed_at}

-- The cause of a line whose offer an engine declines.
abbrev pub cause_of : OfferFault → LineRefusal
cause_of declines.NoPort = faults.Port
cause_of declines.WrongWay = faults.Way
cause_of declines.Pending = faults.Pending
cause_of declines.ItemOutside = faults.Outside

-- The circuit after an offer that was declined for this cause, or taken.
abbrev pub placed_by : {P : Type 0} → Rules P → Option LineRefusal → Wiring P → ℕ → Offer → Wiring P
placed_by r (Some fault) w port offer = w
placed_by r None w port offer = placed_at r w port offer

pub record IsOffered {P : Type 0} (r : Rules P) (old : Wiring P) (port : ℕ) (offer : Offer)
    (new : Wiring P) (cause : Option LineRefusal) : Type 0 where
  pub declined_is : cause ≡ declined r old port offer
  pub circuit : new ≡ placed_by r cause old port offer

-- The refusal of a line, where there is a cause.
abbrev pub refusal_if : ℕ → Option LineRefusal → Option Answer
refusal_if line None = None
refusal_if line (Some fault) = Some (Refused line fault)

-- The cause of a line that is no event for the ports.
abbrev pub IsCauseOf : {P : Type 0} → Rules P → Wiring P → EventFault → LineRefusal → Type 0
IsCauseOf r w wrongs.Form cause = cause ≡ faults.Form
IsCauseOf r w wrongs.NoPort cause = cause ≡ faults.Port
IsCauseOf r w wrongs.WrongWay cause = cause ≡ faults.Way
IsCauseOf r w (wrongs.ItemOutside port) cause =
    cause ≡ cond (is_pending r w port) faults.Pending faults.Outside
IsCauseOf r w wrongs.NoMemory cause = ⊥
