-- Hearing closes in one way.
use Rattle.std.specs.Prelude.{ℕ, ◌≡◌, List}
use Rattle.reo_net_base.specs.Net.{Wiring, net_of}
use Rattle.reo_net_base.specs.declared.port.Port.{Port}
use Rattle.reo_rounds.specs.Order.{HasOrder}
use Rattle.reo_rounds.specs.Rules.{Rules}
use Rattle.reo_live.specs.declared.base.answer.Answer.{Answer}
use Rattle.reo_live.specs.closings.Sources.{Events}
use Rattle.reo_live.specs.closings.Closings.{Closing, Closes}

-- Where the joints have an order, events close in some way, with some answers.
abbrev pub ClosingExists : {P : Type 0} → Rules P → Type 0
ClosingExists r = (ports : List Port) (budget : ℕ) (w : Wiring _) (events : Events)
    → HasOrder (net_of r.behaviour w)
    → (closing : Closing) × (answers : List Answer) × Closes r ports budget w events closing answers

-- And in no other, and with no other answers.
abbrev pub ClosingIsOne : {P : Type 0} → Rules P → Type 0
ClosingIsOne r = (ports : List Port) (budget : ℕ) (w : Wiring _) (events : Events)
    (a b : Closing) (x y : List Answer) → HasOrder (net_of r.behaviour w)
    → Closes r ports budget w events a x → Closes r ports budget w events b y → (a ≡ b) × (x ≡ y)
