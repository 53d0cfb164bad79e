-- One round of a circuit with exactly the offers that it is told.
use Rattle.std.specs.Prelude.{ℕ, Option}
use Rattle.reo_net_base.specs.declared.port.Offer.{Offer}
use Rattle.reo_net_base.specs.Net.{Wiring}
use Rattle.reo_trace.specs.declared.line.RoundLine.{RoundLine}
use Rattle.reo_rounds.specs.Rules.{Rules}
use Rattle.reo_rounds.specs.Ready.{ready}
use Rattle.reo_rounds.specs.RoundOn.{Suiting, RoundOn}

-- A round with exactly these offers pending.
abbrev pub EngineRound : {P : Type 0} → Suiting → Rules P → (ℕ → Option Offer) → ℕ → Wiring P → RoundLine → Wiring P → Type 0
EngineRound suiting r offers turn a line b = RoundOn suiting r turn (ready r offers a) line b
