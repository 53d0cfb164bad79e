-- Rules under which what stands in a circuit lasts.
use Rattle.std.specs.Prelude.{Option}
use Rattle.reo_values.specs.declared.value.Value.{Value}
use Rattle.reo_net_base.specs.declared.colouring.Chosen.{Chosen}
use Rattle.reo_net_base.specs.declared.port.Offer.{Offer}
use Rattle.reo_net_base.specs.Lawful.{IsLawful, SameShape}
use Rattle.reo_rounds.specs.Rules.{Rules}

-- What stands in a circuit keeps its laws, and its shape whatever happens to it.
pub record KeepsShape {P : Type 0} (r : Rules P) : Type 0 where
  pub lawful : (p : P) → IsLawful (r.behaviour p)
  pub settled : (p : P) (rows : Chosen) (taken : Option Value) → SameShape (r.behaviour p) (r.behaviour (r.settled p rows taken))
  pub placed : (p : P) (offer : Offer) → SameShape (r.behaviour p) (r.behaviour (r.placed p offer))
  pub withdrawn : (p : P) → SameShape (r.behaviour p) (r.behaviour (r.withdrawn p))
