-- Primitives that keep to the types of their ends.
use Rattle.std.proofs.Common.{◌≡◌, ℕ, ◌<◌, false}
use Rattle.std.specs.Prelude.{Option, Some}
use Rattle.std.specs.Option.{option_and_then}
use Rattle.reo_values.specs.declared.value.Value.{Value}
use Rattle.reo_values.specs.declared.kindred.Kindred.{Kindred}
use Rattle.reo_values.specs.Kind.{IsIn}
use Rattle.reo_net_base.specs.declared.colouring.Chosen.{Chosen}
use Rattle.reo_net_base.specs.declared.port.Offer.{Offer}
use Rattle.reo_net_base.specs.Behaviour.{Behaviour}
use Rattle.reo_rounds.specs.Rules.{Rules}

-- The type of each end of a primitive.
abbrev pub EndTypes : Type 0
EndTypes = ℕ → Kindred

-- Where the items that decide are of the types of their ends, so is what is given.
abbrev pub GivesRight : Behaviour → EndTypes → Type 0
GivesRight b types = (side row end : ℕ) → end < b.ends → b.takes_in end ≡ false → (taken : ℕ → Option Value)
    → ((from : ℕ) (v : Value) → b.from side row end ≡ Some from → taken from ≡ Some v → (from < b.ends) × IsIn v (types from))
    → (v : Value) → b.given side row end (option_and_then taken (b.from side row end)) ≡ Some v → IsIn v (types end)

-- A mouth is the first end.
abbrev pub MouthIsFirst : Behaviour → Type 0
MouthIsFirst b = (end : ℕ) → b.sides ≡ 2 → b.side_of end ≡ 0 → end ≡ 0

-- What is right for the types of its ends gives what is right, and stays so.
pub record KeepsTypes {P : Type 0} (r : Rules P) (right : P → EndTypes → Type 0) : Type 0 where
  pub gives : (p : P) (types : EndTypes) → right p types → GivesRight (r.behaviour p) types
  pub mouth : (p : P) → MouthIsFirst (r.behaviour p)
  pub placed : (p : P) (types : EndTypes) (offer : Offer) → right p types → right (r.placed p offer) types
  pub withdrawn : (p : P) (types : EndTypes) → right p types → right (r.withdrawn p) types
  pub settled : (p : P) (types : EndTypes) (rows : Chosen) (taken : Option Value) → right p types
      → ((v : Value) → (r.behaviour p).sides ≡ 2 → taken ≡ Some v → IsIn v (types 0)) → right (r.settled p rows taken) types
