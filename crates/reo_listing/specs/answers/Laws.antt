-- Laws of what listing boundary tables answers.
use Rattle.std.specs.Prelude.{ℕ, ◌≡◌, ◌≢◌, List, Result, Err, map}
use Rattle.reo_net_base.specs.Net.{Wiring, net_of}
use Rattle.reo_net_base.specs.Wired.{IsWired, IsOrder, ArePorts}
use Rattle.reo_kinds.specs.declared.kind.Kind.{Kind}
use Rattle.reo_kinds.specs.Kinds.{behaviour_of}
use Rattle.reo_listing.specs.declared.base.table.BoundaryTable.{BoundaryTable}
use Rattle.reo_listing.specs.declared.base.fault.ListFault.{ListFault}
use Rattle.reo_listing.specs.declared.base.fault.ListFault.TheVariants.{NoMemory}
use Rattle.reo_listing.specs.base.Listed.{Lists}

-- Each circuit is listed, or it is refused: where its joints have an order, some answer beside want of memory is right.
abbrev pub ListingExists : Type 0
ListingExists = (w : Wiring Kind) → IsWired (net_of behaviour_of w) → ArePorts (map behaviour_of w.primitives) w.ports
    → (order : List ℕ) → IsOrder (net_of behaviour_of w) order → (budget : ℕ)
    → (x : Result (List BoundaryTable) ListFault) × (x ≢ Err NoMemory) × Lists w budget x

-- A circuit is listed in one way, where memory does not run out.
abbrev pub ListingIsOne : Type 0
ListingIsOne = (w : Wiring Kind) → IsWired (net_of behaviour_of w) → (budget : ℕ) (x y : Result (List BoundaryTable) ListFault)
    → x ≢ Err NoMemory → y ≢ Err NoMemory → Lists w budget x → Lists w budget y → x ≡ y
