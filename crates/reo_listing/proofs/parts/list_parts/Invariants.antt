use Rattle.std.proofs.Common.{◌≡◌}
use Rattle.reo_net_base.specs.Net.{net_of}
use Rattle.reo_open.specs.Opens.{open_behaviour}
use Rattle.reo_listing.specs.base.Listed.{AreTables}
use Rattle.reo_listing.specs.rows.Lookups.{AreLookups}
use Rattle.reo_listing.proofs.parts.list_parts.Given as goal

abbrev pub invariant-loop-part : goal.invariant-loop-part
invariant-loop-part g l = (l.circuit ≡ l.initial.circuit) × AreTables (net_of open_behaviour l.initial.circuit) l.initial.circuit.ports l.budget l.knots.numbers l.part l.tables
    × AreLookups (net_of open_behaviour l.initial.circuit) l.knots l.lookups
