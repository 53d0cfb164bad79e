use Rattle.std.proofs.Common.{arith, ◌⊎◌, inl, inr, ℕ, ◌<◌, ◌≤◌, List, length}
use Rattle.std.proofs.lemmas.Bool.{cases_lt}
use Rattle.std.proofs.lemmas.List.{length-map}
use Rattle.reo_net_base.specs.Wired.{IsLeastOnCycle, OnCycle}
use Rattle.reo_net_base.specs.declared.joint.Joint.{Joint}
use Rattle.reo_net_base.specs.Net.{side_at}
use Rattle.reo_flat.specs.Flat.{joints_in, homes_in, net_of_program}
use Rattle.reo_flat.proofs.flatten_laws.homes.first_node_on_cycle.Goals as goal

-- The least arrow on a cycle is at most each that lies on one.
at_most : (from to : List ℕ) (j : ℕ) → IsLeastOnCycle from to j → (k : ℕ) → OnCycle from to k → (k < j) ⊎ (j ≤ k) → j ≤ k
at_most from to j is k on (inl lt) = absurd (is.least k lt on)
at_most from to j is k on (inr le) = le

pub returns : goal.returns
returns c ds node is k on =
    let below : k < length (homes_in ds) = omega (arith, on.0, length-map (joints_in ds) (λ (j : Joint). side_at (net_of_program ds) j.giver), c.homes_fit.ensures ds) in
    c.homes_rise.ensures ds is.joint k (at_most _ _ is.joint is.least k on (cases_lt k is.joint)) below
