-- Orders of joints.
use Rattle.std.proofs.Common.{◌≡◌, inl, inr, ℕ, ◌<◌, List, length, get_or, sym, ◌∙◌, arith}
use Rattle.std.proofs.lemmas.List.{get_or-map, length-map}
use Rattle.reo_net_base.specs.Wired.{OrderExists, OrderHasNoCycle, IsOrder}
use Rattle.reo_net_base.specs.declared.joint.Joint.{Joint}
use Rattle.reo_net_base.specs.Net.{Net, side_at, end_of, from_sides, to_sides}
use Rattle.reo_net_laws.specs.Cycles.{OrderWithoutCycle}

abbrev pub no_joint : Joint
no_joint = record { giver = end_of 0 0; taker = end_of 0 0 }

-- The one joint feeds the other: it goes to the side that the other comes from.
abbrev pub Feeds : Net → Joint → Joint → Type 0
Feeds net earlier later = side_at net earlier.taker ≡ side_at net later.giver

module _ (net : Net) where
  from_count : length (from_sides net) ≡ length net.joints
  from_count = length-map {B = ℕ} net.joints (λ j. side_at net j.giver)

  from_at : (k : ℕ) (d : Joint) → k < length net.joints → get_or (from_sides net) k 0 ≡ side_at net (get_or net.joints k d).giver
  from_at k d lt = get_or-map (λ (j : Joint). side_at net j.giver) net.joints k d 0 lt

  to_at : (k : ℕ) (d : Joint) → k < length net.joints → get_or (to_sides net) k 0 ≡ side_at net (get_or net.joints k d).taker
  to_at k d lt = get_or-map (λ (j : Joint). side_at net j.taker) net.joints k d 0 lt

  module _ (order : List ℕ) (is : IsOrder net order) where
    -- At each place stands a joint.
    pub place_in : (m : ℕ) → m < length order → get_or order m 0 < length net.joints
    place_in m lt = omega (arith, is.in_range m lt, from_count)

    -- Each joint has a place.
    pub place_of : (j : ℕ) → j < length net.joints → (m : ℕ) × (m < length order) × (get_or order m 0 ≡ j)
    place_of j lt = is.each j (omega (arith, from_count, lt))

    -- What feeds the joint at a place stands before it.
    pub fed_before : (m : ℕ) (d : Joint) → m < length order → (k : ℕ) (e : Joint) → k < length net.joints → Feeds net (get_or net.joints k e) (get_or net.joints (get_or order m 0) d)
        → (n : ℕ) × (n < m) × (get_or order n 0 ≡ k)
    fed_before m d lt k e k_in feeds = is.fed m lt k (omega (arith, from_count, k_in)) (to_at k e k_in ∙ feeds ∙ sym (from_at (get_or order m 0) d (place_in m lt)))

pub order_without_cycle : OrderExists → OrderHasNoCycle → OrderWithoutCycle
order_without_cycle exists none net = (
  λ no_cycle. elim (exists (from_sides net) (to_sides net)) [ inl found ↦ found | inr cycle ↦ absurd (no_cycle cycle.0 cycle.1) ],
  λ found. none (from_sides net) (to_sides net) found.0 found.1,
)
