-- An open circuit has no fault.
use Rattle.std.proofs.Common.{ℕ, ◌<◌, ◌≡◌, inl, inr, List, length, map, slice_index_or, refl, sym, subst}
use Rattle.reo_net_base.specs.Wired.{NoCycle, IsWired, ArePorts}
use Rattle.reo_net_base.specs.declared.joint.Joint.{Joint}
use Rattle.reo_net_base.specs.Behaviour.{Behaviour}
use Rattle.reo_net_base.specs.Net.{Net, Wiring, net_of, from_sides, to_sides, end_of}
use Rattle.reo_net_circuit.specs.declared.fault.NetFault.{NetFault}
use Rattle.reo_net_circuit.specs.declared.fault.NetFault.TheVariants.{Ends, Way, Cycle, NoMemory}
use Rattle.reo_net_circuit.specs.Fault.{IsNetFault, GoesWrong}
use Rattle.reo_net_circuit.specs.Parts.{wiring_of, AreJoints}
use Rattle.reo_net_circuit.proofs.ReshapeLemmas.{wired_same, lawful_at, from_same, to_same}
use Rattle.reo_net_circuit.proofs.ShapeLemmas.{ports_reshaped}
use Rattle.reo_kinds.specs.declared.kind.Kind.{Kind}
use Rattle.reo_kinds.specs.Kinds.{behaviour_of}
use Rattle.reo_open.specs.declared.opens.Open.{Open}
use Rattle.reo_open.specs.Opens.{open_behaviour}
use Rattle.reo_open.specs.OpenLaws.{open_lawful}
use Rattle.reo_open.specs.Opened.{opened, open_net}
use Rattle.reo_open.specs.OpenedLaws.{opened_shapes}

module _ (w : Wiring Kind) (wired : IsWired (net_of behaviour_of w)) where
  pub open_wired : IsWired (open_net w)
  open_wired = wired_same (map behaviour_of w.primitives) (map open_behaviour (map opened w.primitives)) (opened_shapes w.primitives) w.joints wired
      (lawful_at open_behaviour open_lawful (map opened w.primitives))

  pub open_joints : AreJoints (open_net w)
  open_joints = record { givers = open_wired.givers; takers = open_wired.takers }

  pub open_no_cycle : NoCycle (from_sides (net_of behaviour_of w)) (to_sides (net_of behaviour_of w)) → NoCycle (from_sides (open_net w)) (to_sides (open_net w))
  open_no_cycle none =
      let bs : List Behaviour = map behaviour_of w.primitives in
      let ds : List Behaviour = map open_behaviour (map opened w.primitives) in
      subst (λ (xs : List ℕ). NoCycle xs (to_sides (open_net w))) (sym (from_same bs ds (opened_shapes w.primitives) w.joints wired))
      (subst (λ (xs : List ℕ). NoCycle (from_sides (net_of behaviour_of w)) xs) (sym (to_same bs ds (opened_shapes w.primitives) w.joints wired)) none)

  pub open_ports : ArePorts (map behaviour_of w.primitives) w.ports → ArePorts (map open_behaviour (map opened w.primitives)) w.ports
  open_ports are = ports_reshaped (map behaviour_of w.primitives) (map open_behaviour (map opened w.primitives)) w.ports (opened_shapes w.primitives) are

module _ (net : Net) (wired : IsWired net) (no_cycle : NoCycle (from_sides net) (to_sides net)) where
  not_wrong : (j : ℕ) (d : Joint) → j < length net.joints → GoesWrong net (slice_index_or net.joints j d) → ⊥
  not_wrong j d lt (inl takes) = let gives = wired.gives j d lt in cc
  not_wrong j d lt (inr gives) = let takes = wired.takes j d lt in cc

  -- What is wired without a cycle has no fault.
  pub no_fault : (fault : NetFault) → IsNetFault net fault → fault ≡ NoMemory
  no_fault (Ends i) is = absurd (is.loose.not_joined (wired.each_end i is.loose.end is.in_range is.loose.is_end))
  no_fault (Way j) is = let d : Joint = record { giver = end_of 0 0; taker = end_of 0 0 } in absurd (not_wrong j d is.1.in_range (is.1.wrong d))
  no_fault (Cycle j) is = absurd (no_cycle j is.2.on_cycle)
  no_fault NoMemory is = refl

-- Parts that are those of the open circuit.
module _ (w : Wiring Kind) (wired : IsWired (net_of behaviour_of w)) (made : List Open) (ports : ℕ) (joints : List Joint)
    (made_is : made ≡ map opened w.primitives) (ports_are : ports ≡ w.ports) (joints_are : joints ≡ w.joints) where
  pub made_ports : ArePorts (map behaviour_of w.primitives) w.ports → ArePorts (map open_behaviour made) ports
  made_ports are = rw (made_is, ports_are) (open_ports w wired are)

  pub made_joints : AreJoints (net_of open_behaviour (wiring_of made ports joints))
  made_joints = rw (made_is, joints_are) (open_joints w wired)

  pub made_fault : NoCycle (from_sides (net_of behaviour_of w)) (to_sides (net_of behaviour_of w)) → (fault : NetFault) → IsNetFault (net_of open_behaviour (wiring_of made ports joints)) fault → fault ≡ NoMemory
  made_fault none fault is = no_fault (open_net w) (open_wired w wired) (open_no_cycle w wired none) fault (rw (made_is, joints_are) at is)
