-- What stays of an engine when one port changes.
use Rattle.std.proofs.Common.{◌≡◌, ◌∙◌, ℕ, zero, suc, Bool, true, List, [], ◌∷◌, length, map, ap, refl, sym}
use Rattle.std.proofs.lemmas.List.{length-map}
use Rattle.reo_net_base.specs.Behaviour.{Behaviour}
use Rattle.reo_net_base.specs.Net.{Wiring}
use Rattle.reo_net_base.specs.PortState.{PortState}
use Rattle.reo_net_base.specs.Shapes.{SamePortedShape, SameWays}
use Rattle.reo_net_base.specs.Step.{change_at}
use Rattle.reo_rounds.specs.Offering.{AreJustPorts}

change_length : (marks : List Bool) (i : ℕ) → length (change_at (λ _. true) marks i) ≡ length marks
change_length [] i = refl
change_length (m ∷ marks) zero = refl
change_length (m ∷ marks) (suc i) = ap suc (change_length marks i)

ports_kept : (old new : List PortState) (ports : ℕ) → SameWays old new → AreJustPorts old ports → AreJustPorts new ports
ports_kept old new ports same are = record {
  first = λ i lt. rw (same.way i) (are.first i lt);
  others = λ i past. same.way i ∙ are.others i past;
}

module _ {P : Type 0} (behaviour : P → Behaviour) (port_state : P → PortState) where
  pub just_ports_kept : (old new : Wiring P) → SamePortedShape behaviour port_state old new → AreJustPorts (map port_state old.primitives) old.ports → AreJustPorts (map port_state new.primitives) new.ports
  just_ports_kept old new same are = rw same.net.ports (ports_kept (map port_state old.primitives) (map port_state new.primitives) old.ports same.ways are)

  -- One mark for each primitive.
  pub one_each_kept : (old new : Wiring P) (marks now : List Bool) (port : ℕ) → SamePortedShape behaviour port_state old new → length marks ≡ length old.primitives → now ≡ change_at (λ _. true) marks port
      → length now ≡ length new.primitives
  one_each_kept old new marks now port same one_each is =
      rw is (change_length marks port ∙ one_each ∙ sym (length-map old.primitives behaviour) ∙ sym same.net.primitives.count ∙ length-map new.primitives behaviour)
