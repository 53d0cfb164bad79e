-- One key tells one set of tables.
use Rattle.std.proofs.Common.{◌≡◌, ℕ, ◌+◌, ap, ◌∙◌, subst}
use Rattle.reo_net_base.specs.Net.{behaviour_at, first_side}
use Rattle.reo_net_base.specs.Forms.{HasForm}
use Rattle.reo_net_base.proofs.Numbers.{one_table}
use Rattle.reo_net_laws.proofs.Assignments.{first_same}
use Rattle.reo_net_laws.specs.state_laws.Keys.{OneKeySameTables}

pub one_key : OneKeySameTables
one_key net other shapes joints inside forms others here there key turn later rest = record {
  joints = joints;
  count = shapes.count;
  shape = shapes.same;
  sides = λ i side lt side_in is.
      let k : ℕ = first_side net.primitives i + side in
      let first : first_side other.primitives i + side ≡ k = ap (λ (f : ℕ). f + side) (first_same net.primitives other.primitives shapes.count shapes.same i) in
      let at_other = there i side (rw shapes.count lt) (rw ((shapes.same i lt).sides) side_in) (ap inside first ∙ is) in
      one_table (forms k) (others k) (key k is) turn later (rest k is) (behaviour_at net.primitives i) (behaviour_at other.primitives i) side
      (here i side lt side_in is) (subst (λ (n : ℕ). HasForm (others n) (behaviour_at other.primitives i) side) first at_other);
}
