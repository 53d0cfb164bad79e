use Rattle.std.proofs.Common.{◌≡◌, length, map}
use Rattle.reo_net_base.specs.Net.{first_side}
use Rattle.reo_net_circuit.specs.Layout.{AreFirsts, AreOwners}
use Rattle.reo_net_circuit.proofs.layout.lay_out.Given as goal

abbrev pub invariant-loop-primitive : goal.invariant-loop-primitive
invariant-loop-primitive g l = record {
  firsts : AreFirsts (map g.P.Primitive.behaviour l.primitives) l.firsts l.primitive;
  count : length l.owners ≡ first_side (map g.P.Primitive.behaviour l.primitives) l.primitive;
  owners : AreOwners (map g.P.Primitive.behaviour l.primitives) l.owners;
}
