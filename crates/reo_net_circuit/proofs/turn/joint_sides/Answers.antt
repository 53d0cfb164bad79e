use Rattle.std.proofs.Common.{◌≡◌, ◌∙◌, ◌<◌, ◌++◌, ◌∷◌, [], ℕ, List, length, arith, ap, sym}
use Rattle.reo_net_base.specs.declared.joint.Joint.{Joint}
use Rattle.reo_net_base.specs.Net.{net_of, Net, side_at}
use Rattle.reo_net_circuit.specs.Parts.{wiring_of}
use Rattle.reo_net_circuit.proofs.WireLemmas.{below_push, map_more}
use Rattle.reo_net_circuit.proofs.turn.joint_sides.Goals as goal

pub side_number-requires-clause-end : goal.side_number-requires-clause-end
side_number-requires-clause-end g c =
    let d : Joint = c.joint_at.result in
    rw (c.joint_at.ensures d) at (c.requires.joints.givers c.loop-index.index d (omega arith))

pub side_number-requires-in-loop-index-clause-end : goal.side_number-requires-in-loop-index-clause-end
side_number-requires-in-loop-index-clause-end g c =
    let d : Joint = c.joint_at.result in
    rw (c.joint_at.ensures d) at (c.requires.joints.takers c.loop-index.index d (omega arith))

pub loop-index-preserved : goal.loop-index-preserved
loop-index-preserved g c =
    let net : Net = net_of g.P.Primitive.behaviour (wiring_of c.args.primitives.now 0 c.args.joints.now) in
    let d : Joint = c.joint_at.result in
    let lt : c.loop-index.index < length net.joints = omega arith in
    let giver : side_at net d.giver ≡ c.side_number.result = sym c.side_number.ensures.number in
    let taker : side_at net d.taker ≡ c.side_number-in-loop-index.result = sym c.side_number-in-loop-index.ensures.number in
    record {
      from = c.in_ok-push.ensures.ok
          ∙ ap (λ (xs : List ℕ). xs ++ c.side_number.result ∷ []) c.loop-index.invariant.from
          ∙ sym (rw giver at (map_more (λ (j : Joint). side_at net j.giver) net.joints c.loop-index.index d lt (c.joint_at.ensures d)));
      to = c.in_ok-push-2.ensures.ok
          ∙ ap (λ (xs : List ℕ). xs ++ c.side_number-in-loop-index.result ∷ []) c.loop-index.invariant.to
          ∙ sym (rw taker at (map_more (λ (j : Joint). side_at net j.taker) net.joints c.loop-index.index d lt (c.joint_at.ensures d)));
      from_range = rw c.in_ok-push.ensures.ok (below_push c.loop-index.from c.side_number.result c.args.sides c.loop-index.invariant.from_range c.side_number.ensures.in_range);
      to_range = rw c.in_ok-push-2.ensures.ok (below_push c.loop-index.to c.side_number-in-loop-index.result c.args.sides c.loop-index.invariant.to_range c.side_number-in-loop-index.ensures.in_range);
    }
