use Rattle.std.proofs.Common.{◌≡◌, ℕ, ◌<◌, length, map, get_or}
use Rattle.reo_net_base.specs.Net.{behaviour_at}
use Rattle.reo_net_base.specs.Step.{is_mouth}
use Rattle.reo_net_circuit.proofs.TableLemmas.{IsFirstOf}
use Rattle.reo_net_circuit.proofs.tables.mouth_table.Given as goal

abbrev pub invariant-loop-index : goal.invariant-loop-index
invariant-loop-index g l = record {
  one_each : length l.mouths.items ≡ length l.primitives;
  firsts : (i : ℕ) → i < length l.primitives → IsFirstOf (is_mouth (behaviour_at (map g.P.Primitive.behaviour l.primitives) i) i) l.joints l.index (get_or l.mouths.items i 0);
}
