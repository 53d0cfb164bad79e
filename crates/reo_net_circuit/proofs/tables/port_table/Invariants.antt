use Rattle.std.proofs.Common.{◌≡◌, ℕ, ◌<◌, length, get_or}
use Rattle.reo_net_base.specs.Net.{end_of, is_at}
use Rattle.reo_net_circuit.proofs.TableLemmas.{IsFirstOf}
use Rattle.reo_net_circuit.proofs.tables.port_table.Given as goal

abbrev pub invariant-loop-index : goal.invariant-loop-index
invariant-loop-index g l = record {
  one_each : length l.table.items ≡ length l.primitives;
  firsts : (i : ℕ) → i < length l.table.items → IsFirstOf (is_at (end_of i 0)) l.joints l.index (get_or l.table.items i 0);
}
