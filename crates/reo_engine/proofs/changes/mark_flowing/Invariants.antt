use Rattle.std.proofs.Common.{◌≡◌, ◌<◌, ◌↔◌, ℕ, IsTrue, length}
use Rattle.reo_flows.specs.stepping.Changes.{is_changed}
use Rattle.reo_engine.proofs.Reached.{IsReached}
use Rattle.reo_engine.proofs.changes.mark_flowing.Given as goal

-- The primitives at the joints so far that have an item are marked.
abbrev pub invariant-loop-index : goal.invariant-loop-index
invariant-loop-index g l = record {
  one_each : length l.marks ≡ length l.circuit.primitives;
  each : (i : ℕ) → i < length l.circuit.primitives → IsTrue (is_changed l.marks i) ↔ IsReached l.circuit.joints l.items l.index i;
}
