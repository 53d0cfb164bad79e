use Rattle.std.proofs.Common.{◌≡◌, ◌<◌, ◌↔◌, ℕ, IsTrue, length}
use Rattle.reo_flows.specs.stepping.Changes.{is_changed}
use Rattle.reo_flows.proofs.stepping.Marking.{IsBesideOne}
use Rattle.reo_flows.proofs.stepping.flowing.mark_flowing.Given as goal

-- Those at the joints so far are marked, and no others.
abbrev pub invariant-loop-index : goal.invariant-loop-index
invariant-loop-index g l = record {
  one_each : length l.marks ≡ length l.circuit.primitives;
  each : (i : ℕ) → i < length l.circuit.primitives → IsTrue (is_changed l.marks i) ↔ IsBesideOne l.circuit.joints l.flowing l.index i;
}
