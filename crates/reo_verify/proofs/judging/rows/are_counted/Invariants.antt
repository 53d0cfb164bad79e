use Rattle.std.proofs.Common.{◌≡◌, ℕ, ◌<◌, length, Some}
use Rattle.std.specs.Prelude.{slice_get}
use Rattle.reo_net_base.specs.Net.{net_of, behaviour_at}
use Rattle.reo_trace.specs.declared.line.Entry.{Entry}
use Rattle.reo_runs.specs.verdicts.Said.{cells_of}
use Rattle.reo_verify.proofs.judging.rows.are_counted.Given as goal

abbrev pub invariant-loop-index : goal.invariant-loop-index
invariant-loop-index g l =
    (i : ℕ) → i < l.index → (e : Entry) → slice_get l.entries i ≡ Some e → length (cells_of e) ≡ (behaviour_at (net_of g.P.Primitive.behaviour l.circuit).primitives i).sides
