use Rattle.std.proofs.Common.{◌≡◌, ◌++◌, ◌≤◌, ◌<◌, ℕ, length, take, drop, map}
use Rattle.reo_net_base.specs.Net.{Net}
use Rattle.reo_net_base.specs.Step.{settled_list, all_chosen, all_taken, taken_for}
use Rattle.reo_net_circuit.proofs.step.step_all.Given as goal

-- Those so far are settled, and the others as they were, with their items.
abbrev pub invariant-loop-index : goal.invariant-loop-index
invariant-loop-index g l =
    let net : Net = record { primitives = map g.P.Primitive.behaviour l.initial.primitives; joints = l.joints } in
    record {
      count : length l.items.items ≡ length l.joints;
      untaken : (i : ℕ) → l.index ≤ i → i < length l.initial.primitives → taken_for net l.items.items i ≡ taken_for net l.fn.items.items i;
      unsettled : drop l.index l.primitives ≡ drop l.index l.initial.primitives;
      whole : take l.index l.primitives ++ settled_list g.P.Primitive.settled (drop l.index l.initial.primitives) (drop l.index (all_chosen net l.fn.rows)) (drop l.index (all_taken net l.fn.items.items)) ≡ settled_list g.P.Primitive.settled l.initial.primitives (all_chosen net l.fn.rows) (all_taken net l.fn.items.items);
    }
