use Rattle.std.proofs.Common.{◌≡◌, ◌≢◌, ◌<◌, ℕ, true, get_or, None}
use Rattle.reo_net_base.specs.Net.{net_of}
use Rattle.reo_side_tables.specs.Marks.{common_at_joint}
use Rattle.reo_rows.specs.declared.groups.Group.{Group}
use Rattle.reo_side_tables.specs.Sets.{marks_has}
use Rattle.reo_rows.proofs.standing.groups_have.Given as goal

abbrev pub invariant-loop-group : goal.invariant-loop-group
invariant-loop-group g l = (k : ℕ) (d : Group) → k < l.group → (get_or l.notes k d).first ≢ None → marks_has l.resting.marks (common_at_joint (net_of g.P.Primitive.behaviour l.resting.circuit.now) l.resting.side k l.resting.joint) ≡ true
