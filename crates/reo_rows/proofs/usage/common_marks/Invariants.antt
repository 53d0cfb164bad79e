use Rattle.std.proofs.Common.{◌≡◌, ◌↔◌, true}
use Rattle.reo_net_base.specs.declared.mark.Mark.{Mark}
use Rattle.reo_net_base.specs.Net.{net_of}
use Rattle.reo_side_tables.specs.Sets.{marks_has}
use Rattle.reo_rows.specs.Usage.{IsCommonMark}
use Rattle.reo_rows.proofs.usage.common_marks.Given as goal

abbrev pub invariant-loop-group : goal.invariant-loop-group
invariant-loop-group g l = (m : Mark) → (marks_has l.marks m ≡ true) ↔ IsCommonMark (net_of g.P.Primitive.behaviour l.circuit) l.rows.live l.side l.joint l.group m
