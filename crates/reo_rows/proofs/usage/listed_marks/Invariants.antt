use Rattle.std.proofs.Common.{◌≡◌, ◌↔◌, true}
use Rattle.reo_net_base.specs.declared.mark.Mark.{Mark}
use Rattle.reo_net_base.specs.Net.{net_of}
use Rattle.reo_side_tables.specs.Sets.{marks_has}
use Rattle.reo_rows.specs.Usage.{IsListedMark}
use Rattle.reo_rows.proofs.usage.listed_marks.Given as goal

abbrev pub invariant-loop-index : goal.invariant-loop-index
invariant-loop-index g l = (m : Mark) → (marks_has l.marks m ≡ true) ↔ IsListedMark (net_of g.P.Primitive.behaviour l.circuit) l.live l.side l.joint l.list l.index m
