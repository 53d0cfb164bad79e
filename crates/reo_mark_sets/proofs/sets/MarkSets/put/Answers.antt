use Rattle.std.proofs.Common.{◌∙◌, sym}
use Rattle.reo_mark_sets.proofs.Putting.{put_same}
use Rattle.reo_mark_sets.proofs.sets.MarkSets.put.Goals as goal

pub returns-then-eq : goal.returns-then-eq
returns-then-eq c = put_same c.args.self.now c.args.place c.at.result c.args.marks c.at.ensures (sym c.eq.ensures ∙ c.if-eq.true)
