use Rattle.std.proofs.Common.{sym, ◌∙◌, arith}
use Rattle.reo_lanes.proofs.JointLemmas.{load_matches, load_breaks}
use Rattle.reo_lanes.proofs.joints.broken_in_chunk.Goals as goal

pub returns-then-broken-eq0 : goal.returns-then-broken-eq0
returns-then-broken-eq0 c = load_matches c.args.left.now c.args.right.now c.args.at 32 c.requires.inside (omega arith) c.requires.even (omega arith) (sym c.broken_lanes-broken.ensures ∙ c.if-broken-eq0.true)

pub returns-else-broken-eq0 : goal.returns-else-broken-eq0
returns-else-broken-eq0 c = load_breaks c.args.left.now c.args.right.now c.args.at 32 c.requires.inside (omega arith) c.requires.even (omega arith) c.broken_lanes-broken.result c.broken_lanes-broken.ensures (omega arith)
