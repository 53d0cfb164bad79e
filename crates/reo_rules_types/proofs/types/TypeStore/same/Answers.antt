-- Both are numbers of types.
use Rattle.reo_rules_types.specs.Cells.{type_at}
use Rattle.reo_rules_types.proofs.Kept.{at_there}
use Rattle.reo_rules_types.proofs.types.TypeStore.same.Goals as goal

pub returns : goal.returns
returns c =
    let types = c.args.self.now in
    c.alike.ensures (type_at types c.args.a) (type_at types c.args.b) (at_there types c.args.a c.requires.a) (at_there types c.args.b c.requires.b)
