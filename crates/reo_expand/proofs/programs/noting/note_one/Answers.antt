use Rattle.reo_rules.specs.Lists.{has_name}
use Rattle.reo_expand.proofs.programs.Uses.{made_noted_uses}
use Rattle.reo_expand.proofs.programs.noting.note_one.Goals as goal

pub returns-in-Made : goal.returns-in-Made
returns-in-Made c n =
    made_noted_uses c.note.result c.args.declaration.now c.in-Made.connector c.as_slice.result.now n (has_name c.args.uses.now.names n) (has_name c.note.new.self.names n)
    c.in-Made.is c.as_slice.ensures (c.note.ensures n)
