use Rattle.std.proofs.Common.{sym}
use Rattle.reo_flags.proofs.Lists.{count_is}
use Rattle.reo_flags.proofs.flags.Flags.len.Goals as goal

pub returns : goal.returns
returns c = rw (← c.self.view_is) (sym (count_is c.self.inside.count c.self.inside.words.items))
