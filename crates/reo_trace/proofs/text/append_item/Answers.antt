use Rattle.std.proofs.Common.{sym, append-nil}
use Rattle.reo_values.proofs.Pairs.{get_or-none}
use Rattle.reo_trace.proofs.text.append_item.Goals as goal

pub returns-in-None : goal.returns-in-None
returns-in-None c = rw (c.in-Sym-Sym.is-0, c.in-Sym-Sym.is-1, ← c.get.ensures, get_or-none c.get.result.now c.in-Sym-Sym.place c.in-None.ensures) (sym (append-nil c.args.text.now))
