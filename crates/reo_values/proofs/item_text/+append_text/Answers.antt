use Rattle.std.proofs.Common.{sym, arith, append-nil}
use Rattle.std.proofs.lemmas.Grind.{common_steps}
use Rattle.reo_values.proofs.Pairs.{text_of-Pair, text_of_Pair-other, get_or-none}
use Rattle.reo_values.proofs.item_text.+append_text.Goals as goal

pub returns-in-None : goal.returns-in-None
returns-in-None t c = rw (c.in-Sym-Sym.is-0, c.in-Sym-Sym.is-1, ← c.get.ensures, get_or-none c.get.result.now c.in-Sym-Sym.place c.in-None.ensures) (sym (append-nil c.args.out.now))

pub returns-in_ok-append_text-in-Pair-Pair-2 : goal.returns-in_ok-append_text-in-Pair-Pair-2
returns-in_ok-append_text-in-Pair-Pair-2 t c = rw (c.in-Pair-Pair.is-0, c.in-Pair-Pair.is-1, text_of-Pair c.in-Pair-Pair.x c.in-Pair-Pair.y, ← c.get-x.ensures, ← c.get-y.ensures) (grind (arith, common_steps))

pub returns-in_default-6 : goal.returns-in_default-6
returns-in_default-6 t c = rw (c.in_default.is-0, text_of_Pair-other c.in_default.field-0-0 c.args.kindred.now c.in_default.not-Pair-1) (sym (append-nil c.args.out.now))
