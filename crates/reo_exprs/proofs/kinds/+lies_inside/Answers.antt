use Rattle.std.proofs.Common.{rules, ◌∙◌}
use Rattle.std.specs.Prelude.{bytes_eq}
use Rattle.std.specs.Cmp.Lexicographic.{pointwise}
use Rattle.reo_exprs.proofs.Joined.{sym_inside}
use Rattle.reo_exprs.proofs.Twinned.{inside-Pair, inside_Pair-other}
use Rattle.reo_exprs.proofs.kinds.+lies_inside.Goals as goal

pub returns-then-lies_inside : goal.returns-then-lies_inside
returns-then-lies_inside t c = rw (c.in-Pair-Pair.is-0, c.in-Pair-Pair.is-1, inside-Pair c.in-Pair-Pair.x c.in-Pair-Pair.y, ← c.get-x.ensures, ← c.get-y.ensures) (search rules)

pub returns-else-lies_inside : goal.returns-else-lies_inside
returns-else-lies_inside t c = rw (c.in-Pair-Pair.is-0, c.in-Pair-Pair.is-1, inside-Pair c.in-Pair-Pair.x c.in-Pair-Pair.y, ← c.get-x.ensures, ← c.get-y.ensures) (search rules)

pub returns-in_default-6 : goal.returns-in_default-6
returns-in_default-6 t c = (λ h. absurd (search rules), λ h. absurd (inside_Pair-other _ _ c.in_default.not-Pair-1 (rw c.in_default.is-0 at h)))

pub returns-in-Sym-Sym : goal.returns-in-Sym-Sym
returns-in-Sym-Sym t c = sym_inside c.args.a.now c.args.b.now _ _ c.same.result c.in-Sym-Sym.is-0 c.in-Sym-Sym.is-1 (c.same.ensures ∙ (λ i. pointwise bytes_eq (c.get.ensures i) (c.get-in-Sym-Sym.ensures i)))
