-- What a written expression stands for, by its parts.
use denote.Hole.Carrier.{hidden}
use Rattle.std.proofs.Common.{◌≡◌, List, refl}
use Rattle.std.specs.Prelude.{option_map, option_and_then}
use Rattle.reo_values.specs.declared.operator.Unary.{Unary}
use Rattle.reo_values.specs.declared.operator.Binary.{Binary}
use Rattle.reo_exprs.specs.declared.expr.Expr.TheVariants as exprs
use Rattle.reo_trees.specs.declared.terms.TermForm.TheBlock.{hidden-the_row-Term-0, hidden-the_row-TermPair-1, hidden-the_row-TermTriple-2}
use Rattle.reo_trees.specs.declared.terms.TermForm.TheVariants as forms
use Rattle.reo_trees.specs.declared.terms.Term.{Term}
use Rattle.reo_trees.specs.declared.terms.TermPair.{TermPair}
use Rattle.reo_trees.specs.declared.terms.TermTriple.{TermTriple}
use Rattle.reo_rules.specs.Types.{Typed}
use Rattle.reo_rules.specs.Terms.{expr_of}

pub expr_of-One : (ts : List Typed) (op : Unary) (x : Term) → expr_of ts (forms.One op x) ≡ option_map (λ a. exprs.One op a) (expr_of ts x.form)
unfolding hidden hidden-the_row-Term-0
expr_of-One ts op x = refl

pub expr_of-Two : (ts : List Typed) (op : Binary) (p : TermPair) → expr_of ts (forms.Two op p) ≡ option_and_then (λ a. option_map (λ b. exprs.Two op (record { left = a; right = b })) (expr_of ts p.right.form)) (expr_of ts p.left.form)
unfolding hidden hidden-the_row-TermPair-1
expr_of-Two ts op p = refl

pub expr_of-If : (ts : List Typed) (p : TermTriple) → expr_of ts (forms.If p) ≡ option_and_then (λ a. option_and_then (λ b. option_map (λ d. exprs.If (record { condition = a; yes = b; no = d })) (expr_of ts p.no.form)) (expr_of ts p.yes.form)) (expr_of ts p.condition.form)
unfolding hidden hidden-the_row-TermTriple-2
expr_of-If ts p = refl
