-- The symbols of an expression are those of its parts.
use denote.Hole.Carrier.{hidden}
use Rattle.std.proofs.Common.{◌≡◌, ◌∙◌, ℕ, List, ◌++◌, refl, ap}
use Rattle.std.specs.List.{flat_map}
use Rattle.reo_values.specs.declared.operator.Unary.{Unary}
use Rattle.reo_values.specs.declared.operator.Binary.{Binary}
use Rattle.reo_trees.specs.declared.terms.Term.{Term}
use Rattle.reo_trees.specs.declared.terms.TermForm.{TermForm}
use Rattle.reo_trees.specs.declared.terms.TermForm.TheVariants as terms
use Rattle.reo_trees.specs.declared.terms.TermForm.TheBlock.{hidden-the_row-Term-0, hidden-the_row-TermPair-1, hidden-the_row-TermTriple-2}
use Rattle.reo_trees.specs.declared.terms.TermPair.{TermPair}
use Rattle.reo_trees.specs.declared.terms.TermTriple.{TermTriple}
use Rattle.reo_rules.specs.declared.fault.FlatFault.{FlatFault}
use Rattle.reo_rules.specs.Types.{Typed}
use Rattle.reo_rules.specs.Terms.{symbols_in}
use Rattle.reo_rules.specs.Unknown.{unknown_symbol}
use Rattle.reo_rules_names.proofs.AfterLemmas.{flat_map-append}

-- The breaks of the symbols in an expression.
abbrev pub in_term : List Typed → ℕ → TermForm → List FlatFault
in_term known line form = flat_map (unknown_symbol known) (symbols_in line form)

symbols_in-One : (line : ℕ) (op : Unary) (t : Term) → symbols_in line (terms.One op t) ≡ symbols_in t.line t.form
unfolding hidden-the_row-Term-0 hidden
symbols_in-One line op t = refl

symbols_in-Two : (line : ℕ) (op : Binary) (p : TermPair) → symbols_in line (terms.Two op p) ≡ symbols_in p.left.line p.left.form ++ symbols_in p.right.line p.right.form
unfolding hidden-the_row-Term-0 hidden-the_row-TermPair-1 hidden
symbols_in-Two line op p = refl

symbols_in-If : (line : ℕ) (p : TermTriple) → symbols_in line (terms.If p) ≡ symbols_in p.condition.line p.condition.form ++ (symbols_in p.yes.line p.yes.form ++ symbols_in p.no.line p.no.form)
unfolding hidden-the_row-Term-0 hidden-the_row-TermTriple-2 hidden
symbols_in-If line p = refl

pub in_term-One : (known : List Typed) (line : ℕ) (op : Unary) (t : Term) → in_term known line (terms.One op t) ≡ in_term known t.line t.form
in_term-One known line op t = ap (flat_map (unknown_symbol known)) (symbols_in-One line op t)

pub in_term-Two : (known : List Typed) (line : ℕ) (op : Binary) (p : TermPair) → in_term known line (terms.Two op p) ≡ in_term known p.left.line p.left.form ++ in_term known p.right.line p.right.form
in_term-Two known line op p =
    ap (flat_map (unknown_symbol known)) (symbols_in-Two line op p) ∙ flat_map-append (unknown_symbol known) (symbols_in p.left.line p.left.form) (symbols_in p.right.line p.right.form)

pub in_term-If : (known : List Typed) (line : ℕ) (p : TermTriple) → in_term known line (terms.If p) ≡ in_term known p.condition.line p.condition.form ++ (in_term known p.yes.line p.yes.form ++ in_term known p.no.line p.no.form)
in_term-If known line p =
    let yes' = symbols_in p.yes.line p.yes.form in
    let no' = symbols_in p.no.line p.no.form in
    ap (flat_map (unknown_symbol known)) (symbols_in-If line p) ∙ flat_map-append (unknown_symbol known) (symbols_in p.condition.line p.condition.form) (yes' ++ no')
    ∙ ap (λ fs. in_term known p.condition.line p.condition.form ++ fs) (flat_map-append (unknown_symbol known) yes' no')
