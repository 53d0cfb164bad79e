-- A literal against the cell of a type.
use Rattle.std.proofs.Common.{◌∙◌, ap, sym, ◌&&◌, map}
use Rattle.reo_trees.specs.declared.literals.Constant.TheVariants as constants
use Rattle.reo_values.specs.declared.kindred.Twins.{Twins}
use Rattle.reo_rules_types.specs.Cells.{type_at, kindred_of, is_symbol}
use Rattle.reo_rules_types.specs.Literals.{is_literal}
use Rattle.reo_rules_types.proofs.Cells.{of_cell}
use Rattle.reo_rules_types.proofs.OfLiterals.{name_literal, pair_literal, no_unit, no_bool, no_int, no_name, no_text, no_pair}
use Rattle.reo_rules_types.proofs.literals.+is_literal.Goals as goal

pub returns-in-Name-Sym : goal.returns-in-Name-Sym
returns-in-Name-Sym t c =
    let types = c.args.types.now in
    let k = of_cell types c.args.number c.cell.result.now c.cell.ensures.is ∙ ap (kindred_of types) c.in-Name-Sym.is-1 in
    let names = map (λ v. v.items) c.in-Name-Sym.field-0-1.items in
    c.has_symbol.ensures ∙ (λ i. is_symbol (k i) (c.as_slice.ensures i)) ∙ name_literal names c.in-Name-Sym.name
    ∙ sym (λ i. is_literal (k i) (c.in-Name-Sym.is-0 i))

pub returns-then-is_literal : goal.returns-then-is_literal
returns-then-is_literal t c =
    let types = c.args.types.now in
    let p = c.get-pair.result.now in
    let twins : Twins = record { left = type_at types c.in-Pair-Pair.left; right = type_at types c.in-Pair-Pair.right } in
    let k = of_cell types c.args.number c.cell.result.now c.cell.ensures.is ∙ ap (kindred_of types) c.in-Pair-Pair.is-1 in
    c.is_literal-then-is_literal.ensures
    ∙ ap (λ b. b && is_literal twins.right p.right.constant) c.if-is_literal.ensures
    ∙ sym (pair_literal p twins) ∙ sym (λ i. is_literal (k i) ((c.in-Pair-Pair.is-0 ∙ ap constants.Pair (sym c.get-pair.ensures)) i))

pub returns-else-is_literal : goal.returns-else-is_literal
returns-else-is_literal t c =
    let types = c.args.types.now in
    let p = c.get-pair.result.now in
    let twins : Twins = record { left = type_at types c.in-Pair-Pair.left; right = type_at types c.in-Pair-Pair.right } in
    let k = of_cell types c.args.number c.cell.result.now c.cell.ensures.is ∙ ap (kindred_of types) c.in-Pair-Pair.is-1 in
    c.if-is_literal.false
    ∙ ap (λ b. b && is_literal twins.right p.right.constant) c.if-is_literal.ensures
    ∙ sym (pair_literal p twins) ∙ sym (λ i. is_literal (k i) ((c.in-Pair-Pair.is-0 ∙ ap constants.Pair (sym c.get-pair.ensures)) i))

pub returns-in_default : goal.returns-in_default
returns-in_default t c =
    no_unit c.args.types.now c.cell.result.now c.in_default.not-Unit-1
    ∙ sym (λ i. is_literal (of_cell c.args.types.now c.args.number c.cell.result.now c.cell.ensures.is i) (c.in_default.is-0 i))

pub returns-in_default-2 : goal.returns-in_default-2
returns-in_default-2 t c =
    no_bool c.args.types.now c.cell.result.now c.in_default.field-0-0 c.in_default.not-Bool-1
    ∙ sym (λ i. is_literal (of_cell c.args.types.now c.args.number c.cell.result.now c.cell.ensures.is i) (c.in_default.is-0 i))

pub returns-in_default-3 : goal.returns-in_default-3
returns-in_default-3 t c =
    no_int c.args.types.now c.cell.result.now c.in_default.field-0-0 c.in_default.not-Int-1
    ∙ sym (λ i. is_literal (of_cell c.args.types.now c.args.number c.cell.result.now c.cell.ensures.is i) (c.in_default.is-0 i))

pub returns-in_default-4 : goal.returns-in_default-4
returns-in_default-4 t c =
    no_name c.args.types.now c.cell.result.now c.in_default.field-0-0 c.in_default.not-Sym-1
    ∙ sym (λ i. is_literal (of_cell c.args.types.now c.args.number c.cell.result.now c.cell.ensures.is i) (c.in_default.is-0 i))

pub returns-in_default-5 : goal.returns-in_default-5
returns-in_default-5 t c =
    no_text c.args.types.now c.cell.result.now c.in_default.field-0-0 c.in_default.not-Text-1
    ∙ sym (λ i. is_literal (of_cell c.args.types.now c.args.number c.cell.result.now c.cell.ensures.is i) (c.in_default.is-0 i))

pub returns-in_default-6 : goal.returns-in_default-6
returns-in_default-6 t c =
    no_pair c.args.types.now c.cell.result.now c.in_default.field-0-0 c.in_default.not-Pair-1
    ∙ sym (λ i. is_literal (of_cell c.args.types.now c.args.number c.cell.result.now c.cell.ensures.is i) (c.in_default.is-0 i))
