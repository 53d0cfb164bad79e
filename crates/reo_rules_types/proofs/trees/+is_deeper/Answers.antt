-- One level less in each part of a pair.
use Rattle.std.proofs.Common.{◌≡◌, ◌∙◌, ℕ, List, Some, slice_get, nat_lt, max, ◌+◌, sym, ap}
use Rattle.reo_values.specs.declared.kindred.Kindred.{Kindred}
use Rattle.reo_rules_types.specs.declared.cell.TypeParts.{TypeParts}
use Rattle.reo_rules_types.specs.declared.cell.TypeParts.TheVariants as cells
use Rattle.reo_values.specs.declared.kindred.Twins.{Twins}
use Rattle.reo_rules.specs.Types.{depth_of}
use Rattle.reo_rules_types.specs.Cells.{type_at, kindred_of}
use Rattle.reo_rules_types.proofs.Cells.{of_cell}
use Rattle.reo_rules_types.proofs.Ranged.{depth-Pair, no_level, left_deeper, right_deeper, no_depth}
use Rattle.reo_rules_types.proofs.trees.+is_deeper.Goals as goal

-- The depth of a pair by its cell.
depth : (types : List Kindred) (n : ℕ) (c : TypeParts) (l r : ℕ) → slice_get types n ≡ Some (kindred_of types c) → c ≡ cells.Pair l r → depth_of (type_at types n) ≡ 1 + max (depth_of (type_at types l)) (depth_of (type_at types r))
depth types n c l r is pair =
    let twins : Twins = record { left = type_at types l; right = type_at types r } in
    ap depth_of (of_cell types n c is ∙ ap (kindred_of types) pair) ∙ depth-Pair twins

pub returns-then-levels-eq0 : goal.returns-then-levels-eq0
returns-then-levels-eq0 t c =
    let types = c.args.types.now in
    no_level c.args.levels (depth_of (type_at types c.in-Pair.left)) (depth_of (type_at types c.in-Pair.right)) c.if-levels-eq0.true
    ∙ sym (ap (nat_lt c.args.levels) (depth types c.args.number c.cell.result.now c.in-Pair.left c.in-Pair.right c.cell.ensures.is c.in-Pair.is))

pub returns-then-is_deeper : goal.returns-then-is_deeper
returns-then-is_deeper t c =
    let types = c.args.types.now in
    c.if-is_deeper.true
    ∙ left_deeper c.args.levels (depth_of (type_at types c.in-Pair.left)) (depth_of (type_at types c.in-Pair.right)) c.if-levels-eq0.false (sym c.if-is_deeper.ensures)
    ∙ sym (ap (nat_lt c.args.levels) (depth types c.args.number c.cell.result.now c.in-Pair.left c.in-Pair.right c.cell.ensures.is c.in-Pair.is))

pub returns-else-is_deeper : goal.returns-else-is_deeper
returns-else-is_deeper t c =
    let types = c.args.types.now in
    c.is_deeper-else-is_deeper.ensures
    ∙ right_deeper c.args.levels (depth_of (type_at types c.in-Pair.left)) (depth_of (type_at types c.in-Pair.right)) c.if-levels-eq0.false (sym c.if-is_deeper.ensures)
    ∙ sym (ap (nat_lt c.args.levels) (depth types c.args.number c.cell.result.now c.in-Pair.left c.in-Pair.right c.cell.ensures.is c.in-Pair.is))

pub returns-in_default : goal.returns-in_default
returns-in_default t c =
    let types = c.args.types.now in
    sym (ap (λ k. nat_lt c.args.levels (depth_of k)) (of_cell types c.args.number c.cell.result.now c.cell.ensures.is) ∙ no_depth types c.args.levels c.cell.result.now c.in_default.not-Pair)
