-- Types and expressions out of bounds.
use Rattle.std.proofs.Common.{arith, ◌≡◌, ◌∙◌, ℕ, ◌+◌, ◌-◌, max, Bool, true, false, not, ◌||◌, Some, List, [], ◌++◌, nat_lt, refl, sym, ap, inr}
use Rattle.std.specs.Cmp.{both_ways}
use Rattle.std.specs.Prelude.{IsTrue, ◌↔◌}
use Rattle.std.specs.List.{flat_map}
use Rattle.std.proofs.lemmas.Bool.Decides.{nat_tests}
use denote.Hole.Carrier.{hidden}
use Rattle.reo_values.specs.declared.kindred.Kindred.{Kindred}
use Rattle.reo_values.specs.declared.kindred.Kindred.TheVariants as kinds
use Rattle.reo_values.specs.declared.kindred.Kindred.TheBlock.{hidden-the_row-Twins-0}
use Rattle.reo_values.specs.declared.kindred.Twins.{Twins}
use Rattle.reo_exprs.specs.Kinds.{LiesInside}
use Rattle.reo_trees.specs.declared.types.Shape as shape
use Rattle.reo_trees.specs.declared.types.Shape.{Shape}
use Rattle.reo_trees.specs.declared.types.Shape.TheVariants as shapes
use Rattle.reo_trees.specs.declared.types.Shape.TheBlock.{hidden-the_row-TypePair-0}
use Rattle.reo_trees.specs.declared.types.TypePair.{TypePair}
use Rattle.reo_trees.specs.declared.types.TypeTerm.{TypeTerm}
use Rattle.reo_rules.specs.declared.fault.FlatFault.{FlatFault}
use Rattle.reo_rules.specs.declared.fault.FlatFault.TheVariants as faults
use Rattle.reo_rules.specs.Lists.{where_true, first_of}
use Rattle.reo_rules.specs.Types.{Typed, resolved, parts_of, depth_of}
use Rattle.reo_rules.specs.Ranges.{is_out, is_inside, range_in_type}
use Rattle.reo_rules.specs.Judged.{IsFirst}
use Rattle.reo_rules.proofs.Parts.{over_parts-Pair, resolved-Pair}
use Rattle.reo_rules.proofs.Same.{inside_told}
use Rattle.reo_rules_types.specs.declared.cell.TypeParts.{TypeParts}
use Rattle.reo_rules_types.specs.declared.cell.TypeParts.TheVariants as cells
use Rattle.reo_rules_types.specs.Cells.{kindred_of}
use Rattle.std.proofs.lemmas.Bool.{or_right as or_true}

pub inside_is : (r : Bool) (s t : Kindred) → IsTrue r ↔ LiesInside s t → r ≡ is_inside s t
inside_is r s t is = let d = inside_told s t in both_ways r (is_inside s t) (λ e. d.1 (is.0 e)) (λ e. is.1 (d.0 e))

-- How deep a pair is.
pub depth-Pair : (t : Twins) → depth_of (kinds.Pair t) ≡ 1 + max (depth_of t.left) (depth_of t.right)
unfolding hidden-the_row-Twins-0 hidden
depth-Pair t = refl

pub no_level : (n a b : ℕ) → n ≡ 0 → true ≡ nat_lt n (1 + max a b)
no_level n a b is = grind (arith, nat_tests)

pub left_deeper : (n a b : ℕ) → (n ≡ 0 → ⊥) → nat_lt (n - 1) a ≡ true → true ≡ nat_lt n (1 + max a b)
left_deeper n a b some is = grind (arith, nat_tests)

pub right_deeper : (n a b : ℕ) → (n ≡ 0 → ⊥) → nat_lt (n - 1) a ≡ false → nat_lt (n - 1) b ≡ nat_lt n (1 + max a b)
right_deeper n a b some is = grind (arith, nat_tests)

-- The parts of a pair that is not too deep.
out-Pair : (p : TypePair) → is_out (shapes.Pair p) ≡ false
unfolding hidden-the_row-TypePair-0 hidden
out-Pair p = refl

part_breaks : List Typed → TypeTerm → List FlatFault
part_breaks known part = where_true (is_out part.shape || nat_lt 8 (depth_of (resolved known part.shape))) (faults.Range part.line)

-- The breaks of a pair are those of its parts.
pub range-Pair : (known : List Typed) (line : ℕ) (s : Shape) (p : TypePair) → s ≡ shapes.Pair p → nat_lt 8 (depth_of (resolved known s)) ≡ false
    → range_in_type known (record { line = line; shape = s }) ≡ range_in_type known p.left ++ range_in_type known p.right
unfolding part_breaks
range-Pair known line s p is low =
    let deep = ap (λ z. nat_lt 8 (depth_of (resolved known z))) (sym is) ∙ low in
    ap (λ z. range_in_type known (record { line = line; shape = z })) is ∙ over_parts-Pair (part_breaks known) line p
    ∙ ap (λ b. where_true b (faults.Range line) ++ (flat_map (part_breaks known) (parts_of p.left.line p.left.shape) ++ flat_map (part_breaks known) (parts_of p.right.line p.right.shape)))
    (λ i. out-Pair p i || deep i)

pub parts_low : (known : List Typed) (s : Shape) (p : TypePair) → s ≡ shapes.Pair p → nat_lt 8 (depth_of (resolved known s)) ≡ false
    → (nat_lt 8 (depth_of (resolved known p.left.shape)) ≡ false) × (nat_lt 8 (depth_of (resolved known p.right.shape)) ≡ false)
parts_low known s p is low =
    let twins : Twins = record { left = resolved known p.left.shape; right = resolved known p.right.shape } in
    let deep : nat_lt 8 (1 + max (depth_of twins.left) (depth_of twins.right)) ≡ false = ap (nat_lt 8) (sym (ap (λ z. depth_of (resolved known z)) is ∙ ap depth_of (resolved-Pair known p) ∙ depth-Pair twins)) ∙ low in
    lower (depth_of twins.left) (depth_of twins.right) deep
  where
    lower : (a b : ℕ) → nat_lt 8 (1 + max a b) ≡ false → (nat_lt 8 a ≡ false) × (nat_lt 8 b ≡ false)
    lower a b h = (grind (arith, nat_tests), grind (arith, nat_tests))

-- A type that is too deep is itself the first break.
head_part : (f : TypeTerm → List FlatFault) (line : ℕ) (s : Shape) → (rest : List FlatFault) × (flat_map f (parts_of line s) ≡ f (record { line = line; shape = s }) ++ rest)
unfolding hidden-the_row-TypePair-0 hidden
head_part f line shape.Unit = ([], refl)
head_part f line shape.Bool = ([], refl)
head_part f line (shape.Int a b) = ([], refl)
head_part f line (shape.Sym names) = ([], refl)
head_part f line (shape.Text m) = ([], refl)
head_part f line (shape.Pair' m (shape.more_of-TypePair k x l y shape.end_of-TypePair)) = (flat_map f (parts_of k x ++ parts_of l y), refl)
head_part f line (shape.Named name) = ([], refl)

first_part : (known : List Typed) (line : ℕ) (s : Shape) → nat_lt 8 (depth_of (resolved known s)) ≡ true → first_of (range_in_type known (record { line = line; shape = s })) ≡ Some (faults.Range line)
unfolding part_breaks
first_part known line s deep =
    let head = head_part (part_breaks known) line s in
    ap first_of (head.1 ∙ ap (λ b. where_true b (faults.Range line) ++ head.0) (or_true (is_out s) _ deep))

pub too_deep : (known : List Typed) (t : TypeTerm) → nat_lt 8 (depth_of (resolved known t.shape)) ≡ true → IsFirst (range_in_type known t) (faults.Range t.line)
too_deep known t deep = inr (first_part known t.line t.shape deep)

none : (n : ℕ) → nat_lt n 0 ≡ false
none n = grind (arith, nat_tests)

-- A type that is no pair has no depth.
pub no_depth : (types : List Kindred) (n : ℕ) (c : TypeParts) → ((l r : ℕ) → c ≡ cells.Pair l r → ⊥) → nat_lt n (depth_of (kindred_of types c)) ≡ false
no_depth types n cells.Unit not = none n
no_depth types n cells.Bool not = none n
no_depth types n (cells.Int a b) not = none n
no_depth types n (cells.Sym names) not = none n
no_depth types n (cells.Text m) not = none n
no_depth types n (cells.Pair l r) not = absurd (not l r refl)
