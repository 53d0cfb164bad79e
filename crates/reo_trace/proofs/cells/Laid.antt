-- What stands before the cells of a circuit is told by its shape.
use Rattle.std.proofs.Common.{◌≡◌, ◌∙◌, ℕ, zero, suc, ◌+◌, List, [], ◌∷◌, ◌++◌, length, map, ap, sym, refl, arith}
use Rattle.std.specs.List.{range_with_len}
use Rattle.std.proofs.lemmas.List.{length-map, map-append}
use Rattle.reo_net_base.specs.Behaviour.{Behaviour}
use Rattle.reo_net_base.specs.Net.{Net, all_sides, sides_of}
use Rattle.reo_net_base.specs.Shapes.{SameShapes}
use Rattle.reo_trace.specs.declared.cells.cells.Cells.{Cells}
use Rattle.reo_trace.specs.cells.Cells.{AreCells}
use Rattle.reo_trace.specs.cells.Texts.{before_side, befores, kept_bytes}
use Rattle.reo_trace.proofs.cells.Kept.{kept-length}

pub befores-length : (net : Net) → length (befores net) ≡ length (all_sides net.primitives)
befores-length net = length-map (all_sides net.primitives) before_side

own_same : (b d : Behaviour) (a n : ℕ)
    → map before_side (map (λ s. record { of = b; number = s }) (range_with_len a n)) ≡ map before_side (map (λ s. record { of = d; number = s }) (range_with_len a n))
own_same b d a zero = refl
own_same b d a (suc n) = ap (λ xs. before_side (record { of = b; number = a }) ∷ xs) (own_same b d (a + 1) n)

primitive_same : (b d : Behaviour) → d.sides ≡ b.sides → map before_side (sides_of b) ≡ map before_side (sides_of d)
primitive_same b d e = own_same b d 0 b.sides ∙ ap (λ n. map before_side (map (λ s. record { of = d; number = s }) (range_with_len 0 n))) (sym e)

all_same : (bs ds : List Behaviour) → SameShapes bs ds → map before_side (all_sides bs) ≡ map before_side (all_sides ds)
all_same [] [] same = refl
all_same [] (d ∷ ds) same = let n = same.count in absurd (omega (arith, n))
all_same (b ∷ bs) [] same = let n = same.count in absurd (omega (arith, n))
all_same (b ∷ bs) (d ∷ ds) same =
    let n = same.count in
    let rest : SameShapes bs ds = record { count = omega (arith, n); same = λ i lt. same.same (suc i) (omega arith) } in
    map-append before_side (sides_of b) (all_sides bs)
    ∙ ap (λ xs. xs ++ map before_side (all_sides bs)) (primitive_same b d (same.same zero (omega arith)).sides)
    ∙ ap (λ xs. map before_side (sides_of d) ++ xs) (all_same bs ds rest)
    ∙ sym (map-append before_side (sides_of d) (all_sides ds))

pub cells_same : (net other : Net) → SameShapes net.primitives other.primitives → (cells : Cells) → AreCells net cells → AreCells other cells
cells_same net other same cells are =
    let befores_same : befores net ≡ befores other = all_same net.primitives other.primitives same in
    record {
      one_each = are.one_each ∙ sym (befores-length net) ∙ ap length befores_same ∙ befores-length other;
      bytes = are.bytes ∙ ap (λ (bs : List ℕ). kept_bytes bs cells.shown) befores_same;
      counted = are.counted;
    }

pub bytes-length : (net : Net) (cells : Cells) → AreCells net cells → length cells.text ≡ length cells.shown + length cells.shown
bytes-length net cells are = ap length are.bytes ∙ kept-length (befores net) cells.shown (befores-length net ∙ sym are.one_each)
