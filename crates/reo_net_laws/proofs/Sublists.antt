-- Keys of sets.
use Rattle.std.proofs.Common.{◌≡◌, ℕ, zero, suc, ◌+◌, ◌<◌, List, [], ◌∷◌, ◌++◌, Bool, true, false, cond, length, get_or, refl, ap, sym, ◌∙◌, arith, zero-add, add-zero, add-one}
use Rattle.std.specs.List.{filter, range_with_len}
use Rattle.reo_net_base.specs.Net.{Net, Side, all_sides, no_side}
use Rattle.reo_net_base.specs.First.{Position, key_at, is_leading, class_position, leading_positions, class_positions, row_positions}
use Rattle.reo_net_laws.specs.Keys.{within}
use Rattle.reo_net_laws.specs.Sublists.{part_rows, part_classes, part_leading, PartKeys}
use Rattle.reo_net_laws.proofs.Places.{key_split}

module _ (net : Net) (turn : ℕ) (inside : ℕ → Bool) (rows : List ℕ) where
  class_part : (ss : List Side) (k : ℕ) → ((j : ℕ) → j < length ss → get_or (all_sides net.primitives) (k + j) no_side ≡ get_or ss j no_side)
      → part_classes net turn (filter inside (range_with_len k (length ss))) (part_rows (filter inside (range_with_len k (length ss))) rows) ≡ key_at (within inside (class_positions turn ss k)) rows
  class_part [] k h = refl
  class_part (s ∷ ss) k h =
      let here : get_or (all_sides net.primitives) k no_side ≡ s = rw add-zero at (h zero (omega arith)) in
      let rest = class_part ss (suc k) (λ j lt. let shift : k + suc j ≡ suc k + j = omega arith in rw shift at (h (suc j) (omega arith))) in
      rw add-one
      (elim (inside k) as (λ t. part_classes net turn (cond t (k ∷ filter inside (range_with_len (suc k) (length ss))) (filter inside (range_with_len (suc k) (length ss)))) (part_rows (cond t (k ∷ filter inside (range_with_len (suc k) (length ss))) (filter inside (range_with_len (suc k) (length ss)))) rows)
      ≡ key_at (cond t (record { side = k; number = λ row. s.of.class s.number row turn } ∷ within inside (class_positions turn ss (suc k))) (within inside (class_positions turn ss (suc k)))) rows) [
        | true ↦ λ i. (here i).of.class (here i).number (get_or rows k 0) turn ∷ rest i
        | false ↦ rest
      ])

  leading_part : (ss : List Side) (k : ℕ) → ((j : ℕ) → j < length ss → get_or (all_sides net.primitives) (k + j) no_side ≡ get_or ss j no_side)
      → part_leading net turn (filter inside (range_with_len k (length ss))) (part_rows (filter inside (range_with_len k (length ss))) rows) ≡ key_at (within inside (leading_positions turn ss k)) rows
  leading_part [] k h = refl
  leading_part (s ∷ ss) k h =
      let here : get_or (all_sides net.primitives) k no_side ≡ s = rw add-zero at (h zero (omega arith)) in
      let p : Position = class_position turn s k in
      let later : List Position = leading_positions turn ss (suc k) in
      let sides : List ℕ = filter inside (range_with_len (suc k) (length ss)) in
      let rest : part_leading net turn sides (part_rows sides rows) ≡ key_at (within inside later) rows =
      leading_part ss (suc k) (λ j lt. let shift : k + suc j ≡ suc k + j = omega arith in rw shift at (h (suc j) (omega arith))) in
      rw add-one
      (elim (inside k) as (λ t. inside k ≡ t → part_leading net turn (cond t (k ∷ sides) sides) (part_rows (cond t (k ∷ sides) sides) rows) ≡ key_at (within inside (cond (is_leading s) (p ∷ later) later)) rows) [
        | true ↦ λ e.
            (λ i. cond (is_leading (here i)) ((here i).of.class (here i).number (get_or rows k 0) turn ∷ rest i) (rest i))
            ∙ (elim (is_leading s) as (λ u. cond u (p.number (get_or rows k 0) ∷ key_at (within inside later) rows) (key_at (within inside later) rows) ≡ key_at (within inside (cond u (p ∷ later) later)) rows) [
              | true ↦ ap (λ (t : Bool). key_at (cond t (p ∷ within inside later) (within inside later)) rows) (sym e)
              | false ↦ refl
            ])
        | false ↦ λ e.
            rest
            ∙ (elim (is_leading s) as (λ u. key_at (within inside later) rows ≡ key_at (within inside (cond u (p ∷ later) later)) rows) [
              | true ↦ ap (λ (t : Bool). key_at (cond t (p ∷ within inside later) (within inside later)) rows) (sym e)
              | false ↦ refl
            ])
      ] refl)

  row_part : (ss : List Side) (k : ℕ) → part_rows (filter inside (range_with_len k (length ss))) rows ≡ key_at (within inside (row_positions ss k)) rows
  row_part [] k = refl
  row_part (s ∷ ss) k =
      let rest = row_part ss (suc k) in
      rw add-one
      (elim (inside k) as (λ t. part_rows (cond t (k ∷ filter inside (range_with_len (suc k) (length ss))) (filter inside (range_with_len (suc k) (length ss)))) rows
      ≡ key_at (cond t (record { side = k; number = λ row. row } ∷ within inside (row_positions ss (suc k))) (within inside (row_positions ss (suc k)))) rows) [
        | true ↦ λ i. get_or rows k 0 ∷ rest i
        | false ↦ rest
      ])

pub part_keys : PartKeys
part_keys net turn inside rows =
    let ss : List Side = all_sides net.primitives in
    (λ i. leading_part net turn inside rows ss 0 (λ j lt. rw zero-add refl) i ++ (class_part net turn inside rows ss 0 (λ j lt. rw zero-add refl) i ++ row_part net turn inside rows ss 0 i))
    ∙ ap (λ (later : List ℕ). key_at (within inside (leading_positions turn ss 0)) rows ++ later) (sym (key_split inside (class_positions turn ss 0) (row_positions ss 0) rows))
    ∙ sym (key_split inside (leading_positions turn ss 0) (class_positions turn ss 0 ++ row_positions ss 0) rows)
