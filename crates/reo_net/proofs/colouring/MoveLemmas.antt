-- The moves of the first ports.
use Rattle.std.proofs.Common.{◌≡◌, inl, inr, ℕ, zero, suc, ◌+◌, ◌<◌, ◌≤◌, List, [], ◌∷◌, ◌++◌, Option, length, take, get_or, refl, ap, sym, ◌∙◌, arith, append-nil, append_assoc, add-one, length-append}
use Rattle.std.specs.List.{range_with_len}
use Rattle.std.proofs.Math.Seq.{get_or-append_seam}
use Rattle.std.proofs.lemmas.List.{take_more, length-take}
use Rattle.std.proofs.lemmas.Grind.{flat_map-append}
use Rattle.reo_values.specs.declared.value.Value.{Value}
use Rattle.reo_net_base.specs.declared.colouring.Move.{Move}
use Rattle.reo_net_base.specs.Net.{Net}
use Rattle.reo_net_base.specs.Moves.{moves_at, moves_of}
use Rattle.reo_net_laws.proofs.Ranges.{range_plus_one}
use Rattle.reo_net_laws.proofs.Search.{eq_or}

module _ (net : Net) (rows : List ℕ) (items : List (Option Value)) where
  -- One port more.
  more : (k : ℕ) → moves_of net (k + 1) rows items ≡ moves_of net k rows items ++ moves_at net rows items k
  more k = rw (range_plus_one k, flat_map-append (moves_at net rows items) (range_with_len 0 k) (k ∷ []), append-nil) refl

  begins : (k n : ℕ) → k ≤ n → (rest : List Move) × (moves_of net n rows items ≡ moves_of net k rows items ++ rest)
  begins k zero le = let same : k ≡ zero = omega arith in ([], rw (same, append-nil) refl)
  begins k (suc n) le =
      elim (eq_or k (suc n)) [
        | inl same ↦ ([], rw (same, append-nil) refl)
        | inr other ↦
            let before = begins k n (omega (arith, other)) in (
              before.0 ++ moves_at net rows items n,
              ap (λ (m : ℕ). moves_of net m rows items) (sym (add-one n)) ∙ more n ∙ ap (λ (xs : List Move). xs ++ moves_at net rows items n) before.1
                  ∙ append_assoc (moves_of net k rows items) before.0 (moves_at net rows items n),
            )
      ]

  module _ (moves : List Move) (next port : ℕ) (le : next ≤ length moves) (same : take next moves ≡ moves_of net port rows items) where
    count : length (moves_of net port rows items) ≡ next
    count = omega (arith, ap (λ (xs : List Move). length xs) (sym same), length-take next moves, le)

    -- In a list of all moves the move of a port that flows stands behind those of the ports before it.
    pub stands : (ports : ℕ) (move : Move) → port < ports → move ∷ [] ≡ moves_at net rows items port → moves ≡ moves_of net ports rows items
        → (next < length moves) × ((d : Move) → get_or moves next d ≡ move)
    stands ports move lt here all =
        let rest = begins (port + 1) ports (omega arith) in
        let before : List Move = moves_of net port rows items in
        let split : moves ≡ before ++ move ∷ rest.0 =
        all ∙ rest.1 ∙ ap (λ (xs : List Move). xs ++ rest.0) (more port ∙ ap (λ (xs : List Move). before ++ xs) (sym here)) ∙ append_assoc before (move ∷ []) rest.0 in (
          omega (arith, count, ap (λ (xs : List Move). length xs) split, length-append before (move ∷ rest.0)),
          λ d. (λ i. get_or (split i) (sym count i) d) ∙ get_or-append_seam before move rest.0 d,
        )

    -- A port that flows, with its move.
    pub with_move : (move : Move) → move ∷ [] ≡ moves_at net rows items port → next < length moves → ((d : Move) → get_or moves next d ≡ move)
        → (next + 1 ≤ length moves) × (take (next + 1) moves ≡ moves_of net (port + 1) rows items)
    with_move move here lt is = (
      omega arith,
      take_more moves next move lt ∙ (λ i. same i ++ is move i ∷ []) ∙ ap (λ (xs : List Move). moves_of net port rows items ++ xs) here ∙ sym (more port),
    )

    -- A port that does not flow.
    pub without_move : [] ≡ moves_at net rows items port → (next ≤ length moves) × (take next moves ≡ moves_of net (port + 1) rows items)
    without_move here =
        (le, same ∙ sym (append-nil (moves_of net port rows items)) ∙ ap (λ (xs : List Move). moves_of net port rows items ++ xs) here ∙ sym (more port))
