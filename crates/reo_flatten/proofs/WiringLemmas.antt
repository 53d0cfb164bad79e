-- Joints and homes, node by node.
use Rattle.std.proofs.Common.{arith, ◌≡◌, ◌∙◌, ℕ, suc, ◌+◌, ◌<◌, List, [], ◌∷◌, ◌++◌, length, take, get_or, replicate, refl, sym, ap}
use Rattle.std.proofs.lemmas.List.{append_assoc, append-nil, length-take-le}
use Rattle.reo_flat.specs.Unfolding.{Placed}
use Rattle.reo_flat.specs.Ends.{incoming, outgoing}
use Rattle.reo_flat.specs.Joints.{joints_of, many}
use Rattle.reo_flat.specs.Flat.{joints_at, homes_at}
use Rattle.reo_unfold.proofs.ListLemmas.{take_next}

-- Where the own primitives of the nodes behind these begin.
abbrev pub after : List Placed → ℕ → List (List ℕ) → ℕ
after placed at [] = at
after placed at (n ∷ ns) = after placed (at + (many (incoming placed n) + many (outgoing placed n))) ns

after-append : (placed : List Placed) (xs ys : List (List ℕ)) (at : ℕ) → after placed at (xs ++ ys) ≡ after placed (after placed at xs) ys
after-append placed [] ys at = refl
after-append placed (x ∷ xs) ys at = after-append placed xs ys (at + (many (incoming placed x) + many (outgoing placed x)))

joints_at-append : (placed : List Placed) (xs ys : List (List ℕ)) (at : ℕ) → joints_at placed at (xs ++ ys) ≡ joints_at placed at xs ++ joints_at placed (after placed at xs) ys
joints_at-append placed [] ys at = refl
joints_at-append placed (x ∷ xs) ys at =
    ap (λ js. joints_of (incoming placed x) (outgoing placed x) at ++ js) (joints_at-append placed xs ys (at + (many (incoming placed x) + many (outgoing placed x))))
    ∙ sym (append_assoc (joints_of (incoming placed x) (outgoing placed x) at) _ _)

homes_at-append : (placed : List Placed) (xs ys : List (List ℕ)) (i at : ℕ) → homes_at placed i at (xs ++ ys) ≡ homes_at placed i at xs ++ homes_at placed (i + length xs) (after placed at xs) ys
homes_at-append placed [] ys i at =
    let same : i ≡ i + 0 = omega arith in
    ap (λ k. homes_at placed k at ys) same
homes_at-append placed (x ∷ xs) ys i at =
    let next = at + (many (incoming placed x) + many (outgoing placed x)) in
    let same : suc i + length xs ≡ i + length (x ∷ xs) = omega arith in
    ap (λ hs. replicate (length (joints_of (incoming placed x) (outgoing placed x) at)) i ++ hs) (homes_at-append placed xs ys (suc i) next ∙ ap (λ k. homes_at placed (suc i) next xs ++ homes_at placed k (after placed next xs) ys) same)
    ∙ sym (append_assoc (replicate (length (joints_of (incoming placed x) (outgoing placed x) at)) i) _ _)

module _ (placed : List Placed) (names : List (List ℕ)) (i first : ℕ) (n : List ℕ) (within : i < length names) (is : n ≡ get_or names i n) where
  pub after-more : after placed first (take (i + 1) names) ≡ after placed first (take i names) + (many (incoming placed n) + many (outgoing placed n))
  after-more = ap (after placed first) (take_next names i n within is) ∙ after-append placed (take i names) (n ∷ []) first

  pub joints-more : joints_at placed first (take (i + 1) names) ≡ joints_at placed first (take i names) ++ joints_of (incoming placed n) (outgoing placed n) (after placed first (take i names))
  joints-more =
      ap (joints_at placed first) (take_next names i n within is) ∙ joints_at-append placed (take i names) (n ∷ []) first
      ∙ ap (λ js. joints_at placed first (take i names) ++ js) (append-nil _)

  pub homes-more : homes_at placed 0 first (take (i + 1) names) ≡ homes_at placed 0 first (take i names) ++ replicate (length (joints_of (incoming placed n) (outgoing placed n) (after placed first (take i names)))) i
  homes-more =
      let long : length (take i names) ≡ i = length-take-le i names (omega arith) in
      let place : 0 + length (take i names) ≡ i = omega arith in
      ap (homes_at placed 0 first) (take_next names i n within is) ∙ homes_at-append placed (take i names) (n ∷ []) 0 first
      ∙ ap (λ hs. homes_at placed 0 first (take i names) ++ hs) (append-nil _ ∙ ap (replicate (length (joints_of (incoming placed n) (outgoing placed n) (after placed first (take i names))))) place)
