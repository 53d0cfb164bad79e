-- From the mask of a load to the pairs of the two lists.
use Rattle.std.proofs.Common.{◌≡◌, ℕ, ◌+◌, ◌<◌, ◌≤◌, Bool, true, false, not, List, [], ◌∷◌, map, length, get_or, take, drop, zero, suc, refl, sym, ap, ◌∙◌, arith}
use Rattle.std.specs.List.{prefix_len}
use Rattle.std.proofs.lemmas.Bool.{not-true, not-false}
use Rattle.std.proofs.lemmas.List.{map-id}
use Rattle.std.proofs.lemmas.Simd.{length-zip2, length-chunk, get_or-zip2, trailing_mask_l, run_in_chunk_fails, run_in_chunk_stops, none_from_empty_mask}
use lib.Count.{count_trailing_zeros}
use lib.Lanes.{zip2, chunk, mask_l}
use Rattle.reo_lanes.specs.Joints.{MatchBetween, FirstBroken}
use Rattle.reo_lanes.specs.Lanes.{is_broken, broken_mask}

-- No pair without a second byte.
zip2-none : (xs : List ℕ) → zip2 is_broken xs [] ≡ []
zip2-none [] = refl
zip2-none (x ∷ xs) = refl

-- The first pairs are the pairs of the first bytes.
take-zip2 : (n : ℕ) (xs ys : List ℕ) → take n (zip2 is_broken xs ys) ≡ zip2 is_broken (take n xs) (take n ys)
take-zip2 zero xs ys = refl
take-zip2 (suc n) [] ys = refl
take-zip2 (suc n) (x ∷ xs) [] = refl
take-zip2 (suc n) (x ∷ xs) (y ∷ ys) = ap (λ more. is_broken x y ∷ more) (take-zip2 n xs ys)

-- The pairs after them are the pairs of the bytes after them.
drop-zip2 : (n : ℕ) (xs ys : List ℕ) → drop n (zip2 is_broken xs ys) ≡ zip2 is_broken (drop n xs) (drop n ys)
drop-zip2 zero xs ys = refl
drop-zip2 (suc n) [] ys = refl
drop-zip2 (suc n) (x ∷ xs) [] = sym (zip2-none (drop n xs))
drop-zip2 (suc n) (x ∷ xs) (y ∷ ys) = drop-zip2 n xs ys

-- Where a bit is set, some lane has it.
some_lane : (bs : List Bool) → 0 < mask_l bs → prefix_len (λ b. not b) bs < length bs
some_lane [] some = omega arith
some_lane (true ∷ bs) some = omega arith
some_lane (false ∷ bs) some = omega (arith, some_lane bs (omega arith))

module _ (left right : List ℕ) (at n : ℕ) (givers : at + n ≤ length left) (takers : at + n ≤ length right) (even : length left ≡ length right) (few : n ≤ 64) where
  -- Which pairs of the two lists do not match.
  abbrev pairs : List Bool
  pairs = zip2 is_broken left right

  -- The load lies within them.
  room : at + n ≤ length pairs
  room = omega (arith, length-zip2 is_broken left right even)

  -- The load of pairs is the pairs of the loads.
  load : chunk at n pairs ≡ zip2 is_broken (chunk at n left) (chunk at n right)
  load = ap (take n) (drop-zip2 at left right) ∙ take-zip2 n (drop at left) (drop at right)

  -- And so is the mask.
  mask : mask_l (map (λ b. b) (chunk at n pairs)) ≡ broken_mask (chunk at n left) (chunk at n right)
  mask = ap mask_l (map-id (chunk at n pairs) ∙ load)

  -- One pair of the lists.
  pair : (k : ℕ) → k < at + n → get_or pairs k false ≡ is_broken (get_or left k 0) (get_or right k 0)
  pair k lt = get_or-zip2 is_broken left right k 0 0 false (omega arith) (omega arith)

  -- With no bit set each pair of the load matches.
  pub load_matches : broken_mask (chunk at n left) (chunk at n right) ≡ 0 → MatchBetween left right at (at + n)
  load_matches none k lo hi = not-false _ (sym (pair k hi) ∙ none_from_empty_mask (λ b. b) pairs at n false room (mask ∙ none) k lo hi)

  -- The lowest bit that is set is the first pair that does not.
  pub load_breaks : (m : ℕ) → m ≡ broken_mask (chunk at n left) (chunk at n right) → 0 < m → FirstBroken left right at (at + n) (at + count_trailing_zeros 64 m)
  load_breaks m is some =
      let r = count_trailing_zeros 64 m in
      let long = length-chunk at n pairs room in
      let counted : r ≡ prefix_len (λ b. not b) (chunk at n pairs) = ap (count_trailing_zeros 64) (is ∙ sym mask) ∙ trailing_mask_l (λ b. b) 64 (chunk at n pairs) (omega arith) (omega (arith, mask)) in
      let short : r < n = omega (arith, counted, long, some_lane (chunk at n pairs) (omega (arith, mask, ap mask_l load))) in
      record {
        from_on = omega arith;
        in_range = omega arith;
        broken = not-true _ (sym (pair (at + r) (omega arith)) ∙ run_in_chunk_stops (λ b. b) pairs at n r false room counted short);
        none_before = λ k lo hi. not-false _ (sym (pair k (omega arith)) ∙ run_in_chunk_fails (λ b. b) pairs at n r false room counted k lo hi);
      }
