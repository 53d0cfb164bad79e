-- How many choices there are.
use Rattle.std.proofs.Common.{◌≡◌, inl, inr, ℕ, zero, suc, ◌+◌, ◌*◌, ◌<◌, ◌≤◌, List, [], ◌∷◌, Bool, length, get_or, take, drop, ap, sym, ◌∙◌, subst, arith, length-drop}
use Rattle.std.specs.Prelude.{min, map}
use Rattle.std.proofs.lemmas.Bool.{cases_lt}
use Rattle.std.proofs.lemmas.Nat.{mul-le}
use Rattle.std.proofs.lemmas.List.{take_more, map-append, get_or-drop}
use Rattle.reo_net_base.specs.Net.{Net}
use Rattle.reo_weights.specs.Weights.{all_values, product_of, capped}
use Rattle.reo_weights.proofs.Products.{product_push}
use Rattle.reo_joint_values.specs.Values.{Names, Choice}
use Rattle.reo_joint_values.specs.Chosen.{IsChosen}
use Rattle.reo_search.specs.choices.Remaining.{CoverAll, choices_of}

-- With one list more.
pub choices_more : (left : List (List ℕ)) (i : ℕ) → i < length left → choices_of (take (i + 1) left) ≡ choices_of (take i left) * length (get_or left i [])
choices_more left i lt =
    ap choices_of (take_more left i [] lt)
    ∙ ap product_of (map-append length (take i left) (get_or left i [] ∷ []))
    ∙ product_push (map length (take i left)) (length (get_or left i []))

min_small : (m n : ℕ) → m ≤ n → min m n ≡ m
min_small m n h = omega arith

min_great : (m n : ℕ) → n ≤ m → min m n ≡ n
min_great m n h = omega arith

min_times : (most a b : ℕ) → min (min a most * b) most ≡ min (a * b) most
min_times most a zero = ap (λ (n : ℕ). min n most) (let e : min a most * zero ≡ a * zero = omega arith in e)
min_times most a (suc b) =
    elim (cases_lt most a) [
      | inr le ↦ ap (λ (n : ℕ). min (n * suc b) most) (min_small a most le)
      | inl gt ↦
          ap (λ (n : ℕ). min (n * suc b) most) (min_great a most (omega arith))
          ∙ min_great (most * suc b) most (omega arith)
          ∙ sym (min_great (a * suc b) most (omega arith))
    ]

-- A product that is capped on the way is capped the same.
pub capped_times : (a b : ℕ) → capped (capped a * b) ≡ capped (a * b)
capped_times a b = min_times 1000000000000000000 a b

-- What is capped below the greatest weight is not capped.
pub capped_small : (n budget : ℕ) → capped n ≤ budget → budget < 1000000000000000000 → n ≤ capped n
capped_small n budget le lt = omega arith

positive_times : (a b : ℕ) → 1 ≤ a → 1 ≤ b → 1 ≤ a * b
positive_times zero b h g = absurd (omega arith)
positive_times (suc a) zero h g = absurd (omega arith)
positive_times (suc a) (suc b) h g = omega arith

-- There is a choice where each list has an element.
pub some_choice : (left : List (List ℕ)) → ((m : ℕ) → m < length left → 1 ≤ length (get_or left m [])) → 1 ≤ choices_of left
some_choice [] some = omega arith
some_choice (xs ∷ left) some =
    let here : 1 ≤ length xs = some 0 (omega arith) in
    let rest : 1 ≤ choices_of left = some_choice left (λ m lt. some (suc m) (omega (arith, lt))) in
    positive_times (length xs) (choices_of left) here rest

drop_in : (left : List (List ℕ)) (n m : ℕ) → m < length (drop n left) → n + m < length left
drop_in left n m lt = omega (arith, lt, length-drop n left)

-- And then among those that are still to be gone through.
pub some_rest : (left : List (List ℕ)) (n : ℕ) → ((m : ℕ) → m < length left → 1 ≤ length (get_or left m [])) → 1 ≤ choices_of (drop n left)
some_rest left n some =
    some_choice (drop n left) (λ m lt. subst (λ (xs : List ℕ). 1 ≤ length xs) (sym (get_or-drop n left m [])) (some (n + m) (drop_in left n m lt)))

-- Shorter lists give no more choices.
pub choices_less : (kept left : List (List ℕ)) → length kept ≡ length left → ((m : ℕ) → m < length left → length (get_or kept m []) ≤ length (get_or left m [])) → choices_of kept ≤ choices_of left
choices_less [] [] same less = omega arith
choices_less [] (ys ∷ left) same less = absurd (omega arith)
choices_less (xs ∷ kept) [] same less = absurd (omega arith)
choices_less (xs ∷ kept) (ys ∷ left) same less =
    mul-le (length xs) (choices_of kept) (length ys) (choices_of left) (less 0 (omega arith))
    (choices_less kept left (omega arith) (λ m lt. less (suc m) (omega (arith, lt))))

-- So it is for those that are still to be gone through.
pub rest_less : (kept left : List (List ℕ)) (n : ℕ) → length kept ≡ length left → ((m : ℕ) → m < length left → length (get_or kept m []) ≤ length (get_or left m [])) → choices_of (drop n kept) ≤ choices_of (drop n left)
rest_less kept left n same less =
    choices_less (drop n kept) (drop n left)
    (omega (arith, same, length-drop n kept, length-drop n left))
    (λ m lt. subst (λ (xs : List ℕ). length xs ≤ length (get_or (drop n left) m [])) (sym (get_or-drop n kept m []))
    (subst (λ (ys : List ℕ). length (get_or kept (n + m) []) ≤ length ys) (sym (get_or-drop n left m [])) (less (n + m) (drop_in left n m lt))))

-- Steps so far, and those behind one value more, are no more than those of one value more.
pub steps_more : (start mid now i p : ℕ) → mid ≤ start + i * p → now ≤ mid + p → now ≤ start + (i + 1) * p
steps_more start mid now i p before here = omega arith

-- And so no more than those of all values.
pub steps_within : (start now i n p : ℕ) → now ≤ start + (i + 1) * p → i < n → now ≤ start + n * p
steps_within start now i n p before lt = let le = mul-le (i + 1) p n p (omega (arith, lt)) (omega arith) in omega (arith, before, le)

-- So there is where they cover an assignment.
pub some_covered : (net : Net) (names : Names) (inside : ℕ → Bool) (loops : List ℕ) (left : List (List ℕ)) → CoverAll net names inside loops left → length left ≡ length loops
    → (rows : ℕ → ℕ) (choice : Choice) → IsChosen net names inside (all_values names) rows choice → 1 ≤ choices_of left
some_covered net names inside loops left cover one_each rows choice chosen =
    some_choice left (λ m lt. let there = cover rows choice chosen m (omega (arith, lt, one_each)) in omega (arith, there.1))
