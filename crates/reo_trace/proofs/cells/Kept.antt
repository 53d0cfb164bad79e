-- The bytes that are kept, as cells come, are patched and are read.
use Rattle.std.proofs.Common.{◌≡◌, ◌∙◌, ℕ, zero, suc, ◌+◌, ◌-◌, ◌*◌, ◌<◌, ◌≤◌, ◌&&◌, Bool, true, false, not, cond, List, [], ◌∷◌, ◌++◌, length, get_or, set, take, drop, replicate, ap, sym, refl, arith, add-one, append_assoc}
use Rattle.std.specs.Prelude.{◌==◌, if◌then◌else◌, nat_le, codes}
use Rattle.std.specs.Fmt.{decimal}
use Rattle.std.specs.List.{count_by}
use Rattle.std.proofs.lemmas.Bool.{leb-false, lt-leb, ne_eqb}
use Rattle.std.proofs.lemmas.Fmt.{decimal_digit}
use Rattle.std.proofs.lemmas.List.{drop-drop, get_or-drop, length-drop, take_all}
use Rattle.std.proofs.lemmas.List.Sums.{sum_by-cons, sum_by-set}
use Rattle.reo_trace.specs.cells.Texts.{cell_byte, cells_text, code_text, is_wide, jam_code, kept_bytes}

-- two bytes for each cell
pub kept-length : (befores codes : List ℕ) → length befores ≡ length codes → length (kept_bytes befores codes) ≡ length codes + length codes
kept-length [] [] e = refl
kept-length [] (c ∷ cs) e = absurd (omega arith)
kept-length (b ∷ bs) [] e = refl
kept-length (b ∷ bs) (c ∷ cs) e = let rest = kept-length bs cs (omega arith) in omega (arith, rest)

-- a patch
pub kept-set : (befores cells : List ℕ) (s k code : ℕ) → k ≡ 2 * s + 1 → set (kept_bytes befores cells) k (cell_byte code) ≡ kept_bytes befores (set cells s code)
kept-set [] cells s k code at = refl
kept-set (b ∷ bs) [] s k code at = refl
kept-set (b ∷ bs) (c ∷ cs) zero zero code at = absurd (omega arith)
kept-set (b ∷ bs) (c ∷ cs) zero (suc zero) code at = refl
kept-set (b ∷ bs) (c ∷ cs) zero (suc (suc k)) code at = absurd (omega arith)
kept-set (b ∷ bs) (c ∷ cs) (suc s) zero code at = absurd (omega arith)
kept-set (b ∷ bs) (c ∷ cs) (suc s) (suc zero) code at = absurd (omega arith)
kept-set (b ∷ bs) (c ∷ cs) (suc s) (suc (suc k)) code at = ap (λ xs. b ∷ cell_byte c ∷ xs) (kept-set bs cs s k code (omega arith))

-- one more cell, 0
pub kept-more : (befores : List ℕ) (n d : ℕ) → n < length befores
    → kept_bytes (take (suc n) befores) (replicate (suc n) 0) ≡ kept_bytes (take n befores) (replicate n 0) ++ (get_or befores n d ∷ 48 ∷ [])
kept-more [] n d lt = absurd (omega arith)
kept-more (b ∷ bs) zero d lt = refl
kept-more (b ∷ bs) (suc n) d lt = ap (λ xs. b ∷ 48 ∷ xs) (kept-more bs n d (omega arith))

pub pushed_more : (befores : List ℕ) (n before : ℕ) (was mid now : List ℕ) → n < length befores → was ≡ kept_bytes (take n befores) (replicate n 0)
    → before ≡ get_or befores n 0 → mid ≡ was ++ before ∷ [] → now ≡ mid ++ 48 ∷ []
    → now ≡ kept_bytes (take (n + 1) befores) (replicate (n + 1) 0)
pushed_more befores n before was mid now lt e is f g =
    rw add-one
    (g ∙ ap (λ (xs : List ℕ). xs ++ 48 ∷ []) f ∙ append_assoc was (before ∷ []) (48 ∷ []) ∙ ap (λ (xs : List ℕ). xs ++ before ∷ 48 ∷ []) e
    ∙ ap (λ b. kept_bytes (take n befores) (replicate n 0) ++ b ∷ 48 ∷ []) is ∙ sym (kept-more befores n 0 lt))

-- a cell of one byte
one_byte : (code : ℕ) (jam wide : Bool) → nat_le 10 code ≡ wide → (wide && not jam) ≡ false → cond jam (codes "j") (decimal code) ≡ cond jam 106 (cond wide 0 (48 + code)) ∷ []
one_byte code true wide e h = refl
one_byte code false true e h = absurd cc
one_byte code false false e h = decimal_digit code (leb-false 10 code e)

pub narrow : (code : ℕ) → is_wide code ≡ false → code_text code ≡ cell_byte code ∷ []
narrow code h = one_byte code (code == jam_code) (nat_le 10 code) refl h

-- a code of one digit is not wide
pub narrow_below : (code : ℕ) → code < 10 → is_wide code ≡ false
narrow_below code lt = ap (λ (b : Bool). b && not (code == jam_code)) (lt-leb 10 code lt)

-- the byte of such a code
pub digit_byte : (code : ℕ) → code < 10 → 48 + code ≡ cell_byte code
digit_byte code lt =
    sym (ap (λ (b : Bool). if b then 106 else if nat_le 10 code then 0 else 48 + code) (ne_eqb code jam_code (λ same. omega (arith, same, lt)))
    ∙ ap (λ (b : Bool). if b then 0 else 48 + code) (lt-leb 10 code lt))

wide_one : (c : ℕ) (cs : List ℕ) (w : Bool) → is_wide c ≡ w → count_by is_wide (c ∷ cs) ≡ 0 → (is_wide c ≡ false) × (count_by is_wide cs ≡ 0)
wide_one c cs true e h =
    let counted = sum_by-cons (λ x. cond (is_wide x) 1 0) c cs in
    let one : cond {A = ℕ} (is_wide c) 1 0 ≡ 1 = ap (λ (w : Bool). cond {A = ℕ} w 1 0) e in
    absurd (omega (arith, counted, one, h))
wide_one c cs false e h =
    let counted = sum_by-cons (λ x. cond (is_wide x) 1 0) c cs in
    (e, omega (arith, counted, h))

no_wide : (c : ℕ) (cs : List ℕ) → count_by is_wide (c ∷ cs) ≡ 0 → (is_wide c ≡ false) × (count_by is_wide cs ≡ 0)
no_wide c cs h = wide_one c cs (is_wide c) refl h

-- how many cells are wide, after a patch
pub wide-set : (cells : List ℕ) (s code : ℕ) → s < length cells
    → count_by is_wide (set cells s code) + cond (is_wide (get_or cells s 0)) 1 0 ≡ count_by is_wide cells + cond (is_wide code) 1 0
wide-set cells s code lt = sum_by-set (λ x. cond (is_wide x) 1 0) cells s code 0 lt

pub none_wide : (cells : List ℕ) → count_by is_wide cells ≡ 0 → (i : ℕ) → i < length cells → is_wide (get_or cells i 0) ≡ false
none_wide [] h i lt = absurd (omega arith)
none_wide (c ∷ cs) h zero lt = (no_wide c cs h).0
none_wide (c ∷ cs) h (suc i) lt = none_wide cs (no_wide c cs h).1 i (omega arith)

-- where no cell is wide, what is kept is the text
pub kept-text : (befores cells : List ℕ) → ((i : ℕ) → i < length cells → is_wide (get_or cells i 0) ≡ false) → kept_bytes befores cells ≡ cells_text befores cells
kept-text [] cells none = refl
kept-text (b ∷ bs) [] none = refl
kept-text (b ∷ bs) (c ∷ cs) none =
    ap (λ xs. b ∷ cell_byte c ∷ xs) (kept-text bs cs (λ i lt. none (suc i) (omega arith)))
    ∙ ap (λ xs. b ∷ (xs ++ cells_text bs cs)) (sym (narrow c (none 0 (omega arith))))

-- from a cell on
pub kept-drop : (befores cells : List ℕ) (n k : ℕ) → k ≡ 2 * n → length befores ≡ length cells → drop k (kept_bytes befores cells) ≡ kept_bytes (drop n befores) (drop n cells)
kept-drop befores cells zero zero at same = refl
kept-drop befores cells zero (suc k) at same = absurd (omega arith)
kept-drop befores cells (suc n) zero at same = absurd (omega arith)
kept-drop befores cells (suc n) (suc zero) at same = absurd (omega arith)
kept-drop [] [] (suc n) (suc (suc k)) at same = refl
kept-drop [] (c ∷ cs) (suc n) (suc (suc k)) at same = absurd (omega arith)
kept-drop (b ∷ bs) [] (suc n) (suc (suc k)) at same = absurd (omega arith)
kept-drop (b ∷ bs) (c ∷ cs) (suc n) (suc (suc k)) at same = kept-drop bs cs n k (omega arith) (omega arith)

-- up to a cell, with what stands before it, where no cell before it is wide
run-text : (befores cells : List ℕ) (n k : ℕ) → k ≡ 2 * n + 1 → n < length befores → n < length cells → ((i : ℕ) → i < n → is_wide (get_or cells i 0) ≡ false)
    → cells_text befores cells ≡ take k (kept_bytes befores cells) ++ (code_text (get_or cells n 0) ++ cells_text (drop (suc n) befores) (drop (suc n) cells))
run-text [] cells n k at b_in c_in none = absurd (omega arith)
run-text (b ∷ bs) [] n k at b_in c_in none = absurd (omega arith)
run-text (b ∷ bs) (c ∷ cs) zero zero at b_in c_in none = absurd (omega arith)
run-text (b ∷ bs) (c ∷ cs) zero (suc zero) at b_in c_in none = refl
run-text (b ∷ bs) (c ∷ cs) zero (suc (suc k)) at b_in c_in none = absurd (omega arith)
run-text (b ∷ bs) (c ∷ cs) (suc n) zero at b_in c_in none = absurd (omega arith)
run-text (b ∷ bs) (c ∷ cs) (suc n) (suc zero) at b_in c_in none = absurd (omega arith)
run-text (b ∷ bs) (c ∷ cs) (suc n) (suc (suc k)) at b_in c_in none =
    ap (λ xs. b ∷ (xs ++ cells_text bs cs)) (narrow c (none 0 (omega arith)))
    ∙ ap (λ xs. b ∷ cell_byte c ∷ xs) (run-text bs cs n k (omega arith) (omega arith) (omega arith) (λ i lt. none (suc i) (omega arith)))

-- what is still to be written from a cell on
abbrev pub text_from : List ℕ → List ℕ → ℕ → List ℕ
text_from befores cells n = cells_text (drop n befores) (drop n cells)

module _ (befores cells : List ℕ) (from : ℕ) (same : length befores ≡ length cells) where
  -- one run more, and the cell behind it
  run-from : (place o k : ℕ) → place ≡ from + o → k ≡ 2 * o + 1 → place < length cells → ((i : ℕ) → from ≤ i → i < place → is_wide (get_or cells i 0) ≡ false)
      → text_from befores cells from ≡ take k (drop (2 * from) (kept_bytes befores cells)) ++ (code_text (get_or cells place 0) ++ text_from befores cells (place + 1))
  run-from place o k at long lt none =
      let bs : List ℕ = drop from befores in
      let cs : List ℕ = drop from cells in
      let b_long = length-drop from befores in
      let c_long = length-drop from cells in
      let code : get_or cs o 0 ≡ get_or cells place 0 = get_or-drop from cells o 0 ∙ ap (λ i. get_or cells i 0) (sym at) in
      let after : from + suc o ≡ place + 1 = omega (arith, at) in
      let b_rest : drop (suc o) bs ≡ drop (place + 1) befores = drop-drop (suc o) from befores ∙ ap (λ i. drop i befores) after in
      let c_rest : drop (suc o) cs ≡ drop (place + 1) cells = drop-drop (suc o) from cells ∙ ap (λ i. drop i cells) after in
      run-text bs cs o k long (omega (arith, b_long)) (omega (arith, c_long)) (λ i less. ap is_wide (get_or-drop from cells i 0) ∙ none (from + i) (omega arith) (omega arith))
      ∙ ap (λ (xs : List ℕ). take k xs ++ (code_text (get_or cs o 0) ++ cells_text (drop (suc o) bs) (drop (suc o) cs))) (sym (kept-drop befores cells from (2 * from) refl same))
      ∙ ap (λ (c : ℕ). take k (drop (2 * from) (kept_bytes befores cells)) ++ (code_text c ++ cells_text (drop (suc o) bs) (drop (suc o) cs))) code
      ∙ ap (λ (xs : List ℕ). take k (drop (2 * from) (kept_bytes befores cells)) ++ (code_text (get_or cells place 0) ++ cells_text xs (drop (suc o) cs))) b_rest
      ∙ ap (λ (xs : List ℕ). take k (drop (2 * from) (kept_bytes befores cells)) ++ (code_text (get_or cells place 0) ++ cells_text (drop (place + 1) befores) xs)) c_rest

  -- as the loop writes it
  pub written-run : (place code : ℕ) (kept start was run mid now : List ℕ) → kept ≡ kept_bytes befores cells → from ≤ place → place < length cells
      → ((i : ℕ) → from ≤ i → i < place → is_wide (get_or cells i 0) ≡ false) → was ++ text_from befores cells from ≡ start ++ cells_text befores cells
      → run ≡ take (2 * place + 1 - 2 * from) (drop (2 * from) kept) → mid ≡ was ++ run → code ≡ get_or cells place 0 → now ≡ mid ++ code_text code
      → now ++ text_from befores cells (place + 1) ≡ start ++ cells_text befores cells
  written-run place code kept start was run mid now is le lt none before run_is mid_is code_is now_is =
      let rest : List ℕ = text_from befores cells (place + 1) in
      let up : List ℕ = take (2 * place + 1 - 2 * from) (drop (2 * from) (kept_bytes befores cells)) in
      let more = run-from place (place - from) (2 * place + 1 - 2 * from) (omega (arith, le)) (omega (arith, le)) lt none in
      ap (λ (xs : List ℕ). xs ++ rest) now_is ∙ append_assoc mid (code_text code) rest
      ∙ ap (λ (xs : List ℕ). xs ++ (code_text code ++ rest)) mid_is ∙ append_assoc was run (code_text code ++ rest)
      ∙ ap (λ (xs : List ℕ). was ++ (xs ++ (code_text code ++ rest))) run_is
      ∙ ap (λ (xs : List ℕ). was ++ (take (2 * place + 1 - 2 * from) (drop (2 * from) xs) ++ (code_text code ++ rest))) is
      ∙ ap (λ (c : ℕ). was ++ (up ++ (code_text c ++ rest))) code_is
      ∙ ap (λ (xs : List ℕ). was ++ xs) (sym more) ∙ before

  pub written-rest : (place : ℕ) (kept start was run now : List ℕ) → kept ≡ kept_bytes befores cells → length cells ≤ place
      → ((i : ℕ) → from ≤ i → i < place → is_wide (get_or cells i 0) ≡ false) → was ++ text_from befores cells from ≡ start ++ cells_text befores cells
      → run ≡ take (length kept - 2 * from) (drop (2 * from) kept) → now ≡ was ++ run → now ≡ start ++ cells_text befores cells
  written-rest place kept start was run now is end none before run_is now_is =
      let long = length-drop from cells in
      let narrow : (i : ℕ) → i < length (drop from cells) → is_wide (get_or (drop from cells) i 0) ≡ false = λ i lt.
      ap is_wide (get_or-drop from cells i 0) ∙ none (from + i) (omega arith) (omega (arith, lt, long, end)) in
      let le = length-drop (2 * from) kept in
      now_is ∙ ap (λ (xs : List ℕ). was ++ xs) (run_is ∙ take_all (length kept - 2 * from) (drop (2 * from) kept) (omega (arith, le)) ∙ ap (λ (xs : List ℕ). drop (2 * from) xs) is ∙ kept-drop befores cells from (2 * from) refl same ∙ kept-text (drop from befores) (drop from cells) narrow)
      ∙ before
