-- Rows held against their cells, a part of a column after another.
use Rattle.std.proofs.Common.{◌≡◌, ℕ, ◌+◌, ◌-◌, ◌<◌, ◌≤◌, eqb, List, [], ◌∷◌, length, get_or, replicate, refl, sym, ap, ap₂, ◌∙◌, subst, arith, inl, inr}
use Rattle.std.proofs.lemmas.Bool.{cases_lt}
use Rattle.std.proofs.lemmas.Grind.{same_number_lists}
use Rattle.std.proofs.lemmas.Simd.{length-zip2, length-chunk, length-put_chunk, get_or-zip2, get_or-chunk, get_or-put_chunk_at, get_or-put_chunk_below, get_or-put_chunk_above}
use lib.Bits.{bit_and}
use lib.Lanes.{zip2, sel_l, chunk, put_chunk}
use Rattle.reo_lanes.specs.Rows.{kept_row, kept_rows, KeptBetween}

-- The lanes that a comparison with 0 selects.
pub selected : (allowed : ℕ) (cells rows : List ℕ)
    → sel_l (zip2 eqb (zip2 bit_and cells (replicate (length cells) allowed)) (replicate (length cells) 0)) (replicate (length cells) 0) rows
    ≡ zip2 (kept_row allowed) cells rows
selected allowed [] rows = refl
selected allowed (cell ∷ cells) [] = refl
selected allowed (cell ∷ cells) (row ∷ rows) = ap (λ more. kept_row allowed cell row ∷ more) (selected allowed cells rows)

-- One part after another.
pub kept_on : (column : List ℕ) (allowed from middle to : ℕ) (old mid new : List ℕ) → from ≤ middle → middle ≤ to
    → KeptBetween column allowed from middle old mid → KeptBetween column allowed middle to mid new → KeptBetween column allowed from to old new
kept_on column allowed from middle to old mid new low high p q = record {
  same_length = q.same_length ∙ p.same_length;
  kept = λ k lo hi. elim (cases_lt k middle) [
    | inl early ↦ q.before k early ∙ p.kept k lo early
    | inr late ↦ q.kept k late hi ∙ ap (kept_row allowed (get_or column k 0)) (p.after k late)
  ];
  before = λ k lt. q.before k (omega arith) ∙ p.before k lt;
  after = λ k le. q.after k le ∙ p.after k (omega arith);
}

module _ (column : List ℕ) (allowed at n : ℕ) (live : List ℕ) (cells : at + n ≤ length column) (rows : at + n ≤ length live) where
  -- The rows of the load after they were held against its cells.
  abbrev lanes : List ℕ
  lanes = zip2 (kept_row allowed) (chunk at n column) (chunk at n live)

  -- There are n of them.
  long : length lanes ≡ n
  long = length-zip2 (kept_row allowed) (chunk at n column) (chunk at n live) (length-chunk at n column cells ∙ sym (length-chunk at n live rows)) ∙ length-chunk at n column cells

  -- One of them, stored again.
  lane : (j : ℕ) → j < n → get_or (put_chunk at live lanes) (at + j) 0 ≡ kept_row allowed (get_or column (at + j) 0) (get_or live (at + j) 0)
  lane j lt =
      get_or-put_chunk_at at live lanes j 0 (omega (arith, long)) (omega (arith, long))
      ∙ get_or-zip2 (kept_row allowed) (chunk at n column) (chunk at n live) j 0 0 0 (omega (arith, length-chunk at n column cells)) (omega (arith, length-chunk at n live rows))
      ∙ ap₂ (kept_row allowed) (get_or-chunk at n column j 0 lt) (get_or-chunk at n live j 0 lt)

  -- A load's rows, stored again.
  pub lanes_kept : KeptBetween column allowed at (at + n) live (put_chunk at live lanes)
  lanes_kept = record {
    same_length = length-put_chunk at live lanes;
    kept = λ k lo hi.
        let back : at + (k - at) ≡ k = omega arith in
        subst (λ m. get_or (put_chunk at live lanes) m 0 ≡ kept_row allowed (get_or column m 0) (get_or live m 0)) back (lane (k - at) (omega arith));
    before = λ k lt. get_or-put_chunk_below at live lanes k 0 lt;
    after = λ k le. get_or-put_chunk_above at live lanes k 0 (omega (arith, long));
  }

-- When all rows were held against their cells.
pub all_kept : (column : List ℕ) (allowed : ℕ) (old new : List ℕ) → length column ≡ length old
    → KeptBetween column allowed 0 (length column) old new → new ≡ kept_rows column allowed old
all_kept column allowed old new even k =
    let long = length-zip2 (kept_row allowed) column old even in
    same_number_lists new (kept_rows column allowed old) (omega (arith, long, k.same_length)) (λ j lt.
    k.kept j (omega arith) (omega (arith, k.same_length))
    ∙ sym (get_or-zip2 (kept_row allowed) column old j 0 0 0 (omega (arith, k.same_length)) (omega (arith, k.same_length))))
