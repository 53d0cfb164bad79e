-- Numbers that pass a test, counted one more at a time.
use Rattle.std.proofs.Common.{◌≡◌, ◌∙◌, ℕ, ◌+◌, Bool, cond, sym, ap, zero-add}
use Rattle.std.specs.Prelude.{count_by}
use Rattle.std.specs.List.{range_with_len}
use Rattle.std.proofs.lemmas.List.{map-id}
use Rattle.std.proofs.lemmas.List.FromFn.{sum_by-map-range_with_len_more}

pub count_more : (test : ℕ → Bool) (n : ℕ) → count_by test (range_with_len 0 (n + 1)) ≡ count_by test (range_with_len 0 n) + cond (test n) 1 0
count_more test n =
    ap (count_by test) (sym (map-id (range_with_len 0 (n + 1))))
    ∙ sum_by-map-range_with_len_more (λ k. cond (test k) 1 0) (λ k. k) 0 n n (zero-add n)
    ∙ ap (λ xs. count_by test xs + cond (test n) 1 0) (map-id (range_with_len 0 n))
