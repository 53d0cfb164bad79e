-- One number more that is kept or not.
use Rattle.std.proofs.Common.{◌≡◌, ℕ, ◌+◌, List, [], ◌∷◌, ◌++◌, Bool, cond, sym, ap, ◌∙◌}
use Rattle.std.specs.Prelude.{filter}
use Rattle.std.specs.List.{range_with_len}
use Rattle.std.proofs.lemmas.List.Elements.{filter-append}
use Rattle.reo_net_laws.proofs.Ranges.{range_plus_one}

pub kept_more : (p : ℕ → Bool) (n : ℕ) (old new : List ℕ) (wanted : Bool) → old ≡ filter p (range_with_len 0 n) → wanted ≡ p n → new ≡ old ++ cond wanted (n ∷ []) []
    → new ≡ filter p (range_with_len 0 (n + 1))
kept_more p n old new wanted old_is wanted_is new_is =
    new_is
    ∙ ap (λ (xs : List ℕ). xs ++ cond wanted (n ∷ []) []) old_is
    ∙ ap (λ (b : Bool). filter p (range_with_len 0 n) ++ cond b (n ∷ []) []) wanted_is
    ∙ sym (filter-append p (range_with_len 0 n) (n ∷ []))
    ∙ ap (filter p) (sym (range_plus_one n))
