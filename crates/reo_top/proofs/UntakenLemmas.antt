-- Nothing was taken from a source.
use Rattle.std.proofs.Common.{◌≡◌, inl, ℕ, false, List, [], sym, refl, arith}
use Rattle.std.proofs.lemmas.Bool.{false≢true}
use Rattle.std.proofs.lemmas.List.{append-nil}
use Rattle.std.specs.Prelude.{Option, Some, None, IfSome, ◌++◌}
use Rattle.std.specs.Option.{unwrap_or}
use Rattle.reo_live.specs.closings.Sources.{AreTaken, source_change, state_of, untaken}
use Rattle.reo_top.specs.Heard.{TakesFew}

still_told : (o : Option (List ℕ)) → IfSome o (λ (bytes : List ℕ). (left : List ℕ) × (bytes ≡ [] ++ left) × (o ≡ Some left) × (false ≡ false → unwrap_or o [] ≡ bytes))
still_told None = tt
still_told (Some bytes) = (bytes, refl, refl, (λ e. refl))

still_left : (o : Option (List ℕ)) → IfSome o (λ (bytes : List ℕ). (left : List ℕ) × (bytes ≡ [] ++ left) × (o ≡ Some left))
still_left None = tt
still_left (Some bytes) = (bytes, refl, refl)

none_untold : (o : Option (List ℕ)) → o ≡ None → unwrap_or o [] ≡ []
none_untold None none = refl
none_untold (Some bytes) none = absurd (cc)

module _ {R : Type 0} (told : R → Option (List ℕ)) (given : R → List ℕ) (ends faults : R → ℕ) (source : R) where
  pub none_taken : AreTaken (untaken (state_of told given ends faults source)) (source_change told given ends faults source source)
  none_taken = record {
    taken = [];
    rest = unwrap_or (told source) [];
    front = refl;
    fault = λ e. absurd (false≢true e);
    untold = none_untold (told source);
    later = omega arith;
    given = sym (append-nil (given source));
    told = still_told (told source);
  }

  pub none_taken_few : (code : ℕ) → TakesFew (source_change told given ends faults source source) code
  none_taken_few code = record {
    bytes = [];
    taken = record { later = omega arith; ends_later = omega arith; ended = λ less. absurd (omega (arith, less)); given = sym (append-nil (given source)); told = still_left (told source) };
    few = omega arith;
    long = λ four. inl refl;
  }
