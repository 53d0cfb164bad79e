use Rattle.std.proofs.Common.{List, [], ℕ, ◌++◌}
use contract.BorrowLft.{◌⊑◌, ⊑_meet, ⊑_static}
use Rattle.reo_io.proofs.given.GivenFiles.then.Goals as goal

-- What is shown is three borrows, and none of them ends before the place where they stand beside one another.
pub told-requires : goal.told-requires
told-requires c κs within =
    let place = κs.1.0 in
    let alone : (κ : List ℕ) → place ⊑ κ → place ⊑ κ ++ [] = λ κ h. ⊑_meet place κ [] h (⊑_static place) in
    let bytes = alone κs.1.1.1.1.0 within.1.1.0 in
    let three =
    ⊑_meet place _ _ (alone κs.1.1.0 within.0) (⊑_meet place _ _ (alone κs.1.1.1.0 within.1.0) (alone _ bytes)) in
    ⊑_meet place _ _ three three
