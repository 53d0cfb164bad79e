use Rattle.std.proofs.Common.{List, [], ℕ, ◌++◌}
use contract.BorrowLft.{◌⊑◌, ⊑_meet, ⊑_static}
use Rattle.reo_trace_reader.proofs.given.GivenLines.then.Goals as goal

-- What is shown is two borrows, and neither ends before the place where they stand beside one another.
pub told-requires : goal.told-requires
told-requires c κs within =
    let place = κs.1.0 in
    let alone : (κ : List ℕ) → place ⊑ κ → place ⊑ κ ++ [] = λ κ h. ⊑_meet place κ [] h (⊑_static place) in
    let line = alone κs.1.1.1.0 within.1.0 in
    let both = ⊑_meet place _ _ (alone κs.1.1.0 within.0) (alone _ line) in
    ⊑_meet place _ _ both both
