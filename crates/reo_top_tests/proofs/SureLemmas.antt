-- What never fails is not blamed.
use Rattle.std.proofs.Common.{◌≡◌, ℕ, Bool, true, false, List, [], length, refl, arith}
use Rattle.std.specs.Prelude.{◌≤◌, ◌&&◌, ◌||◌}
use Rattle.reo_io.specs.Causes.{Rose}
use Rattle.reo_command.specs.Fetched.{Content, has_gone, missed}
use Rattle.reo_command.proofs.FetchLemmas.{is_noted}

pub never_three : (takes failed : Bool) (answers : List Content) (names : List (List ℕ)) (before now : ℕ) → length answers ≤ length names
    → ((takes && failed) || has_gone answers) ≡ true → (failed ≡ true → Rose 0 0) → missed names answers ≡ [] → ⊥
never_three takes true answers names before now few is rose none = let rises : Rose 0 0 = rose refl in omega arith
never_three true false answers names before now few is rose none = is_noted names answers few is none
never_three false false answers names before now few is rose none = is_noted names answers few is none
