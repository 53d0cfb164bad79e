-- What a repeat comes to.
use Rattle.std.specs.Prelude.{ℕ, ◌+◌, ◌*◌, ◌<◌, ◌≡◌, List, length, slice_get}
use Rattle.std.specs.List.{flat_map}
use Rattle.reo_script.specs.declared.scripts.action.Action.{Action}
use Rattle.reo_script.specs.declared.scripts.action.Action.TheVariants.{Repeat}
use Rattle.reo_players.specs.Written.{written}

-- It has the tasks of its body so many times: each time over, each of them at its place.
pub record IsWrittenOut (times : ℕ) (body : List Action) : Type 0 where
  pub count : length (written (Repeat times body)) ≡ times * length (flat_map written body)
  pub places : (time place : ℕ) → time < times → place < length (flat_map written body)
      → slice_get (written (Repeat times body)) (time * length (flat_map written body) + place) ≡ slice_get (flat_map written body) place

abbrev pub RepeatsAreWrittenOut : Type 0
RepeatsAreWrittenOut = (times : ℕ) (body : List Action) → IsWrittenOut times body
