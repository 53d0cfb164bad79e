-- How much a connector unfolds to.
use Rattle.std.specs.Prelude.{ℕ, ◌≡◌, List, length}
use Rattle.reo_trees.specs.declared.programs.Declaration.{Declaration}
use Rattle.reo_flat.specs.Unfolding.{meaning_named, meanings_of}

-- A connector places as many channels as are counted, whatever the path and the arguments.
abbrev pub CountsAreChannels : Type 0
CountsAreChannels =
    (ds : List Declaration) (name path : List ℕ) (arguments : List (List ℕ))
    → length ((meaning_named (meanings_of ds) name).channels path arguments)
    ≡ (meaning_named (meanings_of ds) name).placed
