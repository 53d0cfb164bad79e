-- Programs as texts say them.
use Rattle.std.specs.Prelude.{ℕ, ◌<◌, ◌^◌, List, length}
use Rattle.std.specs.List.{All}
use Rattle.reo_trees.specs.declared.programs.Program.{Program}
use Rattle.reo_trees.specs.Says.{SaysProgram}
use Rattle.reo_rules.specs.Scopes.{connectors_of}
use Rattle.reo_flat.specs.flatten_laws.Plain.{HasPlainNames}

-- No name of a text's program has the byte `@`.
abbrev pub NamesArePlain : Type 0
NamesArePlain =
    (text : List ℕ) (p : Program) → length text < 2 ^ 64 → SaysProgram text p
    → All HasPlainNames (connectors_of p.declarations)
