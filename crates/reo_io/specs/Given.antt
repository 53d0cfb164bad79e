-- What an object gave or took.
use Rattle.std.specs.Prelude.{ℕ, ◌+◌, List, [], ◌∷◌, ◌++◌, map, take, Result, Ok, Err}
use Rattle.std.specs.List.{flat_map}
use Rattle.reo_io.specs.declared.given.GivenBytes.{GivenBytes}
use Rattle.reo_io.specs.declared.given.GivenFiles.{GivenFiles}
use Rattle.reo_io.specs.declared.given.GivenNames.{GivenNames}

-- The files, each with its name, one after another.
abbrev pub files_given : GivenFiles → List (List ℕ × List ℕ)
files_given given = given.files

-- The bytes, one after another.
abbrev pub bytes_given : GivenBytes → List ℕ
bytes_given given = flat_map (λ file. file.1) (files_given given.pieces)

-- The names, one after another.
abbrev pub names_given : GivenNames → List (List ℕ)
names_given given = map (λ file. file.0) (files_given given.names)

-- A count of pieces without a byte, after one more piece.
abbrev pub empties_after : ℕ → List ℕ → ℕ
empties_after count [] = count + 1
empties_after count (byte ∷ bytes) = count

-- How many of these files have no byte.
abbrev pub empties : List (List ℕ × List ℕ) → ℕ
empties [] = 0
empties (file ∷ files) = empties_after (empties files) file.1

-- How many of the pieces had no byte.
abbrev pub empties_given : GivenBytes → ℕ
empties_given given = empties (files_given given.pieces)

-- The names and bytes of the files that were given, after a fetch of this name: its room comes last where it answered Ok.
abbrev pub given_after : List (List ℕ × List ℕ) → List ℕ → List ℕ → {E T : Type 0} → Result T E → List (List ℕ × List ℕ)
given_after given name room (Ok _) = given ++ (name, room) ∷ []
given_after given name room (Err _) = given

-- The bytes that a source gave, after a take: as many of the room as it answered come last.
abbrev pub taken_after : List ℕ → List ℕ → {E : Type 0} → Result ℕ E → List ℕ
taken_after given room (Ok count) = given ++ take count room
taken_after given room (Err _) = given

-- How many takes have said that a source ends, after a take: one that answers without a byte does.
abbrev pub ends_after : ℕ → List ℕ → {E : Type 0} → Result ℕ E → ℕ
ends_after ends room (Ok count) = empties_after ends (take count room)
ends_after ends room (Err _) = ends
