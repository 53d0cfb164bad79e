-- What a fetch gives, where the files are told.
use Rattle.std.specs.Prelude.{ℕ, zero, suc, ◌≡◌, ◌+◌, ◌%◌, ◌^◌, ◌<◌, ◌≤◌, List, [], ◌∷◌, ◌++◌, length, take, Option, Result, None, Some, Ok, Err, if◌then◌else◌}
use Rattle.std.specs.Option.{option_or}
use Rattle.std.specs.Str.{bytes_eq}
use Rattle.reo_io.specs.declared.files.Named.{Named}
use Rattle.reo_io.specs.declared.files.FetchFault.{FetchFault}
use Rattle.reo_io.specs.declared.files.FetchFault.TheVariants.{Failed, TooLong}

-- Files by their names, and what every other name stands for: an empty file, or none.
pub record Folder : Type 0 where
  pub files : List Named
  pub others : Option (List ℕ)

-- The bytes of the first file of this name.
abbrev pub first_of : List Named → List ℕ → Option (List ℕ)
first_of [] name = None
first_of (file ∷ files) name = if bytes_eq file.name name then Some file.bytes else first_of files name

-- What a name stands for.
abbrev pub file_of : Folder → List ℕ → Option (List ℕ)
file_of folder name = option_or (first_of folder.files name) folder.others

-- Ok gives exactly the bytes, and TooLong the first of them, one more than the limit.
abbrev pub Gives : Option (List ℕ) → ℕ → List ℕ → {T : Type 0} → Result T FetchFault → Type 0
Gives file limit room (Ok _) = file ≡ Some room
Gives file limit room (Err TooLong) = (bytes : List ℕ) × (file ≡ Some bytes) × (limit < length bytes) × (room ≡ take (limit + 1) bytes)
Gives file limit room (Err _) = Unit {0}

-- The same, where the files are told.
abbrev pub Fetches : Option Folder → List ℕ → ℕ → List ℕ → {T : Type 0} → Result T FetchFault → Type 0
Fetches None name limit room result = Unit {0}
Fetches (Some folder) name limit room result = Gives (file_of folder name) limit room result

-- How many bytes stand in the room afterwards: at most the limit, one more where the file is longer, none after another fault.
abbrev pub Holds : ℕ → List ℕ → {T : Type 0} → Result T FetchFault → Type 0
Holds limit room (Ok _) = length room ≤ limit
Holds limit room (Err TooLong) = length room ≡ limit + 1
Holds limit room (Err _) = room ≡ []

-- A count of fetches, modulo 2^64, after so many more.
abbrev pub fetches_after : ℕ → ℕ → ℕ
fetches_after zero count = count
fetches_after (suc more) count = fetches_after more ((count + 1) % 2 ^ 64)

-- The names whose fetch failed, after a fetch of this name.
abbrev pub failed_after : List (List ℕ) → List ℕ → {T : Type 0} → Result T FetchFault → List (List ℕ)
failed_after failed name (Err Failed) = failed ++ name ∷ []
failed_after failed name _ = failed

-- The names of the files that are longer than the limit, after a fetch of this name.
abbrev pub long_after : List (List ℕ) → List ℕ → {T : Type 0} → Result T FetchFault → List (List ℕ)
long_after long name (Err TooLong) = long ++ name ∷ []
long_after long name _ = long
