-- Paths that were opened, and what the system answered.
use Rattle.std.specs.Prelude.{ℕ, List, Option, Some, None, Result, Ok, Err}
use Rattle.std.specs.declared.snapshot.Snapshot.{Snapshot}
use Rattle.reo_io.specs.Given.{names_given}
use Rattle.reo_io.specs.declared.opening.Openings.{Openings}

-- The paths, one after another.
abbrev pub paths_opened : {F : Type 0} → Openings F → List (List ℕ)
paths_opened openings = names_given openings.paths

-- The file that an answer gives.
abbrev pub file_had : {F E : Type 0} → Result F E → Option F
file_had (Ok file) = Some file
file_had (Err _) = None

-- The same, of an answer that is shown.
abbrev pub file_shown : {F E : Type 0} → Option (Snapshot (Result F E)) → Option F
file_shown None = None
file_shown (Some shown) = file_had shown.value

-- The file of the last path, as it was when it was opened, where the system opened one.
abbrev pub last_file : {F : Type 0} → Openings F → Option F
last_file openings = file_shown openings.last
