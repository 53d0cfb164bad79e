-- Files and sinks in one state, and what a call did to them.
use Rattle.std.specs.Prelude.{ℕ, List, [], Option, None}
use Rattle.reo_io.specs.Fetches.{Folder}

-- A sink: the bytes that it has got, where it tells them, and how often it has failed.
pub record SinkState : Type 0 where
  pub told : Option (List ℕ)
  pub faults : ℕ

-- Files: what they are, where they are told, the names whose fetch failed, the names and bytes of those that were given, the
-- names of those that are longer than their limit, and the count of fetches.
pub record FilesState : Type 0 where
  pub told : Option Folder
  pub failed : List (List ℕ)
  pub given : List (List ℕ × List ℕ)
  pub long : List (List ℕ)
  pub fetches : ℕ

-- Files of the system, of which none was fetched yet.
abbrev pub unfetched : FilesState
unfetched = record { told = None; failed = []; given = []; long = []; fetches = 0 }

-- The state before a call, and the one after it.
pub record Change (X : Type 0) : Type 0 where
  pub old : X
  pub new : X

-- A sink before and after a call.
abbrev pub sink_change : {S : Type 0} → (S → Option (List ℕ)) → (S → ℕ) → S → S → Change SinkState
sink_change told faults a b = record {
  old = record { told = told a; faults = faults a };
  new = record { told = told b; faults = faults b };
}

-- Files before and after a call.
abbrev pub files_change : {F : Type 0} → (F → Option Folder) → (F → List (List ℕ)) → (F → List (List ℕ × List ℕ)) → (F → List (List ℕ)) → (F → ℕ) → F → F → Change FilesState
files_change told failed given long fetches a b = record {
  old = record { told = told a; failed = failed a; given = given a; long = long a; fetches = fetches a };
  new = record { told = told b; failed = failed b; given = given b; long = long b; fetches = fetches b };
}
