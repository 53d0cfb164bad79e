-- What the objects that never fail hold.
use Rattle.std.specs.Prelude.{ℕ, List, [], Option, Some, None, if◌then◌else◌}
use Rattle.reo_io.specs.Fetches.{Folder}
use Rattle.reo_io.specs.Given.{bytes_given, empties_given, files_given, names_given}
use Rattle.reo_io.specs.declared.sure_files.SureFiles.{SureFiles}
use Rattle.reo_io.specs.declared.sure_sink.SureSink.{SureSink}
use Rattle.reo_io.specs.declared.sure_source.SureSource.{SureSource}

-- The files, where every other name stands for an empty file.
abbrev pub sure_files : SureFiles → Folder
sure_files files = record { files = files.files; others = Some [] }

-- The names and bytes of the files that were given.
abbrev pub sure_files_given : SureFiles → List (List ℕ × List ℕ)
sure_files_given files = files_given files.given

-- The names of the files that are longer than their limit.
abbrev pub sure_files_long : SureFiles → List (List ℕ)
sure_files_long files = names_given files.long

-- How many fetches there were.
abbrev pub sure_fetches : SureFiles → ℕ
sure_fetches files = files.fetches

-- The bytes left in a source.
abbrev pub sure_left : SureSource → List ℕ
sure_left source = source.bytes

-- The bytes that a source gave.
abbrev pub sure_given : SureSource → List ℕ
sure_given source = bytes_given source.given

-- How often a source gave no byte.
abbrev pub sure_ends : SureSource → ℕ
sure_ends source = empties_given source.given

-- The bytes that a sink has kept.
abbrev pub sure_kept : SureSink → List ℕ
sure_kept sink = sink.kept.items

-- How many more bytes it has room for.
abbrev pub sure_room : SureSink → ℕ
sure_room sink = sink.kept.room

-- The bytes so far, which it tells until one of them found no room.
abbrev pub sure_told : SureSink → Option (List ℕ)
sure_told sink = if sink.whole then Some sink.kept.items else None
