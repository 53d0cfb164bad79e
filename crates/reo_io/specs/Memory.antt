-- What the objects in memory hold.
use Rattle.std.specs.Prelude.{ℕ, List, None}
use Rattle.reo_io.specs.Fetches.{Folder}
use Rattle.reo_io.specs.Given.{bytes_given, empties_given, files_given, names_given}
use Rattle.reo_io.specs.declared.failing_calls.FailingCalls.{FailingCalls}
use Rattle.reo_io.specs.declared.memory_files.MemoryFiles.{MemoryFiles}
use Rattle.reo_io.specs.declared.memory_sink.MemorySink.{MemorySink}
use Rattle.reo_io.specs.declared.memory_source.MemorySource.{MemorySource}

-- The files of a store in memory, where no other name stands for a file.
abbrev pub files_told : MemoryFiles → Folder
files_told files = record { files = files.files; others = None }

-- The names whose fetch failed.
abbrev pub files_failed : MemoryFiles → List (List ℕ)
files_failed files = files.failed

-- The names and bytes of the files that were given.
abbrev pub files_given_so : MemoryFiles → List (List ℕ × List ℕ)
files_given_so files = files_given files.given

-- The names of the files that are longer than their limit.
abbrev pub files_long : MemoryFiles → List (List ℕ)
files_long files = names_given files.long

-- How many fetches there were.
abbrev pub files_fetches : MemoryFiles → ℕ
files_fetches files = files.fetches

-- The calls of the store, and which of them fail.
abbrev pub files_calls : MemoryFiles → FailingCalls
files_calls files = files.calls

-- The bytes left in a source in memory.
abbrev pub source_left : MemorySource → List ℕ
source_left source = source.bytes

-- The bytes that it gave.
abbrev pub source_given : MemorySource → List ℕ
source_given source = bytes_given source.given

-- How often it gave no byte.
abbrev pub source_ends : MemorySource → ℕ
source_ends source = empties_given source.given

-- The most bytes that one call takes.
abbrev pub source_piece : MemorySource → ℕ
source_piece source = source.piece

-- The calls of the source, and which of them fail.
abbrev pub source_calls : MemorySource → FailingCalls
source_calls source = source.calls

-- How often the source has failed.
abbrev pub source_faults : MemorySource → ℕ
source_faults source = source.faults

-- The bytes that a sink in memory has taken.
abbrev pub sink_bytes : MemorySink → List ℕ
sink_bytes sink = sink.kept.items

-- How many more bytes it has room for.
abbrev pub sink_room : MemorySink → ℕ
sink_room sink = sink.kept.room

-- The most bytes that one call takes.
abbrev pub sink_piece : MemorySink → ℕ
sink_piece sink = sink.piece

-- The calls of the sink, and which of them fail.
abbrev pub sink_calls : MemorySink → FailingCalls
sink_calls sink = sink.calls

-- How often the sink has failed.
abbrev pub sink_faults : MemorySink → ℕ
sink_faults sink = sink.faults
