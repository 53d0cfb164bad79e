-- What the real files, sources and sinks stand on, and their counts.
use Rattle.std.specs.Prelude.{ℕ, ◌≡◌, List, [], ◌∷◌, ◌++◌, Option, Result, None, Some, Ok, Err, IfSome}
use Rattle.std.specs.Str.{IsUtf8}
use Rattle.reo_io.specs.Fetches.{Folder, Gives}
use Rattle.reo_io.specs.Given.{bytes_given, empties_given, files_given, names_given}
use Rattle.reo_io.specs.Openings.{last_file, paths_opened}
use Rattle.reo_io.specs.declared.disk_files.DiskFiles.{DiskFiles}
use Rattle.reo_io.specs.declared.files.FetchFault.{FetchFault}
use Rattle.reo_io.specs.declared.files.FetchFault.TheVariants.{TooLong}
use Rattle.reo_io.specs.declared.std_sink.StdSink.{StdSink}
use Rattle.reo_io.specs.declared.std_source.StdSource.{StdSource}

-- Real files are not told.
abbrev pub disk_told : {R File Dir : Type 0} → DiskFiles R File Dir → Option Folder
disk_told files = None

-- The paths that were opened after a fetch of this name: it comes last, where it is a text.
pub record Opens (before now : List (List ℕ)) (name : List ℕ) : Type 0 where
  pub text : IsUtf8 name → now ≡ before ++ name ∷ []
  pub other : (IsUtf8 name → ⊥) → now ≡ before

-- What was read of the file that was opened: the bytes that it had left, where it says what it has left. Without a file
-- nothing was.
abbrev pub IsReadOf : {File T : Type 0} → (File → Option (List ℕ)) → Option File → ℕ → List ℕ → Result T FetchFault → Type 0
IsReadOf left (Some file) limit room result = IfSome (left file) (λ bytes. Gives (Some bytes) limit room result)
IsReadOf left None limit room (Ok _) = ⊥
IsReadOf left None limit room (Err TooLong) = ⊥
IsReadOf left None limit room (Err _) = Unit {0}

-- Bytes come only from the file that the system opened at this name, and none where the name is no text.
pub record WasRead {File T : Type 0} (left : File → Option (List ℕ)) (name : List ℕ) (file : Option File) (limit : ℕ) (room : List ℕ) (result : Result T FetchFault) : Type 0 where
  pub text : IsUtf8 name → IsReadOf left file limit room result
  pub other : (IsUtf8 name → ⊥) → IsReadOf left None limit room result

-- The names whose fetch failed.
abbrev pub disk_failed : {R File Dir : Type 0} → DiskFiles R File Dir → List (List ℕ)
disk_failed files = files.failed

-- The names and bytes of the files that were given.
abbrev pub disk_given : {R File Dir : Type 0} → DiskFiles R File Dir → List (List ℕ × List ℕ)
disk_given files = files_given files.given

-- The names of the files that are longer than their limit.
abbrev pub disk_long : {R File Dir : Type 0} → DiskFiles R File Dir → List (List ℕ)
disk_long files = names_given files.long

-- The paths that were opened.
abbrev pub disk_opened : {R File Dir : Type 0} → DiskFiles R File Dir → List (List ℕ)
disk_opened files = paths_opened files.opened

-- The file of the last of them, where the system opened one.
abbrev pub disk_file : {R File Dir : Type 0} → DiskFiles R File Dir → Option File
disk_file files = last_file files.opened

-- How many fetches there were.
abbrev pub disk_fetches : {R File Dir : Type 0} → DiskFiles R File Dir → ℕ
disk_fetches files = files.fetches

-- The reader of a source.
abbrev pub reader_of : {R : Type 0} → StdSource R → R
reader_of source = source.reader

-- How often the reader has failed.
abbrev pub reader_faults : {R : Type 0} → StdSource R → ℕ
reader_faults source = source.faults

-- The bytes that the reader gave.
abbrev pub reader_given : {R : Type 0} → StdSource R → List ℕ
reader_given source = bytes_given source.given

-- How often the reader gave no byte.
abbrev pub reader_ends : {R : Type 0} → StdSource R → ℕ
reader_ends source = empties_given source.given

-- The writer of a sink.
abbrev pub writer_of : {W : Type 0} → StdSink W → W
writer_of sink = sink.writer

-- The bytes that the writer took.
abbrev pub writer_took : {W : Type 0} → StdSink W → List ℕ
writer_took sink = bytes_given sink.took

-- The bytes that the writer holds back, by what writers of its kind hold back.
abbrev pub writer_held : {W : Type 0} → (W → List ℕ) → StdSink W → List ℕ
writer_held held sink = held (writer_of sink)

-- How often the writer has failed, or took no byte.
abbrev pub writer_faults : {W : Type 0} → StdSink W → ℕ
writer_faults sink = sink.faults
