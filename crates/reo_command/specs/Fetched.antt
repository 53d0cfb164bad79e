-- What the fetches of a command answered.
use Rattle.std.specs.Prelude.{ℕ, ◌≡◌, ◌++◌, ◌≤◌, ◌<◌, ◌^◌, nat_le, cond, Bool, true, false, List, [], ◌∷◌, Option, Some, None, Result, Ok, Err, IfSome, length}
use Rattle.reo_io.specs.Fetches.{Folder, file_of, fetches_after}
use Rattle.reo_command.specs.declared.role.Role.{Role}
use Rattle.reo_command.specs.declared.stop.Stop.{Stop}
use Rattle.reo_command.specs.declared.stop.Stop.TheVariants.{Missed, TooLong, Refused, NoMemory}
use Rattle.reo_command.specs.Roles.{most_bytes}
use Rattle.reo_command.specs.States.{FilesState, Change}

-- What a fetch answered: that the file cannot be had, that it is too long, its bytes, or that memory ran out.
pub data Content : Type 0 where
  gone : Content
  long : Content
  text : List ℕ → Content
  unknown : Content

-- What the file of a role is.
abbrev pub content_of : Role → Option (List ℕ) → Content
content_of role None = gone
content_of role (Some bytes) = cond (nat_le (length bytes) (most_bytes role)) (text bytes) long

-- The answer is the file, where it gives bytes or says that it is too long.
abbrev pub IsTold : Content → Content → Type 0
IsTold file gone = Unit {0}
IsTold file long = file ≡ long
IsTold file (text bytes) = file ≡ text bytes
IsTold file unknown = Unit {0}

-- The answers are the first files of these roles and names.
abbrev pub AreTold : Folder → List Role → List (List ℕ) → List Content → Type 0
AreTold folder roles names [] = Unit {0}
AreTold folder [] names (c ∷ cs) = ⊥
AreTold folder (r ∷ rs) [] (c ∷ cs) = ⊥
AreTold folder (r ∷ rs) (n ∷ ns) (c ∷ cs) = IsTold (content_of r (file_of folder n)) c × AreTold folder rs ns cs

-- The names of files that cannot be had.
abbrev pub missed : List (List ℕ) → List Content → List (List ℕ)
missed [] cs = []
missed (n ∷ ns) [] = []
missed (n ∷ ns) (gone ∷ cs) = n ∷ missed ns cs
missed (n ∷ ns) (long ∷ cs) = missed ns cs
missed (n ∷ ns) (text bytes ∷ cs) = missed ns cs
missed (n ∷ ns) (unknown ∷ cs) = missed ns cs

-- The names and bytes of the files that were given whole.
abbrev pub texts_given : List (List ℕ) → List Content → List (List ℕ × List ℕ)
texts_given [] cs = []
texts_given (n ∷ ns) [] = []
texts_given (n ∷ ns) (gone ∷ cs) = texts_given ns cs
texts_given (n ∷ ns) (long ∷ cs) = texts_given ns cs
texts_given (n ∷ ns) (text bytes ∷ cs) = (n, bytes) ∷ texts_given ns cs
texts_given (n ∷ ns) (unknown ∷ cs) = texts_given ns cs

-- The names of files that are longer than their limit.
abbrev pub long_among : List (List ℕ) → List Content → List (List ℕ)
long_among [] cs = []
long_among (n ∷ ns) [] = []
long_among (n ∷ ns) (gone ∷ cs) = long_among ns cs
long_among (n ∷ ns) (long ∷ cs) = n ∷ long_among ns cs
long_among (n ∷ ns) (text bytes ∷ cs) = long_among ns cs
long_among (n ∷ ns) (unknown ∷ cs) = long_among ns cs

-- Some file cannot be had.
abbrev pub has_gone : List Content → Bool
has_gone [] = false
has_gone (gone ∷ cs) = true
has_gone (long ∷ cs) = has_gone cs
has_gone (text bytes ∷ cs) = has_gone cs
has_gone (unknown ∷ cs) = has_gone cs

-- Texts that were fetched have fewer than 2^63 bytes.
abbrev pub IsShort : Content → Type 0
IsShort gone = Unit {0}
IsShort long = Unit {0}
IsShort (text bytes) = length bytes < 2 ^ 63
IsShort unknown = Unit {0}

abbrev pub AreShort : List Content → Type 0
AreShort [] = Unit {0}
AreShort (c ∷ cs) = IsShort c × AreShort cs

-- A text is within the limit of its role.
abbrev pub IsWithin : Role → Content → Type 0
IsWithin role gone = Unit {0}
IsWithin role long = Unit {0}
IsWithin role (text bytes) = length bytes ≤ most_bytes role
IsWithin role unknown = Unit {0}

-- So is each text among the answers for the first of these roles.
abbrev pub AreWithin : List Role → List Content → Type 0
AreWithin roles [] = Unit {0}
AreWithin [] (c ∷ cs) = ⊥
AreWithin (r ∷ rs) (c ∷ cs) = IsWithin r c × AreWithin rs cs

-- The first files of these roles and names were fetched, in order, with these answers: as many fetches were made as there
-- are answers, the names of those that failed were noted, the texts among the answers are what the fetches gave, those that are
-- too long are what they told to be, and the files tell what they told. Each text is within its limit.
pub record AreFetched (roles : List Role) (names : List (List ℕ)) (answers : List Content) (files : Change FilesState) : Type 0 where
  pub few : length answers ≤ length names
  pub count : files.new.fetches ≡ fetches_after (length answers) files.old.fetches
  pub failed : files.new.failed ≡ files.old.failed ++ missed names answers
  pub given : files.new.given ≡ files.old.given ++ texts_given names answers
  pub long_names : files.new.long ≡ files.old.long ++ long_among names answers
  pub within : AreWithin roles answers
  pub same : files.new.told ≡ files.old.told
  pub told : IfSome files.old.told (λ folder. AreTold folder roles names answers)

-- What the call that fetches one file says of it.
abbrev pub answer_of : Result (List ℕ) Stop → Content
answer_of (Ok bytes) = text bytes
answer_of (Err (Missed role)) = gone
answer_of (Err (TooLong role)) = long
answer_of (Err (Refused role refusal)) = unknown
answer_of (Err NoMemory) = unknown

-- A fetch of the file of a role stops for nothing else than that it cannot be had, is too long, or memory ran out.
abbrev pub IsFetchStop : Role → Result (List ℕ) Stop → Type 0
IsFetchStop role (Ok bytes) = Unit {0}
IsFetchStop role (Err (Missed other)) = other ≡ role
IsFetchStop role (Err (TooLong other)) = other ≡ role
IsFetchStop role (Err (Refused other refusal)) = ⊥
IsFetchStop role (Err NoMemory) = Unit {0}
