-- A text that is read as the one file that there is.
use Rattle.std.proofs.Common.{◌≡◌, ℕ, Bool, true, false, ◌≤◌, List, [], ◌∷◌, ◌++◌, length, sym, subst, refl, ◌∙◌, nat_le, arith, ap}
use Rattle.std.proofs.lemmas.Bool.{le-leb}
use Rattle.std.specs.Prelude.{cond, Option, Some, Result, Ok, Err, IfSome}
use Rattle.reo_flatten.specs.declared.last.Flat.{Flat}
use Rattle.reo_io.specs.Fetches.{Folder}
use Rattle.reo_command.specs.Fetched.{AreFetched, AreTold, Content, gone, long, missed, text, unknown}
use Rattle.reo_command.specs.ReadSteps.{IsStoppedBy, circuit_in}
use Rattle.reo_command.specs.Readings.{CircuitStops, IsCircuitText, IsReadAs, IsReadFrom, ReadsCircuit, StopsCheck}
use Rattle.reo_command.specs.Roles.{most_bytes}
use Rattle.reo_command.specs.States.{Change, FilesState}
use Rattle.reo_command.specs.declared.role.Role.{Role}
use Rattle.reo_command.specs.declared.role.Role.TheVariants.{Circuit}
use Rattle.reo_command.specs.declared.stop.Stop.{Stop}
use Rattle.reo_command.specs.declared.stop.Stop.TheVariants.{Missed, TooLong, Refused, NoMemory}
use Rattle.reo_connector.specs.Opening.{IsFlatRead, alone}

-- What the file says where it was told.
abbrev is_text : Content → Bool
is_text gone = false
is_text long = false
is_text (text bytes) = true
is_text unknown = false

abbrev bytes_in : List ℕ → Content → List ℕ
bytes_in other gone = other
bytes_in other long = other
bytes_in other (text bytes) = bytes
bytes_in other unknown = other

short_text : (bytes : List ℕ) (most : ℕ) → length bytes ≤ most
    → cond (nat_le (length bytes) most) (text bytes) long ≡ text bytes
short_text bytes most few = by_test (nat_le (length bytes) most) (le-leb (length bytes) most few) where
  by_test : (b : Bool) → b ≡ true → cond b (text bytes) long ≡ text bytes
  by_test true is = refl
  by_test false is = absurd (cc)

module _ (bytes : List ℕ) (few : length bytes ≤ most_bytes Circuit) where
  -- Its only file is the text, or cannot be had.
  abbrev Told : List Content → Type 0
  Told answers = AreTold (alone bytes) (Circuit ∷ []) ([] ∷ []) answers

  same_text : (other : List ℕ) → cond (nat_le (length bytes) (most_bytes Circuit)) (text bytes) long ≡ text other → bytes ≡ other
  same_text other is = ap (bytes_in bytes) (sym (short_text bytes (most_bytes Circuit) few) ∙ is)

  not_long : cond (nat_le (length bytes) (most_bytes Circuit)) (text bytes) long ≡ long → ⊥
  not_long is = let e : true ≡ false = ap is_text (sym (short_text bytes (most_bytes Circuit) few) ∙ is) in cc

  says : (answers : List Content) (flat : Flat) → Told answers → ReadsCircuit answers (circuit_in flat) → IsCircuitText bytes (circuit_in flat)
  says (text other ∷ []) flat told reads =
      subst (λ (ts : List ℕ). IsCircuitText ts (circuit_in flat)) (sym (same_text other told.0)) reads
  says [] flat told reads = absurd reads
  says (gone ∷ cs) flat told reads = absurd reads
  says (long ∷ cs) flat told reads = absurd reads
  says (unknown ∷ cs) flat told reads = absurd reads
  says (text other ∷ c ∷ cs) flat told reads = absurd reads

  stops : (answers : List Content) (s : Stop) → Told answers → missed ([] ∷ []) answers ≡ [] → StopsCheck answers s → CircuitStops bytes s
  stops (text other ∷ []) s told none stop = subst (λ (ts : List ℕ). CircuitStops ts s) (sym (same_text other told.0)) stop
  stops (long ∷ []) s told none stop = absurd (not_long told.0)
  stops (gone ∷ []) s told none stop = absurd (cc)
  stops (unknown ∷ []) s told none stop = absurd stop
  stops [] s told none stop = absurd stop
  stops (gone ∷ c ∷ cs) s told none stop = absurd stop
  stops (long ∷ c ∷ cs) s told none stop = absurd stop
  stops (text other ∷ c ∷ cs) s told none stop = absurd stop
  stops (unknown ∷ c ∷ cs) s told none stop = absurd stop

  pub read_alone : (files : Change FilesState) (result : Result Flat Stop) → files.old.told ≡ Some (alone bytes)
      → files.old.failed ≡ [] → files.new.failed ≡ []
      → IsReadFrom (λ answers flat. ReadsCircuit answers (circuit_in flat)) StopsCheck (Circuit ∷ []) ([] ∷ []) files result
      → IsFlatRead bytes result
  read_alone files result told_is old_none new_none read = by_result result read.read where
    told : Told read.answers
    told = subst (λ (o : Option Folder). IfSome o (λ folder. AreTold folder (Circuit ∷ []) ([] ∷ []) read.answers)) told_is read.fetched.told

    none : missed ([] ∷ []) read.answers ≡ []
    none = sym (subst (λ (xs : List (List ℕ)). files.new.failed ≡ xs ++ missed ([] ∷ []) read.answers) old_none read.fetched.failed) ∙ new_none

    by_result : (r : Result Flat Stop) → IsReadAs (λ answers flat. ReadsCircuit answers (circuit_in flat)) StopsCheck read.answers r → IsFlatRead bytes r
    by_result (Ok flat) h = says read.answers flat told h
    by_result (Err NoMemory) h = tt
    by_result (Err (Missed role)) h = stops read.answers (Missed role) told none h
    by_result (Err (TooLong role)) h = stops read.answers (TooLong role) told none h
    by_result (Err (Refused role refusal)) h = stops read.answers (Refused role refusal) told none h
