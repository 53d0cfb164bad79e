-- What a source was for whoever hears it.
use Rattle.std.specs.Prelude.{ℕ, ◌≡◌, ◌≤◌, ◌<◌, ◌++◌, ◌^◌, Bool, true, false, List, [], Option, Some, None, IfSome, Result}
use Rattle.std.specs.Option.{unwrap_or}
use Rattle.reo_io.specs.Causes.{Rose}
use Rattle.reo_io.specs.Given.{ends_after, taken_after}
use Rattle.reo_io.specs.Sources.{Takes}

-- A source: the bytes left, where it tells them, those that it gave, how often it has said that it ends, and how often it has
-- failed.
pub record SourceState : Type 0 where
  pub told : Option (List ℕ)
  pub given : List ℕ
  pub ends : ℕ
  pub faults : ℕ

-- The state before a call, and the one after it.
pub record SourceChange : Type 0 where
  pub old : SourceState
  pub new : SourceState

abbrev pub source_change : {R : Type 0} → (R → Option (List ℕ)) → (R → List ℕ) → (R → ℕ) → (R → ℕ) → R → R → SourceChange
source_change told given ends faults a b = record {
  old = record { told = told a; given = given a; ends = ends a; faults = faults a };
  new = record { told = told b; given = given b; ends = ends b; faults = faults b };
}

-- The bytes of a source, and whether a take failed behind them.
pub record Events : Type 0 where
  pub bytes : List ℕ
  pub failed : Bool

-- These events, where more bytes follow.
abbrev pub followed : Events → List ℕ → Events
followed events more = record { bytes = events.bytes ++ more; failed = events.failed }

-- A source has said that it ends.
abbrev pub SaidEnd : SourceChange → Type 0
SaidEnd source = source.old.ends < source.new.ends

-- The most bytes that are heard.
abbrev pub most_events : ℕ
most_events = 2 ^ 32

-- Bytes were taken from the front of these events, and they are what the source gave: all of them where a take failed, whose
-- cause is in the count of faults, and where the source tells nothing. Where it tells its bytes, the events are these unless a take
-- failed, and the bytes left are told.
pub record AreTaken (events : Events) (source : SourceChange) : Type 0 where
  pub taken : List ℕ
  pub rest : List ℕ
  pub front : events.bytes ≡ taken ++ rest
  pub fault : events.failed ≡ true → (rest ≡ []) × Rose source.old.faults source.new.faults
  pub untold : source.old.told ≡ None → rest ≡ []
  pub later : source.old.faults ≤ source.new.faults
  pub given : source.new.given ≡ source.old.given ++ taken
  pub told : IfSome source.old.told (λ bytes. (left : List ℕ) × (bytes ≡ taken ++ left)
      × (source.new.told ≡ Some left) × (events.failed ≡ false → events.bytes ≡ bytes))

-- These bytes were taken from a source that was so: it gave them, and no others. Where it has said that it ends, they are all that
-- it told.
pub record AreTakenSoFar (old new : SourceState) (bytes : List ℕ) : Type 0 where
  pub later : old.faults ≤ new.faults
  pub ends_later : old.ends ≤ new.ends
  pub ended : old.ends < new.ends → IfSome old.told (λ all. all ≡ bytes)
  pub given : new.given ≡ old.given ++ bytes
  pub told : IfSome old.told (λ all. (left : List ℕ) × (all ≡ bytes ++ left) × (new.told ≡ Some left))

-- A source by what it tells, what it gave, how often it has said that it ends, and how often it has failed.
abbrev pub state_of : {R : Type 0} → (R → Option (List ℕ)) → (R → List ℕ) → (R → ℕ) → (R → ℕ) → R → SourceState
state_of told given ends faults source = record { told = told source; given = given source; ends = ends source; faults = faults source }

-- What one take did to a source: to the bytes that it tells, to those that it gave, and to how often it has said that it ends.
abbrev pub IsTake : {E : Type 0} → SourceState → SourceState → List ℕ → Result ℕ E → Type 0
IsTake old new room result = Takes old.told new.told room result × (new.given ≡ taken_after old.given room result)
    × (new.ends ≡ ends_after old.ends room result)

-- The bytes of a source of which nothing was taken, where it tells them.
abbrev pub untaken : SourceState → Events
untaken state = record { bytes = unwrap_or state.told []; failed = false }
