-- Lists of numbers.
use Rattle.std.specs.Prelude.{ℕ, ◌<◌, ◌≡◌, ◌≢◌, List, [], ◌∷◌, ◌++◌, length, slice_index, slice_index_or}

-- A number stands in a list.
abbrev pub StandsIn : List ℕ → ℕ → Type 0
StandsIn list k = (m : ℕ) × (m < length list) × (slice_index list m ≡ k)

-- A list of exactly the numbers of which something holds.
pub record Lists (holds : ℕ → Type 0) (list : List ℕ) : Type 0 where
  pub sound : (m : ℕ) → m < length list → holds (slice_index list m)
  pub whole : (k : ℕ) → holds k → StandsIn list k

-- No number stands twice in a list.
abbrev pub AreOnce : List ℕ → Type 0
AreOnce list = (m n : ℕ) → m < n → n < length list → slice_index list m ≢ slice_index list n

-- So many lists, all empty.
pub record AreEmpty (count : ℕ) (lists : List (List ℕ)) : Type 0 where
  pub one_each : length lists ≡ count
  pub empty : (k : ℕ) → slice_index_or lists k [] ≡ []

-- A number came at the end of one of the lists.
pub record IsAdded (old new : List (List ℕ)) (place number : ℕ) : Type 0 where
  pub one_each : length new ≡ length old
  pub here : slice_index_or new place [] ≡ slice_index_or old place [] ++ number ∷ []
  pub other : (k : ℕ) → k ≢ place → slice_index_or new k [] ≡ slice_index_or old k []
