-- Arrows between numbered sides: arrow j goes from side `from j` to side `to j`.
use Rattle.std.specs.Prelude.{ℕ, ◌<◌, ◌≡◌, ◌≢◌, ◌↔◌, ◌⊎◌, List, [], ◌∷◌, length, slice_index}

-- From a side along arrows to a side: the first starts there, each other one where the one before it ends.
abbrev pub Walk : List ℕ → List ℕ → ℕ → List ℕ → ℕ → Type 0
Walk from to side [] last = side ≡ last
Walk from to side (j ∷ js) last = (j < length from) × (slice_index from j ≡ side) × Walk from to (slice_index to j) js last

-- From the end of the one arrow there is a way to the start of the other.
pub record Leads (from to : List ℕ) (j k : ℕ) : Type 0 where
  pub by : List ℕ
  pub walk : Walk from to (slice_index to j) by (slice_index from k)

-- An arrow on a directed cycle: it leads back to itself.
abbrev pub OnCycle : List ℕ → List ℕ → ℕ → Type 0
OnCycle from to j = (j < length from) × Leads from to j j

-- The least arrow on a directed cycle.
pub record IsLeastOnCycle (from to : List ℕ) (j : ℕ) : Type 0 where
  pub on_cycle : OnCycle from to j
  pub least : (k : ℕ) → k < j → OnCycle from to k → ⊥

-- Some arrow lies on a directed cycle.
abbrev pub HasCycle : List ℕ → List ℕ → Type 0
HasCycle from to = (j : ℕ) × OnCycle from to j

-- No arrow lies on a directed cycle.
abbrev pub NoCycle : List ℕ → List ℕ → Type 0
NoCycle from to = (j : ℕ) → OnCycle from to j → ⊥

-- Each arrow stands behind those that feed it, which end where it starts.
abbrev pub AreFed : List ℕ → List ℕ → List ℕ → Type 0
AreFed from to order = (m : ℕ) → m < length order → (k : ℕ) → k < length from → slice_index to k ≡ slice_index from (slice_index order m)
    → (n : ℕ) × (n < m) × (slice_index order n ≡ k)

-- All arrows, each once, and each behind those that feed it.
pub record IsTopological (from to order : List ℕ) : Type 0 where
  pub in_range : (m : ℕ) → m < length order → slice_index order m < length from
  pub each : (j : ℕ) → j < length from → (m : ℕ) × (m < length order) × (slice_index order m ≡ j)
  pub once : (m n : ℕ) → m < n → n < length order → slice_index order m ≢ slice_index order n
  pub fed : AreFed from to order

-- The same cycles by sides alone. An arrow from the one side to the other.
abbrev pub Joined : List ℕ → List ℕ → ℕ → ℕ → Type 0
Joined from to a b = (j : ℕ) × (j < length from) × (slice_index from j ≡ a) × (slice_index to j ≡ b)

-- From a side through sides to a side, each joined to the next.
abbrev pub Chain : List ℕ → List ℕ → ℕ → List ℕ → ℕ → Type 0
Chain from to a [] z = Joined from to a z
Chain from to a (b ∷ sides) z = Joined from to a b × Chain from to b sides z

-- A list of sides, not empty, each joined to the next and the last to the first.
abbrev pub IsDirectedCycle : List ℕ → List ℕ → List ℕ → Type 0
IsDirectedCycle from to [] = ⊥
IsDirectedCycle from to (a ∷ sides) = Chain from to a sides a

-- The side behind the first of a cycle, which is the first itself where it is the only one.
abbrev pub second : ℕ → List ℕ → ℕ
second a [] = a
second a (b ∷ sides) = b

-- An arrow from the first side of a directed cycle to the next.
pub record LiesOn (from to : List ℕ) (j : ℕ) : Type 0 where
  pub in_range : j < length from
  pub others : List ℕ
  pub cycle : IsDirectedCycle from to (slice_index from j ∷ others)
  pub next : slice_index to j ≡ second (slice_index from j) others

-- Both definitions of a cycle agree.
abbrev pub CycleBySides : Type 0
CycleBySides = (from to : List ℕ) (j : ℕ) → OnCycle from to j ↔ LiesOn from to j

-- Arrows that stand in an order are on no cycle.
abbrev pub OrderHasNoCycle : Type 0
OrderHasNoCycle = (from to order : List ℕ) → IsTopological from to order → NoCycle from to

-- There is an order of all arrows, or some arrow lies on a directed cycle.
abbrev pub OrderExists : Type 0
OrderExists = (from to : List ℕ) → ((order : List ℕ) × IsTopological from to order) ⊎ HasCycle from to
