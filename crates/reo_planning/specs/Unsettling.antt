-- Parts that are not settled any more, and what is kept of the others.
use Rattle.std.specs.Prelude.{ℕ, ◌+◌, ◌<◌, ◌≡◌, ◌≢◌, true, false, Bool, List, length, slice_index, slice_index_or}
use Rattle.reo_net_base.specs.Net.{Net, behaviour_at, first_side}
use Rattle.reo_net_base.specs.Shapes.{SameShapes}
use Rattle.reo_net_base.specs.Wired.{IsWired}
use Rattle.reo_net_laws.specs.Knots.{Knotted, AreKnots}
use Rattle.reo_planning.specs.declared.kept.Kept.{Kept}
use Rattle.reo_planning.specs.Keeping.{is_settled, is_moving, IsKept}

-- No part is settled that was not, and all else stays.
pub record AreFewer (old new : Kept) : Type 0 where
  pub rows : new.rows ≡ old.rows
  pub moving : new.moving ≡ old.moving
  pub budget : new.budget ≡ old.budget
  pub one_each : length new.settled ≡ length old.settled
  pub fewer : (k : ℕ) → is_settled new k ≡ true → is_settled old k ≡ true

-- The part of a side of a primitive.
abbrev pub part_at : Net → Knotted → ℕ → ℕ → ℕ
part_at net knots primitive side =
    slice_index knots.numbers (first_side net.primitives primitive + side)

-- The parts of the first n sides of a primitive are not settled.
abbrev pub AreUnsettled : Net → Knotted → ℕ → ℕ → Kept → Type 0
AreUnsettled net knots primitive n kept = (side : ℕ) → side < n
    → is_settled kept (part_at net knots primitive side) ≡ false

-- No side of a primitive is of a part.
abbrev pub IsApart : Net → Knotted → ℕ → ℕ → Type 0
IsApart net knots primitive k = (side : ℕ) → side < (behaviour_at net.primitives primitive).sides
    → part_at net knots primitive side ≢ k

-- The parts of the sides of a primitive are not settled any more, and those that were settled and
-- have none of its sides still are.
pub record IsUnsettled (net : Net) (knots : Knotted) (primitive : ℕ) (old new : Kept)
    : Type 0 where
  pub fewer : AreFewer old new
  pub gone : AreUnsettled net knots primitive (behaviour_at net.primitives primitive).sides new
  pub stay : (k : ℕ) → IsApart net knots primitive k → is_settled old k ≡ true
      → is_settled new k ≡ true

-- The parts of the sides of those of the first n primitives of which something holds are not
-- settled any more, and those that were settled and have none of their sides still are.
pub record AreUnsettledWhere (net : Net) (knots : Knotted) (holds : ℕ → Type 0) (n : ℕ)
    (old new : Kept) : Type 0 where
  pub fewer : AreFewer old new
  pub gone : (i : ℕ) → i < n → holds i
      → AreUnsettled net knots i (behaviour_at net.primitives i).sides new
  pub stay : (k : ℕ) → ((i : ℕ) → i < n → holds i → IsApart net knots i k)
      → is_settled old k ≡ true → is_settled new k ≡ true

-- A primitive is marked.
abbrev pub IsMarked : List Bool → ℕ → Type 0
IsMarked marks i = slice_index_or marks i false ≡ true

-- A primitive is marked and has two sides.
abbrev pub IsMarkedBetween : Net → List Bool → ℕ → Type 0
IsMarkedBetween net marks i = IsMarked marks i × ((behaviour_at net.primitives i).sides ≡ 2)

-- None of the first n primitives that is marked has a side of a part.
abbrev pub AreApart : Net → Knotted → List Bool → ℕ → ℕ → Type 0
AreApart net knots marks n k = (i : ℕ) → i < n → IsMarked marks i → IsApart net knots i k

-- Just the parts of the sides of the first n primitives that are marked are not settled any more.
abbrev pub AreMarkedUnsettled : Net → Knotted → List Bool → ℕ → Kept → Kept → Type 0
AreMarkedUnsettled net knots marks n old new =
    AreUnsettledWhere net knots (IsMarked marks) n old new

-- Just the parts of the sides of the first n primitives that are marked and have two sides are not
-- settled any more.
abbrev pub AreBetweenUnsettled : Net → Knotted → List Bool → ℕ → Kept → Kept → Type 0
AreBetweenUnsettled net knots marks n old new =
    AreUnsettledWhere net knots (IsMarkedBetween net marks) n old new

-- The parts that may move are not settled any more, and the others that were settled still are.
pub record AreMovingUnsettled (old new : Kept) : Type 0 where
  pub fewer : AreFewer old new
  pub still : (k : ℕ) → is_settled new k ≡ true → is_moving new k ≡ false
  pub stay : (k : ℕ) → is_moving old k ≡ false → is_settled old k ≡ true
      → is_settled new k ≡ true

-- A circuit of the same shape that is another at no primitive of a settled part.
pub record IsElsewhere (net other : Net) (knots : Knotted) (kept : Kept) : Type 0 where
  pub joints : other.joints ≡ net.joints
  pub shapes : SameShapes net.primitives other.primitives
  pub same : (i side : ℕ) → i < length net.primitives
      → side < (behaviour_at net.primitives i).sides
      → is_settled kept (part_at net knots i side) ≡ true
      → behaviour_at other.primitives i ≡ behaviour_at net.primitives i

-- What is kept stays right where a circuit changes at no primitive of a part that is still settled.
abbrev pub KeptElsewhere : Type 0
KeptElsewhere = (net other : Net) → IsWired net → IsWired other
    → (knots : Knotted) → AreKnots net knots → (turn : ℕ) (old new : Kept)
    → IsKept net knots turn old → AreFewer old new → IsElsewhere net other knots new
    → IsKept other knots turn new

-- What is kept stays right in each round where no part that is still settled moves.
abbrev pub KeptLater : Type 0
KeptLater = (net : Net) → IsWired net → (knots : Knotted) (turn later : ℕ) (old new : Kept)
    → IsKept net knots turn old → AreMovingUnsettled old new → IsKept net knots later new

-- The knots of a circuit are those of each circuit of the same shape.
abbrev pub KnotsStay : Type 0
KnotsStay = (old new : Net) → IsWired old → new.joints ≡ old.joints
    → SameShapes old.primitives new.primitives
    → (knots : Knotted) → AreKnots old knots → AreKnots new knots
