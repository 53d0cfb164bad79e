-- Where the sides of primitives stand among all sides.
use Rattle.std.specs.Prelude.{ℕ, ◌+◌, ◌<◌, ◌≡◌, List, length, slice_index_or}
use Rattle.reo_net_base.specs.Behaviour.{Behaviour}
use Rattle.reo_net_base.specs.Net.{all_sides, first_side, behaviour_at}
use Rattle.reo_net_circuit.specs.declared.layout.SideOwner.{SideOwner}

abbrev pub side_owner_at : ℕ → ℕ → SideOwner
side_owner_at primitive side = record { primitive = primitive; side = side }

-- The primitive and the side of each side.
pub record AreOwners (bs : List Behaviour) (owners : List SideOwner) : Type 0 where
  pub owner_in : (k : ℕ) (d : SideOwner) → k < length owners → (slice_index_or owners k d).primitive < length bs
  pub owner_side : (k : ℕ) (d : SideOwner) → k < length owners → (slice_index_or owners k d).side < (behaviour_at bs (slice_index_or owners k d).primitive).sides
  pub owner : (k : ℕ) (d : SideOwner) → k < length owners → k ≡ first_side bs (slice_index_or owners k d).primitive + (slice_index_or owners k d).side

-- The first sides of the first primitives.
pub record AreFirsts (bs : List Behaviour) (firsts : List ℕ) (n : ℕ) : Type 0 where
  pub length_is : length firsts ≡ n
  pub first : (i d : ℕ) → i < n → slice_index_or firsts i d ≡ first_side bs i

-- Two tables: the first side of each primitive, and the primitive of each side.
pub record IsLaidOut (bs : List Behaviour) (firsts : List ℕ) (owners : List SideOwner) : Type 0 where
  pub first_sides : AreFirsts bs firsts (length bs)
  pub owners_length : length owners ≡ length (all_sides bs)
  pub whose : AreOwners bs owners
