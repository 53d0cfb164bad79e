-- What is known of the items that can stand at each joint.
use Rattle.std.specs.Prelude.{ℕ, ◌<◌, ◌≤◌, ◌≡◌, Bool, true, false, List, [], Contains, length, slice_index_or, refl}
use Rattle.std.specs.Coded.{Coded, code_by, coded×, coded_bool, coded_list}
use Rattle.reo_values.specs.declared.value.Value.{Value}
use Rattle.reo_net_base.specs.Net.{Net}
use Rattle.reo_joint_values.specs.Standing.{giver_of, Brings, CanStand}
use Rattle.reo_joint_values.specs.Many.{AreDistinct}

-- What contracts see of a supply: a list of items for each joint, and a mark of those where more
-- than 256 items can stand.
pub record Supplied : Type 0 where
  pub items : List (List Value)
  pub wide : List Bool

-- A supply is stored as the pair of its fields.
abbrev pub supplied_code : Coded Value → Coded Supplied
supplied_code code =
    code_by (List (List Value) × List Bool)
    (coded× (coded_list (coded_list code)) (coded_list coded_bool)) (λ s. (s.items, s.wide))
    (λ p. record { items = p.0; wide = p.1 }) (λ _. refl)

-- A supply of these lists and marks.
abbrev pub supplied_of : List (List Value) → List Bool → Supplied
supplied_of items wide = record { items = items; wide = wide }

-- The list of a joint.
abbrev pub items_at : Supplied → ℕ → List Value
items_at supplied j = slice_index_or supplied.items j []

-- The mark of a joint.
abbrev pub is_wide : Supplied → ℕ → Bool
is_wide supplied j = slice_index_or supplied.wide j false

-- A list and a mark for each joint.
pub record HasPlaces (net : Net) (supplied : Supplied) : Type 0 where
  pub one_list : length supplied.items ≡ length net.joints
  pub one_mark : length supplied.wide ≡ length net.joints

-- A directed path from one joint to another: each joint on it brings what some row gives at the
-- next.
pub data Leads (net : Net) : ℕ → ℕ → Type 0 where
  here : (j : ℕ) → Leads net j j
  on : (i k j row : ℕ) → Leads net i k → Brings net (giver_of net j) row k → Leads net i j

-- The joint is not wide, and no directed path leads to it from a wide joint.
abbrev pub IsClear : Net → Supplied → ℕ → Type 0
IsClear net supplied j = (k : ℕ) → Leads net k j → is_wide supplied k ≡ false

-- The list of a joint has items that can stand there, none twice. At a clear joint it has all of
-- them, at most 256; at a wide joint it has more than 256.
pub record IsReached (net : Net) (supplied : Supplied) (j : ℕ) : Type 0 where
  pub sound : (item : Value) → Contains (items_at supplied j) item → CanStand net j item
  pub distinct : AreDistinct (items_at supplied j)
  pub whole : IsClear net supplied j
      → (item : Value) → CanStand net j item → Contains (items_at supplied j) item
  pub many : is_wide supplied j ≡ true → 256 < length (items_at supplied j)
  pub few : IsClear net supplied j → length (items_at supplied j) ≤ 256

-- The supply of a circuit: what is known of each joint.
pub record IsSupply (net : Net) (supplied : Supplied) : Type 0 where
  pub places : HasPlaces net supplied
  pub reached : (j : ℕ) → j < length net.joints → IsReached net supplied j

-- No list has more than 257 items: one more than a joint that is not wide can have.
abbrev pub AreShort : Supplied → Type 0
AreShort supplied = (j : ℕ) → length (items_at supplied j) ≤ 257

-- Two supplies are the same but at some joints.
pub record OthersStay (joints : List ℕ) (old new : Supplied) : Type 0 where
  pub items : (k : ℕ) → (Contains joints k → ⊥) → items_at new k ≡ items_at old k
  pub wide : (k : ℕ) → (Contains joints k → ⊥) → is_wide new k ≡ is_wide old k
