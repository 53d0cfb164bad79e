-- The weights of parts: how many choices of values their loop joints have.
use Rattle.std.specs.Prelude.{ℕ, ◌*◌, ◌<◌, ◌≡◌, ◌≢◌, ◌↔◌, Bool, true, Some, is_some, List, [], ◌∷◌, Contains, length, map, min, slice_index, slice_index_or}
use Rattle.reo_values.specs.declared.value.Value.{Value}
use Rattle.reo_net_base.specs.Net.{Net}
use Rattle.reo_net_laws.specs.Knots.{IsLoop, AreThose}
use Rattle.reo_joint_values.specs.Standing.{CanStand}
use Rattle.reo_joint_values.specs.Many.{IsJointIn}
use Rattle.reo_joint_values.specs.declared.value.JointValue.{JointValue}
use Rattle.reo_joint_values.specs.declared.value.JointValue.TheVariants.{Flow, RG, GR, GG, Jam}
use Rattle.reo_joint_values.specs.Values.{Names, Family}
use Rattle.reo_joint_values.specs.Supported.{IsInGreatest}

-- Numbers for the items that can stand at the joints of a set of sides: at each joint each of them has one number, and nothing else
-- has one.
pub record AreNamed (net : Net) (inside : ℕ → Bool) (names : Names) : Type 0 where
  pub sound : (j n : ℕ) (item : Value) → IsJointIn net inside j → names j n ≡ Some item → CanStand net j item
  pub whole : (j : ℕ) (item : Value) → IsJointIn net inside j → CanStand net j item → (n : ℕ) × (names j n ≡ Some item)
  pub once : (j m n : ℕ) (item : Value) → IsJointIn net inside j → names j m ≡ Some item → names j n ≡ Some item → m ≡ n

-- All values of joints: flow with an item that has a number, and the four without flow.
abbrev pub all_values : Names → Family
all_values names j (Flow n) = is_some (names j n)
all_values names j RG = true
all_values names j GR = true
all_values names j GG = true
all_values names j Jam = true

-- The values that are supported at a joint, each once.
pub record AreSupported (net : Net) (names : Names) (inside : ℕ → Bool) (j : ℕ) (values : List JointValue) : Type 0 where
  pub exact : (v : JointValue) → Contains values v ↔ IsInGreatest net names inside (all_values names) j v
  pub once : (m n : ℕ) → m < n → n < length values → (d : JointValue) → slice_index_or values m d ≢ slice_index_or values n d

-- The product of numbers.
abbrev pub product_of : List ℕ → ℕ
product_of [] = 1
product_of (n ∷ ns) = n * product_of ns

-- The greatest weight: what would be more counts as this.
abbrev pub capped : ℕ → ℕ
capped n = min n 1000000000000000000

-- The weight of a set of sides: the product over its loop joints of the numbers of values supported there.
pub record IsWeight (net : Net) (inside : ℕ → Bool) (weight : ℕ) : Type 0 where
  pub names : Names
  pub named : AreNamed net inside names
  pub loops : List ℕ
  pub are_loops : AreThose (λ j. IsJointIn net inside j × IsLoop net j) loops
  pub values : List (List JointValue)
  pub one_each : length values ≡ length loops
  pub supported : (m : ℕ) → m < length loops → AreSupported net names inside (slice_index loops m) (slice_index_or values m [])
  pub is : weight ≡ capped (product_of (map length values))
