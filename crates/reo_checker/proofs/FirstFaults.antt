-- What is first wrong in one way is one.
use Rattle.std.proofs.Common.{◌≡◌, ◌<◌, inl, inr, ℕ, List, Option, None, get_or, arith}
use Rattle.reo_values.specs.declared.value.Value.{Value}
use Rattle.reo_net_base.specs.Net.{Net}
use Rattle.reo_net_laws.proofs.Orders.{no_joint}
use Rattle.std.proofs.lemmas.Bool.{cases_lt}
use Rattle.reo_checker.specs.Faults.{IsJointFault, IsItemFault}
use Rattle.reo_checker.proofs.ExactLemmas.{fails_fits}

-- Numbers of which neither is below the other are one.
pub not_apart : (i k : ℕ) → (i < k → ⊥) → (k < i → ⊥) → i ≡ k
not_apart i k below above =
    elim (cases_lt i k) [
      | inl lt ↦ absurd (below lt)
      | inr le ↦ elim (cases_lt k i) [ inl lt ↦ absurd (above lt) | inr ge ↦ omega (arith, le, ge) ]
    ]

-- Of two first faults at joints, or of items, none stands before the other.
pub joint_earlier : (net : Net) (rows : List ℕ) (i k : ℕ) → IsJointFault net rows i → IsJointFault net rows k → i < k → ⊥
joint_earlier net rows i k a b lt =
    let match = b.before i no_joint lt in
    let clash = a.clashes no_joint in
    cc

pub item_earlier : (net : Net) (rows : List ℕ) (items : List (Option Value)) (i k : ℕ) → IsItemFault net rows items i → IsItemFault net rows items k → i < k → ⊥
item_earlier net rows items i k a b lt = fails_fits net rows items (get_or net.joints i no_joint) (get_or items i None) (a.fails no_joint) (b.before i no_joint lt)
