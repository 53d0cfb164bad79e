-- What the marks of a value say of it.
use Rattle.std.proofs.Common.{◌≡◌, ◌≢◌, ◌⊎◌, inl, inr, ℕ, None, refl}
use Rattle.reo_net_base.specs.declared.mark.Mark.TheVariants.{F}
use Rattle.reo_joint_values.specs.declared.value.JointValue.{JointValue}
use Rattle.reo_joint_values.specs.declared.value.JointValue.TheVariants.{Flow, RG, GR, GG, Jam}
use Rattle.reo_joint_values.specs.Values.{giver_mark, taker_mark, Names, item_named}

-- A value without flow has no item.
pub no_item : (names : Names) (j : ℕ) (v : JointValue) → taker_mark v ≢ F → item_named names j v ≡ None
no_item names j (Flow n) still = absurd (still refl)
no_item names j RG still = refl
no_item names j GR still = refl
no_item names j GG still = refl
no_item names j Jam still = refl

-- A value whose mark is flow has a number.
pub flow_number : (v : JointValue) → (giver_mark v ≡ F) ⊎ (taker_mark v ≡ F) → (n : ℕ) × (v ≡ Flow n)
flow_number (Flow n) e = (n, refl)
flow_number RG (inl e) = absurd cc
flow_number RG (inr e) = absurd cc
flow_number GR (inl e) = absurd cc
flow_number GR (inr e) = absurd cc
flow_number GG (inl e) = absurd cc
flow_number GG (inr e) = absurd cc
flow_number Jam (inl e) = absurd cc
flow_number Jam (inr e) = absurd cc
