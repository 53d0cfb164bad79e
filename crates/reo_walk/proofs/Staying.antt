-- A side that can do without some rows stays at rest.
use Rattle.std.proofs.Common.{◌≡◌, ◌≢◌, ℕ, ◌<◌, true, length}
use Rattle.reo_net_base.specs.Net.{Net}
use Rattle.reo_net_base.specs.Wired.{IsWired}
use Rattle.reo_joint_values.specs.declared.value.JointValue.{JointValue}
use Rattle.reo_joint_values.specs.declared.value.JointValue.TheVariants.{Flow}
use Rattle.reo_joint_values.specs.Values.{Names, Family, AtSide}
use Rattle.reo_rows.specs.declared.rows.Rows.{Rows}
use Rattle.reo_rows.specs.Rows.{IsSpared}
use Rattle.reo_side_tables.specs.Marks.{IsJointOf}
use Rattle.reo_rows.proofs.Staying.{stays_sifted, stays_settled}
use Rattle.reo_propagate.specs.Narrow.{IsAtRest}

pub stays_at_rest : (net : Net) → IsWired net → (names : Names) (old new : Family) (side joint : ℕ) (rows_old rows_new : Rows) → IsJointOf net side joint → ((j : ℕ) (v : JointValue) → new j v ≡ true → old j v ≡ true)
    → ((j n : ℕ) → j < length net.joints → AtSide net j side → new j (Flow n) ≡ old j (Flow n))
    → ((j : ℕ) (v : JointValue) → j < length net.joints → AtSide net j side → j ≢ joint → new j v ≡ old j v)
    → IsAtRest net names old side rows_old → IsSpared net new side joint rows_old rows_new → IsAtRest net names new side rows_new
stays_at_rest net wired names old new side joint rows_old rows_new of less flows elsewhere rest spared = record {
  sifted = stays_sifted net wired names old new side joint rows_old rows_new of less flows elsewhere rest.sifted rest.settled spared;
  settled = stays_settled net wired names old new side joint rows_old rows_new of less flows elsewhere rest.sifted rest.settled spared;
}
