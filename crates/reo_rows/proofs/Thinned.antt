-- What stays true of the rows of a side where values go.
use Rattle.std.proofs.Common.{◌≡◌, ℕ, true}
use Rattle.reo_net_base.specs.Net.{Net}
use Rattle.reo_net_base.specs.Wired.{IsWired}
use Rattle.reo_joint_values.specs.declared.value.JointValue.{JointValue}
use Rattle.reo_joint_values.specs.Values.{Names, Family}
use Rattle.reo_joint_values.specs.Supported.{IsThinned}
use Rattle.reo_joint_values.proofs.Works.{works_more}
use Rattle.reo_joint_values.proofs.Narrowing.{works_still}
use Rattle.reo_rows.specs.declared.rows.Rows.{Rows}
use Rattle.reo_rows.specs.Rows.{AreLive, IsSifted}

-- Fewer values, fewer rows that work.
pub live_less : (net : Net) (names : Names) (old new : Family) (side : ℕ) (rows : Rows) → ((j : ℕ) (v : JointValue) → new j v ≡ true → old j v ≡ true) → AreLive net names old side rows → AreLive net names new side rows
live_less net names old new side rows less live row works = live row (works_more net names new old side row (λ j v lt at h. less j v h) works)

-- Where only what is not used goes, the same rows work.
pub sifted_thinned : (net : Net) → IsWired net → (names : Names) (old new : Family) (side : ℕ) (rows : Rows) → IsThinned net names side old new → IsSifted net names old side rows → IsSifted net names new side rows
sifted_thinned net wired names old new side rows thinned sifted = record {
  works = live_less net names old new side rows thinned.less sifted.works;
  only = λ row set. works_still net names side old new thinned wired row (sifted.only row set);
  noted = sifted.noted;
}
