-- The numbers of a line that leads on.
use Rattle.std.proofs.Common.{◌≡◌, ℕ, ◌<◌, ◌^◌, List, length, get_or, true, refl, arith}
use Rattle.std.proofs.lemmas.Bool.{lt-ltb, ltb-true}
use Rattle.reo_net_base.specs.Net.{Net}
use Rattle.reo_net_base.specs.Sides.{side_count}
use Rattle.reo_net_base.specs.Wired.{IsWired}
use Rattle.reo_joint_values.specs.declared.value.JointValue.{JointValue}
use Rattle.reo_joint_values.specs.declared.value.JointValue.TheVariants.{Flow, RG, GR, GG, Jam}
use Rattle.reo_joint_values.specs.Values.{Family}
use Rattle.reo_joint_values.proofs.Inside.{side_below}
use Rattle.reo_refute_base.specs.declared.line.LogLine.{LogLine}
use Rattle.reo_refute_base.specs.declared.line.LogLine.TheVariants.{At, Drop, Empty, Split}
use Rattle.reo_refute_base.specs.Items.{Lists, items_at}
use Rattle.reo_refute_base.specs.Live.{all_live}
use Rattle.reo_refute_base.specs.Texts.{IsNumbered, IsValueNumbered}
use Rattle.reo_refute_base.specs.laws.Singles.{IsPartOf}
use Rattle.reo_refute_live.specs.declared.support.live.LiveAt.{LiveAt}
use Rattle.reo_refute_live.specs.support.Families.{family_of, none_gone, AreLive}
use Rattle.reo_refute_live.proofs.support.LiveLemmas.{flag_in}
use Rattle.reo_refute.specs.next.Next.{LeadsOn}
use Rattle.reo_refute.specs.proving.Making.{AreFew}

pub part_of : (lists : Lists) (table : List LiveAt) → AreLive lists table → IsPartOf (family_of table) (all_live lists)
part_of lists table are j (Flow n) h = lt-ltb n (length (items_at lists j)) (omega (arith, flag_in (get_or table j none_gone).flows n h, are.flags j))
part_of lists table are j RG h = refl
part_of lists table are j GR h = refl
part_of lists table are j GG h = refl
part_of lists table are j Jam h = refl

pub value_numbered : (lists : Lists) → AreFew lists → (j : ℕ) (v : JointValue) → all_live lists j v ≡ true → IsValueNumbered v
value_numbered lists few j (Flow n) h = omega (arith, ltb-true n (length (items_at lists j)) h, few j)
value_numbered lists few j RG h = tt
value_numbered lists few j GR h = tt
value_numbered lists few j GG h = tt
value_numbered lists few j Jam h = tt

pub line_numbered : (net : Net) → IsWired net → (lists : Lists) → AreFew lists → length net.joints < 2 ^ 31 → side_count net < 2 ^ 63 → (allowed : ℕ → ℕ → Type 0) (f : Family) → IsPartOf f (all_live lists)
    → (line : LogLine) → LeadsOn net lists allowed f line → IsNumbered line
line_numbered net wired lists few joints sides allowed f part (At p) leads = absurd leads
line_numbered net wired lists few joints sides allowed f part (Drop j v side) leads = (
  omega (arith, leads.0.in_range, joints),
  value_numbered lists few j v (part j v leads.0.is_live),
  omega (arith, side_below net wired j side leads.0.in_range leads.0.at_side, sides),
)
line_numbered net wired lists few joints sides allowed f part (Empty j) leads = omega (arith, leads.in_range, joints)
line_numbered net wired lists few joints sides allowed f part (Split j) leads = omega (arith, leads.0, joints)
