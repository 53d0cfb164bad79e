-- Where no joint is wide, no joint has more than 256 items.
use Rattle.std.proofs.Common.{inl, inr, ℕ, ◌<◌, List, [], length, ap, arith}
use Rattle.std.proofs.lemmas.Bool.{cases_lt}
use Rattle.std.proofs.lemmas.List.{get_or_past}
use Rattle.reo_values.specs.declared.value.Value.{Value}
use Rattle.reo_net_base.specs.Net.{Net}
use Rattle.reo_net_base.specs.Wired.{IsWired}
use Rattle.reo_joint_values.specs.Many.{AreDistinct}
use Rattle.reo_refute_base.specs.Items.{Lists, items_at, AreItemLists}
use Rattle.reo_refute_base.specs.Wide.{IsWide}
use Rattle.reo_refute_base.specs.laws.Laws.{ItemsAreListed}
use Rattle.reo_refute.proofs.check.Judged.{lists_length, passed_apart}
use Rattle.reo_refute.specs.proving.Making.{AreFew}

-- No list has an item twice.
abbrev AreApart : Lists → Type 0
AreApart lists = (j : ℕ) → AreDistinct (items_at lists j)

pub lists_few : ItemsAreListed → (net : Net) → IsWired net → (lists : Lists) → AreItemLists net lists → (IsWide net → ⊥) → AreFew lists
lists_few listed net wired lists are narrow j = elim (cases_lt j (length lists)) [
  | inr past ↦ omega (arith, ap (λ (l : List Value). length l) (get_or_past lists j [] past))
  | inl lt ↦
      let j_in : j < length net.joints = omega (arith, lt, lists_length net lists are) in
      elim (cases_lt 256 (length (items_at lists j))) [
        | inl many ↦ absurd (narrow (
          j,
          j_in,
          record {
            items = items_at lists j;
            distinct = passed_apart net lists are.passed j;
            many = many;
            stand = λ item has. (listed net wired lists are j item j_in).0 has;
          },
        ))
        | inr few ↦ few
      ]
]
