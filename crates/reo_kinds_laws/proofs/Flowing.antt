-- While which states ends can flow.
use Rattle.std.proofs.Common.{ℕ, zero, suc, ◌<◌, ◌≡◌, ◌↔◌, Bool, true, false, not, List, [], ◌∷◌, is_some, length, nat_lt, refl, arith}
use Rattle.std.proofs.lemmas.Bool.Decides.{nat_tests}
use Rattle.reo_values.specs.declared.value.Value.{Value}
use Rattle.reo_net_base.specs.declared.mark.Mark.TheVariants.{F}
use Rattle.reo_net_base.specs.Rows.{row_count, mark_in}
use Rattle.reo_net_base.specs.Tables.{rows_of}
use Rattle.reo_buffers.specs.Stored.{is_full}
use Rattle.reo_kinds.specs.Kinds.{ready_table, quota_table, front_of}
use Rattle.reo_kinds_laws.specs.CanFlow.{EndsFlowWhileTheyCan}

-- A side that can flow has a row by which it does, and no other side has.
ready_flows : (can : Bool) → ((row : ℕ) × (row < row_count (rows_of (ready_table can))) × (mark_in (rows_of (ready_table can)) row 0 ≡ F)) ↔ (can ≡ true)
ready_flows true = (λ _. refl, λ _. (0, omega arith, refl))
ready_flows false = (λ flows. none flows.0 flows.2, λ can. absurd cc)
  where
    none : (row : ℕ) → mark_in (rows_of (ready_table false)) row 0 ≡ F → false ≡ true
    none zero flows = absurd cc
    none (suc row) flows = absurd cc

quota_flows : (can : Bool) → ((row : ℕ) × (row < row_count (rows_of (quota_table can))) × (mark_in (rows_of (quota_table can)) row 0 ≡ F)) ↔ (can ≡ true)
quota_flows true = (λ _. refl, λ _. (0, omega arith, refl))
quota_flows false = (λ flows. none flows.0 flows.2, λ can. absurd cc)
  where
    none : (row : ℕ) → mark_in (rows_of (quota_table false)) row 0 ≡ F → false ≡ true
    none zero flows = absurd cc
    none (suc row) flows = absurd cc

-- One fact in place of another.
over : {A B C : Type 0} → A ↔ B → (B → C) → (C → B) → A ↔ C
over both there back = (λ a. there (both.0 a), λ c. both.1 (back c))

some_front : (items : List Value) → (is_some (front_of (record { items = items; size = 0 })) ≡ true) ↔ (0 < length items)
some_front [] = (λ h. absurd cc, λ h. absurd (omega (arith, h)))
some_front (item ∷ items) = (λ h. omega arith, λ h. refl)

pub flowing : EndsFlowWhileTheyCan
flowing = record {
  buffer_takes = λ buffer. over (ready_flows (not (is_full buffer))) (λ free. grind (arith, nat_tests, free)) (λ free. grind (arith, nat_tests, free));
  buffer_gives = λ buffer. over (ready_flows (is_some (front_of buffer))) (some_front buffer.items).0 (some_front buffer.items).1;
  shift_takes = λ buffer. (ready_flows true).1 refl;
  shift_gives = λ buffer. over (ready_flows (is_some (front_of buffer))) (some_front buffer.items).0 (some_front buffer.items).1;
  variable_takes = λ held. (ready_flows true).1 refl;
  variable_gives = λ held. ready_flows (is_some held);
  quota_flows = λ left. over (quota_flows (nat_lt 0 left)) (λ some. grind (arith, nat_tests, some)) (λ some. grind (arith, nat_tests, some));
}
