-- Values by their places among the flags of their joint.
use Rattle.std.proofs.Common.{◌≡◌, ◌≢◌, inl, inr, ℕ, zero, suc, ◌+◌, ◌-◌, ◌<◌, ◌≤◌, Bool, true, false, List, [], length, get_or, Some, refl, ap, sym, ◌∙◌, arith}
use Rattle.std.specs.Prelude.{slice_get}
use Rattle.std.proofs.lemmas.Option.{slice_get_read}
use Rattle.std.proofs.lemmas.Bool.{cases_lt}
use Rattle.std.proofs.lemmas.List.{get_or_default, get_or_past}
use Rattle.reo_values.specs.declared.value.Value.{Value}
use Rattle.reo_net_base.specs.declared.mark.Mark.TheVariants.{F}
use Rattle.reo_joint_values.specs.declared.value.JointValue.{JointValue}
use Rattle.reo_joint_values.specs.declared.value.JointValue.TheVariants.{Flow, RG, GR, GG, Jam}
use Rattle.reo_joint_values.specs.Values.{giver_mark, taker_mark}
use Rattle.reo_rows.specs.RowFlags.{flag}
use Rattle.reo_rows.specs.Sets.{value_of, code_of, family_of, names_of}

pub flow_code : (c : ℕ) → 4 ≤ c → value_of c ≡ Flow (c - 4)
flow_code zero h = absurd (omega arith)
flow_code (suc zero) h = absurd (omega arith)
flow_code (suc (suc zero)) h = absurd (omega arith)
flow_code (suc (suc (suc zero))) h = absurd (omega arith)
flow_code (suc (suc (suc (suc n)))) h = let e : n ≡ suc (suc (suc (suc n))) - 4 = omega arith in ap Flow e

pub plain_code : (c : ℕ) → c < 4 → (giver_mark (value_of c) ≢ F) × (taker_mark (value_of c) ≢ F)
plain_code zero h = (λ e. cc, λ e. cc)
plain_code (suc zero) h = (λ e. cc, λ e. cc)
plain_code (suc (suc zero)) h = (λ e. cc, λ e. cc)
plain_code (suc (suc (suc zero))) h = (λ e. cc, λ e. cc)
plain_code (suc (suc (suc (suc n)))) h = absurd (omega arith)

pub code_value : (c : ℕ) → code_of (value_of c) ≡ c
code_value zero = refl
code_value (suc zero) = refl
code_value (suc (suc zero)) = refl
code_value (suc (suc (suc zero))) = refl
code_value (suc (suc (suc (suc n)))) = omega arith

pub value_code : (v : JointValue) → value_of (code_of v) ≡ v
value_code (Flow n) = let e : (n + 4) - 4 ≡ n = omega arith in flow_code (n + 4) (omega arith) ∙ ap Flow e
value_code RG = refl
value_code GR = refl
value_code GG = refl
value_code Jam = refl

-- The flag at a place is that of its value.
pub flag_value : (table : List (List Bool)) (j c : ℕ) → family_of table j (value_of c) ≡ flag table j c
flag_value table j c = ap (λ (k : ℕ). flag table j k) (code_value c)

pub flag_flow : (table : List (List Bool)) (j c : ℕ) → 4 ≤ c → family_of table j (Flow (c - 4)) ≡ flag table j c
flag_flow table j c h = let e : (c - 4) + 4 ≡ c = omega arith in ap (λ (k : ℕ). flag table j k) e

-- A flag that is set is in its row.
pub flag_in : (table : List (List Bool)) (i p : ℕ) → flag table i p ≡ true → p < length (get_or table i [])
flag_in table i p h = elim (cases_lt p (length (get_or table i []))) [
  | inl lt ↦ lt
  | inr past ↦ let none : true ≡ false = sym h ∙ get_or_past (get_or table i []) p false past in absurd cc
]

-- The item of a number.
pub item_at : (items : List (List Value)) (j n : ℕ) (list : List Value) (item : Value) → j < length items → list ≡ get_or items j list → n < length list → item ≡ get_or list n item
    → names_of items j n ≡ Some item
item_at items j n list item lt is n_in item_is =
    let same : list ≡ get_or items j [] = is ∙ get_or_default items j list [] lt in
    ap (λ (l : List Value). slice_get l n) (sym same) ∙ slice_get_read list (length list) n item refl n_in item_is
