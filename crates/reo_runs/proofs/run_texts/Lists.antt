-- What stands in lists of items and of joints.
use Rattle.std.proofs.Common.{◌≡◌, ℕ, zero, suc, ◌<◌, List, [], ◌∷◌, Bool, true, false, cond, refl, length, get_or, arith}
use Rattle.std.specs.Prelude.{Option, Some, None}
use Rattle.std.specs.List.{position_or_len}
use Rattle.std.proofs.lemmas.List.Sums.{passes_at_first}
use Rattle.reo_values.specs.declared.value.Value.{Value}
use Rattle.reo_net_base.specs.declared.joint.End.{End}
use Rattle.reo_net_base.specs.declared.joint.Joint.{Joint}
use Rattle.reo_net_base.specs.Net.{end_eq}
use Rattle.reo_net_base.specs.Colouring.{taken_at}
use Rattle.reo_net_base.proofs.Items.{some_in}
use Rattle.reo_net_laws.proofs.Items.{end_is}

-- The item at the first joint that passes is at a joint that passes.
pub first_passes : (test : Joint → Bool) (joints : List Joint) (items : List (Option Value)) (d : Joint) (v : Value) → length items ≡ length joints
    → get_or items (position_or_len test joints) None ≡ Some v → (position_or_len test joints < length joints) × (test (get_or joints (position_or_len test joints) d) ≡ true)
first_passes test joints items d v same is =
    let within = some_in items (position_or_len test joints) v is in
    let below : position_or_len test joints < length joints = omega (arith, within, same) in
    (below, passes_at_first test joints d below)

-- The item that goes to an end stands at a joint that goes there.
pub record IsTakenFrom (joints : List Joint) (items : List (Option Value)) (e : End) (v : Value) : Type 0 where
  pub joint : ℕ
  pub in_range : joint < length joints
  pub taker : (d : Joint) → (get_or joints joint d).taker ≡ e
  pub item : get_or items joint None ≡ Some v

pub taken_from : (joints : List Joint) (items : List (Option Value)) (e : End) (v : Value) → taken_at joints items e ≡ Some v → IsTakenFrom joints items e v
taken_from [] items e v is = absurd (cc)
taken_from (j ∷ js) [] e v is = absurd (cc)
taken_from (j ∷ js) (x ∷ xs) e v is = step (end_eq j.taker e) refl is (taken_from js xs e v) where
  step : (t : Bool) → end_eq j.taker e ≡ t → cond t x (taken_at js xs e) ≡ Some v → (taken_at js xs e ≡ Some v → IsTakenFrom js xs e v) → IsTakenFrom (j ∷ js) (x ∷ xs) e v
  step true same here later = record { joint = zero; in_range = omega arith; taker = λ d. end_is j.taker e same; item = here }
  step false other there later =
      let rest = later there in
      record { joint = suc rest.joint; in_range = omega (arith, rest.in_range); taker = λ d. rest.taker d; item = rest.item }
