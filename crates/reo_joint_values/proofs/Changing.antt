-- A choice with another value at one joint.
use Rattle.std.proofs.Common.{◌≡◌, ◌≢◌, ℕ, ◌<◌, List, Bool, true, false, cond, ap, arith}
use Rattle.std.specs.Prelude.{◌==◌, Contains}
use Rattle.std.proofs.lemmas.Bool.Decides.{nat_tests}
use Rattle.reo_joint_values.specs.declared.value.JointValue.{JointValue}
use Rattle.reo_joint_values.specs.Values.{Choice}

abbrev pub chosen_at : Choice → ℕ → JointValue → Choice
chosen_at c n w i = cond (i == n) w (c i)

pub chosen_here : (c : Choice) (n : ℕ) (w : JointValue) (i : ℕ) → i ≡ n → chosen_at c n w i ≡ w
chosen_here c n w i e =
    let test : (i == n) ≡ true = grind (arith, nat_tests) in
    ap (λ (t : Bool). cond t w (c i)) test

pub chosen_other : (c : Choice) (n : ℕ) (w : JointValue) (i : ℕ) → i ≢ n → chosen_at c n w i ≡ c i
chosen_other c n w i other =
    let test : (i == n) ≡ false = grind (arith, nat_tests) in
    ap (λ (t : Bool). cond t w (c i)) test

-- A choice of which something holds, with values from lists at the first n joints.
abbrev pub HasChoice : (ℕ → List JointValue) → ℕ → (Choice → Type 0) → Type 0
HasChoice values n holds = (c : Choice) × ((i : ℕ) → i < n → Contains (values i) (c i)) × holds c
