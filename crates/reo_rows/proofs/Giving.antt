-- Values with flow that a row gives or takes in.
use Rattle.std.proofs.Common.{◌≡◌, ◌↔◌, inl, inr, ℕ, ◌+◌, ◌-◌, ◌≤◌, Bool, true, List, Option, Some, refl, ap, sym, ◌∙◌, subst, arith}
use Rattle.reo_values.specs.declared.value.Value.{Value}
use Rattle.reo_net_base.specs.declared.mark.Mark.TheVariants.{F}
use Rattle.reo_net_base.specs.Net.{Net}
use Rattle.reo_net_laws.specs.Ends.{mark_in}
use Rattle.reo_joint_values.specs.declared.value.JointValue.{JointValue}
use Rattle.reo_joint_values.specs.declared.value.JointValue.TheVariants.{Flow}
use Rattle.reo_joint_values.specs.Values.{Names, joint_of}
use Rattle.reo_joint_values.specs.Fitting.{given_for}
use Rattle.reo_joint_values.specs.Works.{IsGivenAs, IsGivenIn, TakerWorks}
use Rattle.reo_joint_values.proofs.Marks.{flow_number}
use Rattle.reo_side_tables.specs.Marks.{TakesFlow, GivesFlow}
use Rattle.reo_rows.specs.RowFlags.{flag}
use Rattle.reo_rows.specs.Sets.{value_of, code_of, family_of}
use Rattle.reo_rows.proofs.Codes.{flow_code, value_code}

-- The item of a place is given where the value of the place is.
pub given_code : (net : Net) (names : Names) (row k : ℕ) (taken : Option Value) (code : ℕ) (item : Value) → mark_in net row (joint_of net k).giver ≡ F → 4 ≤ code → names k (code - 4) ≡ Some item
    → (given_for net row (joint_of net k).giver taken ≡ Some item) ↔ IsGivenAs net names row k taken (value_of code)
given_code net names row k taken code item flows at named =
    subst (λ (v : JointValue). (given_for net row (joint_of net k).giver taken ≡ Some item) ↔ IsGivenAs net names row k taken v) (sym (flow_code code at)) (
      λ h. record { mark = sym flows; item = λ x. h ∙ sym named },
      λ g. g.item refl ∙ named,
    )

-- A value with flow that stands at a place.
pub record IsPlaced (alive : List (List Bool)) (j : ℕ) (v : JointValue) : Type 0 where
  pub code : ℕ
  pub flows : 4 ≤ code
  pub is : value_of code ≡ v
  pub set : flag alive j code ≡ true

placed : (alive : List (List Bool)) (j n : ℕ) (v : JointValue) → v ≡ Flow n → family_of alive j v ≡ true → IsPlaced alive j v
placed alive j n v is has = record {
  code = n + 4;
  flows = omega arith;
  is = ap value_of (ap code_of (sym is)) ∙ value_code v;
  set = subst (λ (w : JointValue). family_of alive j w ≡ true) is has;
}

-- Where a row flows, what it gives is a value with flow.
pub given_placed : (net : Net) (names : Names) (alive : List (List Bool)) (side row k : ℕ) (taken : Option Value) → GivesFlow net side row k → (g : IsGivenIn net names (family_of alive) row k taken) → IsPlaced alive k g.value
given_placed net names alive side row k taken flow g =
    let n = flow_number g.value (inl (g.given.mark ∙ flow.flows)) in
    placed alive k n.0 g.value n.1 g.has

pub taken_placed : (net : Net) (names : Names) (alive : List (List Bool)) (side row j : ℕ) → TakesFlow net side row j → (v : JointValue) → TakerWorks net names (family_of alive) side row j v → IsPlaced alive j v
taken_placed net names alive side row j flow v works =
    let n = flow_number v (inr (works.takes.mark ∙ flow.flows)) in
    placed alive j n.0 v n.1 works.has
