-- Values with flow that a row gives or takes in.
use Rattle.std.proofs.Common.{◌≡◌, inl, inr, ℕ, ◌<◌, true, List, [], length, get_or, Option, Some, refl, sym, ◌∙◌, subst, ap}
use Rattle.std.specs.Prelude.{slice_get}
use Rattle.std.proofs.lemmas.Option.{slice_get_read}
use Rattle.std.proofs.lemmas.List.{get_or_default}
use Rattle.reo_values.specs.declared.value.Value.{Value}
use Rattle.reo_net_base.specs.Net.{Net}
use Rattle.reo_joint_values.specs.declared.value.JointValue.{JointValue}
use Rattle.reo_joint_values.specs.declared.value.JointValue.TheVariants.{Flow}
use Rattle.reo_joint_values.specs.Values.{Names, Family, item_named, joint_of}
use Rattle.reo_joint_values.specs.Fitting.{given_for, passes_in}
use Rattle.reo_joint_values.specs.Works.{IsGivenIn, TakerWorks, TakerHas}
use Rattle.reo_joint_values.proofs.Marks.{flow_number}
use Rattle.reo_refute_base.specs.Items.{Lists, numbered}
use Rattle.reo_refute_live.specs.support.Flows.{IsPassedOn}
use Rattle.reo_side_tables.specs.Marks.{TakesFlow, GivesFlow}

-- The item of a number.
pub item_at : (lists : Lists) (j n : ℕ) (list : List Value) (item : Value) → j < length lists → list ≡ get_or lists j list → n < length list → item ≡ get_or list n item
    → numbered lists j n ≡ Some item
item_at lists j n list item lt is n_in item_is =
    let same : list ≡ get_or lists j [] = is ∙ get_or_default lists j list [] lt in
    ap (λ (l : List Value). slice_get l n) (sym same) ∙ slice_get_read list (length list) n item refl n_in item_is

module _ (net : Net) (names : Names) (family : Family) (side row j : ℕ) where
  -- An item that may flow and is given.
  pub is_given : (taken : Option Value) (n : ℕ) (item : Value) → GivesFlow net side row j → names j n ≡ Some item → family j (Flow n) ≡ true
      → given_for net row (joint_of net j).giver taken ≡ Some item → IsGivenIn net names family row j taken
  is_given taken n item flow named has given = record { value = Flow n; has = has; given = record { mark = sym flow.flows; item = λ x. given ∙ sym named } }

  -- What is given has a number and may flow.
  pub record NumberGiven (taken : Option Value) : Type 0 where
    pub number : ℕ
    pub has : family j (Flow number) ≡ true
    pub given : given_for net row (joint_of net j).giver taken ≡ names j number

  pub given_number : (taken : Option Value) → GivesFlow net side row j → IsGivenIn net names family row j taken → NumberGiven taken
  given_number taken flow g =
      let n = flow_number g.value (inl (g.given.mark ∙ flow.flows)) in
      record {
        number = n.0;
        has = subst (λ (v : JointValue). family j v ≡ true) n.1 g.has;
        given = g.given.item (g.given.mark ∙ flow.flows) ∙ ap (item_named names j) n.1;
      }

  -- An item that may flow, is let in and passed on.
  pub taken_works : (n : ℕ) (item : Value) → TakesFlow net side row j → names j n ≡ Some item → family j (Flow n) ≡ true
      → passes_in net row (joint_of net j).taker item ≡ true → IsPassedOn net names family side row j (Some item) → TakerHas net names family side row j
  taken_works n item flow named has passes passed = record {
    value = Flow n;
    works = record {
      has = has;
      takes = record {
        mark = sym flow.flows;
        let_in = λ other is. let same : item ≡ other = some_same item other (sym named ∙ is) in subst (λ (x : Value). passes_in net row (joint_of net j).taker x ≡ true) same passes;
      };
      rest = λ k k_in at follows. subst (λ (o : Option Value). IsGivenIn net names family row k o) (sym named) (passed k k_in at follows);
    };
  }
    where
      some_same : (x y : Value) → Some x ≡ Some y → x ≡ y
      some_same x y e = cc

  -- What is taken in has a number and may flow.
  pub record NumberTaken : Type 0 where
    pub number : ℕ
    pub works : TakerWorks net names family side row j (Flow number)

  pub taken_number : TakesFlow net side row j → TakerHas net names family side row j → NumberTaken
  taken_number flow t =
      let n = flow_number t.value (inr (t.works.takes.mark ∙ flow.flows)) in
      record { number = n.0; works = subst (λ (v : JointValue). TakerWorks net names family side row j v) n.1 t.works }

  -- An item that is taken in is let in, and what is given for it may stand.
  pub taken_passes : (n : ℕ) (item : Value) → names j n ≡ Some item → TakerWorks net names family side row j (Flow n) → passes_in net row (joint_of net j).taker item ≡ true
  taken_passes n item named works = works.takes.let_in item named

  pub taken_passed : (n : ℕ) (item : Value) → names j n ≡ Some item → TakerWorks net names family side row j (Flow n) → IsPassedOn net names family side row j (Some item)
  taken_passed n item named works k k_in at follows = subst (λ (o : Option Value). IsGivenIn net names family row k o) named (works.rest k k_in at follows)
