-- A round keeps the types of a circuit.
use Rattle.std.proofs.Common.{◌≡◌, ◌∙◌, ℕ, zero, suc, ◌<◌, true, false, cond, List, [], ◌∷◌, sym, subst, length, map, get_or, nat_lt, arith}
use Rattle.std.specs.Prelude.{Option, Some, None, is_some}
use Rattle.std.proofs.lemmas.Bool.Decides.{nat_tests}
use Rattle.std.proofs.lemmas.List.{length-map}
use Rattle.std.proofs.lemmas.List.FromFn.{get_or-map-range_with_len}
use Rattle.reo_values.specs.declared.value.Value.{Value}
use Rattle.reo_values.specs.Kind.{IsIn}
use Rattle.reo_net_base.specs.declared.colouring.Chosen.{Chosen}
use Rattle.reo_net_base.specs.declared.joint.Joint.{Joint}
use Rattle.reo_net_base.specs.declared.port.Offer.{Offer}
use Rattle.reo_net_base.specs.Behaviour.{Behaviour}
use Rattle.reo_net_base.specs.Net.{Net, Wiring, net_of, behaviour_at}
use Rattle.reo_net_base.specs.Step.{settled_list, stepped, all_chosen, all_taken, taken_for, mouth_of, is_mouth}
use Rattle.reo_net_laws.proofs.Orders.{no_joint}
use Rattle.reo_rounds.specs.Rules.{Rules}
use Rattle.reo_rounds.specs.Ready.{cleared, with_pending, ports_ready, ready}
use Rattle.reo_runs.proofs.run_texts.Keeping.{EndTypes, MouthIsFirst, KeepsTypes}
use Rattle.reo_runs.proofs.run_texts.Lists.{first_passes}
use Rattle.reo_runs.proofs.run_texts.TypedItems.{no_types, AreRight, IsTyped, ItemsTyped}

-- What the test of a mouth says.
mouth_is : (b : Behaviour) (i : ℕ) (j : Joint) → is_mouth b i j ≡ true → (j.taker.primitive ≡ i) × (b.side_of j.taker.end ≡ 0)
mouth_is b i j is = grind (arith, nat_tests)

module _ {P : Type 0} (r : Rules P) (right : P → EndTypes → Type 0) (keeps : KeepsTypes r right) where
  cleared_right : (p : P) (types : EndTypes) → right p types → right (cleared r p) types
  cleared_right p types here =
      elim (is_some (r.port_state p).pending) as (λ b. right (cond b (r.withdrawn p) p) types) [ true ↦ keeps.withdrawn p types here | false ↦ here ]

  pending_right : (o : Option Offer) (p : P) (types : EndTypes) → right p types → right (with_pending r o p) types
  pending_right None p types here = cleared_right p types here
  pending_right (Some offer) p types here = keeps.placed (cleared r p) types offer (cleared_right p types here)

  -- With other offers pending.
  ports_right : (offers : ℕ → Option Offer) (limit k : ℕ) (ps : List P) (types : List EndTypes) → AreRight right ps types → AreRight right (ports_ready r offers limit k ps) types
  ports_right offers limit k [] [] all = tt
  ports_right offers limit k [] (t ∷ ts) all = absurd all
  ports_right offers limit k (p ∷ ps) [] all = absurd all
  ports_right offers limit k (p ∷ ps) (t ∷ ts) all = (
    elim (nat_lt k limit) as (λ b. right (cond b (with_pending r (offers k) p) p) t) [ true ↦ pending_right (offers k) p t all.0 | false ↦ all.0 ],
    ports_right offers limit (suc k) ps ts all.1,
  )

  pub ready_typed : (offers : ℕ → Option Offer) (w : Wiring P) (types : List EndTypes) → IsTyped right w types → IsTyped right (ready r offers w) types
  ready_typed offers w types typed = record { primitives = ports_right offers w.ports 0 w.primitives types typed.primitives; joints = typed.joints }

  -- What comes in at a mouth is of the mouth's type.
  abbrev TakesRight : List P → List EndTypes → List (Option Value) → Type 0
  TakesRight ps types taken = (i : ℕ) → i < length ps → (v : Value) → (behaviour_at (map r.behaviour ps) i).sides ≡ 2 → get_or taken i None ≡ Some v → IsIn v (get_or types i no_types 0)

  settled_right : (ps : List P) (types : List EndTypes) (rows : List Chosen) (taken : List (Option Value)) → AreRight right ps types → TakesRight ps types taken → AreRight right (settled_list r.settled ps rows taken) types
  settled_right [] types rows taken all comes = all
  settled_right (p ∷ ps) types [] taken all comes = all
  settled_right (p ∷ ps) types (c ∷ cs) [] all comes = all
  settled_right (p ∷ ps) [] (c ∷ cs) (o ∷ os) all comes = absurd all
  settled_right (p ∷ ps) (t ∷ ts) (c ∷ cs) (o ∷ os) all comes = (
    keeps.settled p t c o all.0 (λ v two is. comes zero (omega arith) v two is),
    settled_right ps ts cs os all.1 (λ i below v two is. comes (suc i) (omega (arith, below)) v two is),
  )

  mouth_first : (ps : List P) (i : ℕ) → i < length ps → MouthIsFirst (behaviour_at (map r.behaviour ps) i)
  mouth_first [] i below = absurd (omega arith)
  mouth_first (p ∷ ps) zero below = keeps.mouth p
  mouth_first (p ∷ ps) (suc i) below = mouth_first ps i (omega arith)

  module _ (w : Wiring P) (types : List EndTypes) (typed : IsTyped right w types) (items : List (Option Value)) (same : length items ≡ length w.joints) (items_right : ItemsTyped w.joints types items) where
    takes_right : TakesRight w.primitives types (all_taken (net_of r.behaviour w) items)
    takes_right i below v two is =
        let net : Net = net_of r.behaviour w in
        let b : Behaviour = behaviour_at net.primitives i in
        let in_net : i < length net.primitives = omega (arith, below, length-map w.primitives r.behaviour) in
        let here : get_or (all_taken net items) i None ≡ taken_for net items i = get_or-map-range_with_len (taken_for net items) 0 (length net.primitives) i i None in_net (omega arith) in
        let at = first_passes (is_mouth b i) w.joints items no_joint v same (sym here ∙ is) in
        let j = mouth_of net i in
        let joint : Joint = get_or w.joints j no_joint in
        let mouth = mouth_is b i joint at.1 in
        let first : joint.taker.end ≡ 0 = mouth_first w.primitives i below joint.taker.end two mouth.1 in
        let there = subst (IsIn v) (typed.joints j no_joint at.0) (items_right j at.0 v (sym here ∙ is)) in
        subst (λ n. IsIn v (get_or types i no_types n)) first (subst (λ n. IsIn v (get_or types n no_types joint.taker.end)) mouth.0 there)

    pub stepped_right : (rows : List ℕ) → AreRight right (stepped r.behaviour r.settled w rows items) types
    stepped_right rows = settled_right w.primitives types (all_chosen (net_of r.behaviour w) rows) (all_taken (net_of r.behaviour w) items) typed.primitives takes_right
