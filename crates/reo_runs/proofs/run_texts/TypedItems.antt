-- The items of a colouring are of the types of their joints.
use Rattle.std.proofs.Common.{◌≡◌, ◌∙◌, inl, inr, ℕ, zero, suc, ◌<◌, List, [], ◌∷◌, refl, sym, ap, subst, length, map, get_or, arith}
use Rattle.std.specs.Prelude.{Option, Some, None}
use Rattle.std.specs.Option.{option_and_then}
use Rattle.std.specs.List.{position_or_len}
use Rattle.std.proofs.lemmas.List.{length-map}
use Rattle.reo_values.specs.declared.value.Value.{Value}
use Rattle.reo_values.specs.declared.kindred.Kindred.{Kindred}
use Rattle.reo_values.specs.declared.kindred.Kindred.TheVariants as kinds
use Rattle.reo_values.specs.Kind.{IsIn}
use Rattle.reo_net_base.specs.declared.joint.End.{End}
use Rattle.reo_net_base.specs.declared.joint.Joint.{Joint}
use Rattle.reo_net_base.specs.Behaviour.{Behaviour}
use Rattle.reo_net_base.specs.Net.{Net, Side, Wiring, is_at, net_of, all_sides, behaviour_at, end_of, row_at, side_at}
use Rattle.reo_net_base.specs.Moves.{item_at}
use Rattle.reo_net_base.specs.Colouring.{IsColouring, HasItem, ItemFits, taken_at, given_at}
use Rattle.reo_net_base.specs.Wired.{IsWired, IsOrder}
use Rattle.reo_net_base.proofs.Ends.{at_joint}
use Rattle.reo_net_laws.proofs.Items.{along_order}
use Rattle.reo_net_laws.proofs.Orders.{no_joint, Feeds}
use Rattle.reo_runs.proofs.Sides.{gives_at, row_in_table, row_below, side_in_range, same_side_at}
use Rattle.reo_rounds.specs.Rules.{Rules}
use Rattle.reo_runs.proofs.run_texts.Keeping.{EndTypes, GivesRight, KeepsTypes}
use Rattle.reo_runs.proofs.run_texts.Lists.{taken_from, first_passes}

-- The ends of what is none.
abbrev pub no_types : EndTypes
no_types end = kinds.Unit

-- The type of an end, by those of all primitives.
abbrev pub type_at : List EndTypes → End → Kindred
type_at types e = get_or types e.primitive no_types e.end

-- Each primitive is right for its types.
abbrev pub AreRight : {P : Type 0} → (P → EndTypes → Type 0) → List P → List EndTypes → Type 0
AreRight right [] [] = Unit {0}
AreRight right (p ∷ ps) (t ∷ ts) = right p t × AreRight right ps ts
AreRight right [] (t ∷ ts) = ⊥
AreRight right (p ∷ ps) [] = ⊥

-- Both ends of each joint have one type.
abbrev pub JointsAgree : List Joint → List EndTypes → Type 0
JointsAgree joints types = (j : ℕ) (d : Joint) → j < length joints → type_at types (get_or joints j d).giver ≡ type_at types (get_or joints j d).taker

-- The types of the ends of a circuit: each primitive is right for them, and joints have one each.
pub record IsTyped {P : Type 0} (right : P → EndTypes → Type 0) (w : Wiring P) (types : List EndTypes) : Type 0 where
  pub primitives : AreRight right w.primitives types
  pub joints : JointsAgree w.joints types

-- The item at each joint is of the joint's type.
abbrev pub ItemsTyped : List Joint → List EndTypes → List (Option Value) → Type 0
ItemsTyped joints types items = (j : ℕ) → j < length joints → (v : Value) → get_or items j None ≡ Some v → IsIn v (type_at types (get_or joints j no_joint).giver)

module _ {P : Type 0} (r : Rules P) (right : P → EndTypes → Type 0) (keeps : KeepsTypes r right) where
  -- What stands at a place gives what is right.
  pub gives_right : (ps : List P) (types : List EndTypes) → AreRight right ps types → (i : ℕ) → i < length ps → GivesRight (behaviour_at (map r.behaviour ps) i) (get_or types i no_types)
  gives_right [] types all i below = absurd (omega arith)
  gives_right (p ∷ ps) [] all i below = absurd all
  gives_right (p ∷ ps) (t ∷ ts) all zero below = keeps.gives p t all.0
  gives_right (p ∷ ps) (t ∷ ts) all (suc i) below = gives_right ps ts all.1 i (omega arith)

given_is : (net : Net) (rows : List ℕ) (items : List (Option Value)) (e : End) → given_at net rows items e
    ≡ (behaviour_at net.primitives e.primitive).given ((behaviour_at net.primitives e.primitive).side_of e.end) (row_at net rows e) e.end
    (option_and_then (λ from. taken_at net.joints items (end_of e.primitive from)) ((behaviour_at net.primitives e.primitive).from ((behaviour_at net.primitives e.primitive).side_of e.end) (row_at net rows e) e.end))
unfolding given_at
given_is net rows items e = refl

has_item : (net : Net) (rows : List ℕ) (items : List (Option Value)) (j : Joint) (o : Option Value) (v : Value) → o ≡ Some v → ItemFits net rows items j o → HasItem net rows items j v
has_item net rows items j o v is fits = subst (ItemFits net rows items j) is fits

module _ {P : Type 0} (r : Rules P) (right : P → EndTypes → Type 0) (keeps : KeepsTypes r right) (w : Wiring P) (types : List EndTypes) (typed : IsTyped right w types) where
  abbrev net_here : Net
  net_here = net_of r.behaviour w

  module _ (wired : IsWired (net_of r.behaviour w)) (rows : List ℕ) (items : List (Option Value)) (col : IsColouring (net_of r.behaviour w) rows items) where
    -- An item is of its joint's type where those are that come in at the giver's side.
    item_step : (j : ℕ) → j < length w.joints
        → ((k : ℕ) (d e : Joint) → k < length w.joints → Feeds (net_of r.behaviour w) (get_or w.joints k e) (get_or w.joints j d) → (v : Value) → get_or items k None ≡ Some v → IsIn v (type_at types (get_or w.joints k no_joint).giver))
        → (v : Value) → get_or items j None ≡ Some v → IsIn v (type_at types (get_or w.joints j no_joint).giver)
    item_step j lt fed v is =
        let net : Net = net_here in
        let joint : Joint = get_or w.joints j no_joint in
        let e : End = joint.giver in
        let b : Behaviour = behaviour_at net.primitives e.primitive in
        let e_in = wired.givers j no_joint lt in
        let has = has_item net rows items joint (get_or items j None) v is (col.items_fit j no_joint lt) in
        let some : Side = record { of = b; number = 0 } in
        let below = row_in_table net wired e e_in rows some (row_below (all_sides net.primitives) rows col.rows_fit.in_tables (side_at net e) some (side_in_range net wired e e_in)) in
        let gives = gives_at net wired e e_in rows (wired.gives j no_joint lt) below has.flows in
        let placed : e.primitive < length w.primitives = omega (arith, e_in.0, length-map w.primitives r.behaviour) in
        gives_right r right keeps w.primitives types typed.primitives e.primitive placed (b.side_of e.end) (row_at net rows e) e.end e_in.1 (wired.gives j no_joint lt) (λ from. taken_at w.joints items (end_of e.primitive from))
        (λ from u some_from taken.
        let from_in = (wired.lawful e.primitive e_in.0).from_end (b.side_of e.end) (row_at net rows e) e.end from gives some_from in
        let at = taken_from w.joints items (end_of e.primitive from) u taken in
        let feeds : Feeds net (get_or w.joints at.joint no_joint) joint = ap (side_at net) (at.taker no_joint) ∙ same_side_at net e from from_in in
        let there = fed at.joint no_joint no_joint at.in_range feeds u at.item in
        let one = typed.joints at.joint no_joint at.in_range ∙ ap (type_at types) (at.taker no_joint) in
        (from_in.0, subst (IsIn u) one there)) v (sym (given_is net rows items e) ∙ has.given)

    pub items_typed : (order : List ℕ) → IsOrder (net_of r.behaviour w) order → ItemsTyped w.joints types items
    items_typed order is_order = along_order net_here order is_order (λ j. (v : Value) → get_or items j None ≡ Some v → IsIn v (type_at types (get_or w.joints j no_joint).giver)) item_step

-- The item at an end is of the end's type.
pub end_typed : (joints : List Joint) (types : List EndTypes) (items : List (Option Value)) → JointsAgree joints types → ItemsTyped joints types items → length items ≡ length joints
    → (e : End) (v : Value) → item_at joints items e ≡ Some v → IsIn v (type_at types e)
end_typed joints types items agree typed same e v is =
    let at = first_passes (is_at e) joints items no_joint v same is in
    let j = position_or_len (is_at e) joints in
    let there = typed j at.0 v is in
    elim (at_joint e (get_or joints j no_joint) at.1) [
      | inl giver ↦ subst (λ x. IsIn v (type_at types x)) giver there
      | inr taker ↦ subst (λ x. IsIn v (type_at types x)) taker (subst (IsIn v) (agree j no_joint at.0) there)
    ]
