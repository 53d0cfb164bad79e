-- What flows at a port, by the item at its joint.
use Rattle.std.proofs.Common.{◌≡◌, ◌≢◌, ◌∙◌, ◌⊎◌, inl, inr, ℕ, zero, suc, ◌+◌, ◌<◌, ◌≤◌, Bool, true, false, cond, List, [], ◌∷◌, ◌++◌, length, get_or, refl, ap, sym, subst, append-nil, arith}
use Rattle.std.specs.Prelude.{Option, Some, None, is_some}
use Rattle.std.specs.List.{flat_map, position_or_len, range_with_len}
use Rattle.std.proofs.lemmas.Bool.{or_left, or_right}
use Rattle.std.proofs.lemmas.Grind.{flat_map-append}
use Rattle.std.proofs.lemmas.List.Sums.{passes_at_first}
use Rattle.reo_values.specs.declared.value.Value.{Value}
use Rattle.reo_net_base.specs.declared.colouring.Move.{Move}
use Rattle.reo_net_base.specs.declared.joint.End.{End}
use Rattle.reo_net_base.specs.declared.joint.Joint.{Joint}
use Rattle.reo_net_base.specs.declared.mark.Mark.TheVariants.{F}
use Rattle.reo_net_base.specs.Colouring.{IsColouring}
use Rattle.reo_net_base.specs.Marks.{is_flow}
use Rattle.reo_net_base.specs.Moves.{item_at, move_with, moves_at, moves_of}
use Rattle.reo_net_base.specs.Net.{Net, behaviour_at, end_eq, end_of, is_at, mark_at}
use Rattle.reo_net_base.specs.Wired.{IsWired, IsEnd}
use Rattle.reo_net_base.proofs.Ends.{end_self}
use Rattle.reo_net_laws.proofs.Joined.{joint_of}
use Rattle.reo_net_laws.proofs.Ranges.{range_plus_one}
use Rattle.reo_flows.specs.stepping.Changes.{HasFlow}
use Rattle.reo_round.proofs.Filled.{not_flow}
use Rattle.reo_flows.proofs.stepping.FlowLemmas.{no_joint, with_item}

-- The moves of one port more come at the end.
pub flat_more : (f : ℕ → List Move) (k : ℕ) → flat_map f (range_with_len 0 (k + 1)) ≡ flat_map f (range_with_len 0 k) ++ f k
flat_more f k = rw (range_plus_one k, flat_map-append f (range_with_len 0 k) (k ∷ []), append-nil) refl

-- Ports of which no end flows move nothing.
pub moves_over : (net : Net) (rows : List ℕ) (items : List (Option Value)) (moves : List Move) (steps from to : ℕ) → from + steps ≡ to → ((k : ℕ) → from ≤ k → k < to → HasFlow net rows k → ⊥)
    → ((k : ℕ) → from ≤ k → k < to → 0 < (behaviour_at net.primitives k).ends) → moves ≡ moves_of net from rows items → moves ≡ moves_of net to rows items
moves_over net rows items moves zero from to is none ends so = so ∙ ap (λ (k : ℕ). moves_of net k rows items) (omega (arith, is))
moves_over net rows items moves (suc steps) from to is none ends so =
    let here : from < to = omega (arith, is) in
    let not : mark_at net rows (end_of from 0) ≢ F = λ flows. none from (omega arith) here record { end = 0; is_end = ends from (omega arith) here; flows = flows } in
    let nothing : moves_at net rows items from ≡ [] = ap (λ (b : Bool). cond b (move_with from (item_at net.joints items (end_of from 0))) []) (not_flow (mark_at net rows (end_of from 0)) not) in
    moves_over net rows items moves steps (from + 1) to (omega (arith, is)) (λ k low high. none k (omega arith) high) (λ k low high. ends k (omega arith) high)
    (so ∙ sym (flat_more (moves_at net rows items) from ∙ ap (λ (ms : List Move). moves_of net from rows items ++ ms) nothing ∙ append-nil (moves_of net from rows items)))

abbrev no_moves : List Move
no_moves = []

cond_none : (flows : Bool) → cond flows no_moves no_moves ≡ no_moves
cond_none true = refl
cond_none false = refl

module _ (net : Net) (rows : List ℕ) (items : List (Option Value)) (wired : IsWired net) (is : IsColouring net rows items) (port : ℕ)
    (is_end : IsEnd net.primitives (end_of port 0)) (below : position_or_len (is_at (end_of port 0)) net.joints < length net.joints) where
  abbrev e : End
  e = end_of port 0

  abbrev place : ℕ
  place = position_or_len (is_at e) net.joints

  -- The joint of the port's end is the first that is there.
  joint_is : (k : ℕ) → k < length net.joints → ((d : Joint) → is_at e (get_or net.joints k d) ≡ true) → k ≡ place
  joint_is k k_in here =
      let joined = wired.each_end port 0 is_end.0 is_end.1 in
      joined.only k no_joint k_in (here no_joint) ∙ sym (joined.only place no_joint below (passes_at_first (is_at e) net.joints no_joint below))

  here_by : (j : Joint) → (j.giver ≡ e) ⊎ (j.taker ≡ e) → is_at e j ≡ true
  here_by j (inl g) = or_left (end_eq j.giver e) (end_eq j.taker e) (ap (λ (x : End). end_eq x e) g ∙ end_self e)
  here_by j (inr t) = or_right (end_eq j.giver e) (end_eq j.taker e) (ap (λ (x : End). end_eq x e) t ∙ end_self e)

  flows_at : (item : Value) → get_or items place None ≡ Some item → mark_at net rows e ≡ F
  flows_at item there =
      let at = joint_of net wired e is_end in
      let both = with_item net rows items wired is place below (ap is_some there) in
      let which = subst (λ (k : ℕ). ((get_or net.joints k no_joint).giver ≡ e) ⊎ ((get_or net.joints k no_joint).taker ≡ e)) (joint_is at.0 at.1 (λ d. here_by (get_or net.joints at.0 d) (at.2 d))) (at.2 no_joint) in
      elim which [
        | inl g ↦ sym (ap (mark_at net rows) g) ∙ both.0
        | inr t ↦ sym (ap (mark_at net rows) t) ∙ both.1
      ]

  -- Exactly an item is what moves.
  pub moves_here : (found : Option Value) → get_or items place None ≡ found → moves_at net rows items port ≡ move_with port found
  moves_here None there = ap (λ (o : Option Value). cond (is_flow (mark_at net rows e)) (move_with port o) []) there ∙ cond_none (is_flow (mark_at net rows e))
  moves_here (Some item) there =
      ap (λ (o : Option Value). cond (is_flow (mark_at net rows e)) (move_with port o) []) there
      ∙ ap (λ m. cond (is_flow m) (move_with port (Some item)) []) (flows_at item there)
