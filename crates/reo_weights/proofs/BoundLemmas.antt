-- No more items can stand at joints than bounds say.
use Rattle.std.proofs.Common.{◌≡◌, inl, inr, ℕ, zero, suc, ◌+◌, ◌<◌, ◌≤◌, List, [], ◌∷◌, ◌++◌, Bool, Option, Some, None, length, get_or, refl, ap, sym, ◌∙◌, subst, arith, length-append}
use Rattle.std.specs.Prelude.{Contains}
use Rattle.std.proofs.lemmas.Bool.{cases_lt}
use Rattle.std.proofs.lemmas.List.Elements.{Contains-append_left, Contains-append_right}
use Rattle.reo_values.specs.declared.value.Value.{Value}
use Rattle.reo_net_base.specs.declared.joint.End.{End}
use Rattle.reo_net_base.specs.Net.{Net, end_of, side_at}
use Rattle.reo_net_base.specs.Wired.{IsWired, IsOrder}
use Rattle.reo_net_laws.specs.Ends.{mark_in, from_in}
use Rattle.reo_net_laws.specs.Parts.{IsClosed}
use Rattle.reo_net_laws.proofs.Joined.{source_taken}
use Rattle.reo_net_laws.proofs.Orders.{place_of}
use Rattle.reo_net_laws.proofs.Search.{flow_or}
use Rattle.reo_joint_values.specs.Standing.{no_joint, giver_of, taker_of, given_in, FlowsAt, Brings, GivesAlone, GivesFor, CanStand}
use Rattle.reo_joint_values.specs.Standing.CanStand.{alone, passed}
use Rattle.reo_joint_values.specs.Many.{IsJointIn}
use Rattle.reo_joint_values.proofs.InOrder.{order_in_order, brings_feeds}
use Rattle.reo_weights.specs.Bounds.{HasAtMost, sum_below, giver_rows, AreBounds, FewItemsStand}
use Rattle.reo_weights.proofs.Listings.{at_head, behind_head, head_or_behind, not_in_none}

-- What is made of the elements of a list.
put : Option Value → List Value → List Value
put None xs = xs
put (Some x) xs = x ∷ xs

images : (Value → Option Value) → List Value → List Value
images f [] = []
images f (x ∷ xs) = put (f x) (images f xs)

put_few : (o : Option Value) (xs : List Value) → length (put o xs) ≤ suc (length xs)
unfolding put
put_few None xs = omega arith
put_few (Some x) xs = omega arith

put_has : (o : Option Value) (xs : List Value) (x : Value) → o ≡ Some x → Contains (put o xs) x
unfolding put
put_has None xs x is = cc
put_has (Some y) xs x is = let same : y ≡ x = cc in subst (λ (z : Value). Contains (y ∷ xs) z) same (at_head y xs)

put_keeps : (o : Option Value) (xs : List Value) (x : Value) → Contains xs x → Contains (put o xs) x
unfolding put
put_keeps None xs x h = h
put_keeps (Some y) xs x h = behind_head y xs x h

images_few : (f : Value → Option Value) (xs : List Value) → length (images f xs) ≤ length xs
unfolding images
images_few f [] = omega arith
images_few f (x ∷ xs) = omega (arith, put_few (f x) (images f xs), images_few f xs)

images_has : (f : Value → Option Value) (xs : List Value) (t x : Value) → Contains xs t → f t ≡ Some x → Contains (images f xs) x
unfolding images
images_has f [] t x h is = absurd (not_in_none t h)
images_has f (y ∷ ys) t x h is = elim (head_or_behind y ys t h) [
  | inl same ↦ put_has (f y) (images f ys) x (ap f same ∙ is)
  | inr there ↦ put_keeps (f y) (images f ys) x (images_has f ys t x there is)
]

-- What rows give at a joint, where the joints that decide have few items.
module _ (net : Net) (wired : IsWired net) (inside : ℕ → Bool) (bound : ℕ → ℕ) (are : AreBounds net inside bound) (j : ℕ) (is : IsJointIn net inside j)
    (before : (row k : ℕ) → Brings net (giver_of net j) row k → HasAtMost (CanStand net k) (bound k)) where
  abbrev giver : End
  giver = giver_of net j

  -- What one row gives there.
  record RowGives (row : ℕ) : Type 0 where
    items : List Value
    few : length items ≤ are.share j row
    by_state : (x : Value) → GivesAlone net (giver_of net j) row x → Contains items x
    by_item : (x taken : Value) (k : ℕ) → GivesFor net (giver_of net j) row k taken x → CanStand net k taken → Contains items x

  row_flows : (row : ℕ) → FlowsAt net (giver_of net j) row → (o : Option ℕ) → from_in net row (giver_of net j) ≡ o → RowGives row
  row_flows row flows None none = record {
    items = put (given_in net row giver None) [];
    few = let le = put_few (given_in net row giver None) [] in let one = are.alone j row is flows none in omega (arith, le, one);
    by_state = λ x gives. put_has (given_in net row giver None) [] x gives.given;
    by_item = λ x taken k gives stands. let decides = gives.brings.decides in let wrong : None ≡ Some gives.brings.from = sym none ∙ decides in absurd cc;
  }
  row_flows row flows (Some from) some =
      let found = source_taken net wired j row from no_joint is.0 (let plain = flows.plain in omega (arith, plain)) flows.flows some in
      let source = found.1 in
      let brings : Brings net giver row found.0 = record { flows = flows; in_range = source.in_range; from = from; decides = some; taker = source.taker no_joint } in
      let there = before row found.0 brings in
      let f : Value → Option Value = λ t. given_in net row giver (Some t) in
      record {
        items = images f there.items;
        few = let le = images_few f there.items in let share = are.passed j row found.0 is brings in let few = there.few in omega (arith, le, share, few);
        by_state = λ x gives. let none = gives.alone in let wrong : None ≡ Some from = sym none ∙ some in absurd cc;
        by_item = λ x taken k gives stands.
            let same : Some from ≡ Some gives.brings.from = sym some ∙ gives.brings.decides in
            let equal : from ≡ gives.brings.from = cc in
            let one : k ≡ found.0 = source.only k no_joint gives.brings.in_range (gives.brings.taker ∙ ap (λ (n : ℕ). end_of giver.primitive n) (sym equal)) in
            images_has f there.items taken x (there.all taken (subst (λ (n : ℕ). CanStand net n taken) one stands)) gives.given.given;
      }

  row_gives : (row : ℕ) → row < giver_rows net j → RowGives row
  row_gives row lt = elim (flow_or (mark_in net row (giver_of net j))) [
    | inr rests ↦ record { items = []; few = omega arith; by_state = λ x gives. absurd (rests gives.flows.flows); by_item = λ x taken k gives stands. absurd (rests gives.brings.flows.flows) }
    | inl flows ↦ elim (cases_lt (row + 1) (giver_rows net j)) [
      | inl plain ↦ row_flows row (record { plain = plain; flows = flows }) (from_in net row (giver_of net j)) refl
      | inr last ↦ record {
        items = [];
        few = omega arith;
        by_state = λ x gives. let plain = gives.flows.plain in absurd (omega (arith, last, plain));
        by_item = λ x taken k gives stands. let plain = gives.brings.flows.plain in absurd (omega (arith, last, plain));
      }
    ]
  ]

  -- What the first so many rows give there.
  record RowsGive (n : ℕ) : Type 0 where
    items : List Value
    few : length items ≤ sum_below n (are.share j)
    by_state : (row : ℕ) (x : Value) → row < n → GivesAlone net (giver_of net j) row x → Contains items x
    by_item : (row : ℕ) (x taken : Value) (k : ℕ) → row < n → GivesFor net (giver_of net j) row k taken x → CanStand net k taken → Contains items x

  rows_give : (n : ℕ) → n ≤ giver_rows net j → RowsGive n
  rows_give zero le = record { items = []; few = omega arith; by_state = λ row x lt gives. absurd (omega arith); by_item = λ row x taken k lt gives stands. absurd (omega arith) }
  rows_give (suc n) le =
      let rest = rows_give n (omega arith) in
      let here = row_gives n (omega arith) in
      record {
        items = rest.items ++ here.items;
        few = let a = rest.few in let b = here.few in let both = length-append rest.items here.items in omega (arith, a, b, both);
        by_state = λ row x lt gives. elim (cases_lt row n) [
          | inl less ↦ Contains-append_left rest.items here.items x (rest.by_state row x less gives)
          | inr last ↦
              let same : row ≡ n = omega (arith, lt, last) in
              Contains-append_right rest.items here.items x (here.by_state x (subst (λ (r : ℕ). GivesAlone net (giver_of net j) r x) same gives))
        ];
        by_item = λ row x taken k lt gives stands. elim (cases_lt row n) [
          | inl less ↦ Contains-append_left rest.items here.items x (rest.by_item row x taken k less gives stands)
          | inr last ↦
              let same : row ≡ n = omega (arith, lt, last) in
              Contains-append_right rest.items here.items x (here.by_item x taken k (subst (λ (r : ℕ). GivesFor net (giver_of net j) r k taken x) same gives) stands)
        ];
      }

  pub few_here : HasAtMost (CanStand net j) (bound j)
  few_here =
      let give = rows_give (giver_rows net j) (omega arith) in
      record {
        items = give.items;
        few = let a = give.few in let b = are.together j is in omega (arith, a, b);
        all = λ x stands. given j x stands refl give;
      }
    where
      given : (i : ℕ) (x : Value) → CanStand net i x → i ≡ j → (give : RowsGive (giver_rows net j)) → Contains give.items x
      given i x (alone m row y lt gives) same give =
          let here : GivesAlone net (giver_of net j) row y = subst (λ (n : ℕ). GivesAlone net (giver_of net n) row y) same gives in
          let plain = here.flows.plain in give.by_state row y (omega (arith, plain)) here
      given i x (passed m row k taken y lt gives stands) same give =
          let here : GivesFor net (giver_of net j) row k taken y = subst (λ (n : ℕ). GivesFor net (giver_of net n) row k taken y) same gives in
          let plain = here.brings.flows.plain in give.by_item row y taken k (omega (arith, plain)) here stands

module _ (net : Net) (wired : IsWired net) (order : List ℕ) (is_order : IsOrder net order) (inside : ℕ → Bool) (closed : IsClosed net inside) (bound : ℕ → ℕ) (are : AreBounds net inside bound) where
  by_place : (m n : ℕ) → n < m → n < length order → IsJointIn net inside (get_or order n 0) → HasAtMost (CanStand net (get_or order n 0)) (bound (get_or order n 0))
  by_place zero n lt n_in is = absurd (omega arith)
  by_place (suc m) n lt n_in is =
      few_here net wired inside bound are (get_or order n 0) is (λ row k brings.
      let earlier = (order_in_order net wired order is_order).brought n row k n_in brings in
      let fed : side_at net (taker_of net k) ≡ side_at net (giver_of net (get_or order n 0)) = brings_feeds net wired (get_or order n 0) row k is.0 brings in
      let k_in : IsJointIn net inside k = (brings.in_range, closed.along k no_joint brings.in_range ∙ ap inside fed ∙ is.1) in
      subst (λ (i : ℕ). HasAtMost (CanStand net i) (bound i)) earlier.2
      (by_place m earlier.0 (omega (arith, earlier.1)) (omega (arith, earlier.1)) (subst (λ (i : ℕ). IsJointIn net inside i) (sym earlier.2) k_in)))

  few_at : (j : ℕ) → IsJointIn net inside j → HasAtMost (CanStand net j) (bound j)
  few_at j is =
      let place = place_of net order is_order j is.0 in
      subst (λ (i : ℕ). HasAtMost (CanStand net i) (bound i)) place.2
      (by_place (suc place.0) place.0 (omega arith) place.1 (subst (λ (i : ℕ). IsJointIn net inside i) (sym place.2) is))

pub few_stand : FewItemsStand
few_stand net wired order is_order inside closed bound are j is = few_at net wired order is_order inside closed bound are j is
