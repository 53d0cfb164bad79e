-- Circuits at whose ports exactly some offers are pending.
use Rattle.std.proofs.Common.{◌≡◌, ◌≢◌, ◌∙◌, ℕ, zero, suc, ◌+◌, ◌<◌, ◌≤◌, true, false, cond, List, [], ◌∷◌, refl, sym, ap, arith}
use Rattle.std.specs.Prelude.{Option, Some, None, is_some, nat_lt, slice_get}
use Rattle.std.proofs.lemmas.Bool.Decides.{nat_tests}
use Rattle.reo_net_base.specs.declared.port.Offer.{Offer}
use Rattle.reo_net_base.specs.Net.{Wiring}
use Rattle.reo_net_base.specs.Step.{change_at}
use Rattle.reo_rounds.specs.Rules.{Rules}
use Rattle.reo_rounds.specs.Ready.{cleared, with_pending, ports_ready, ready}

both : {X : Type 0} {x y : X} {xs ys : List X} → x ≡ y → xs ≡ ys → x ∷ xs ≡ y ∷ ys
both e es = cc

-- The offers at the ports alone matter.
pub same_list : {P : Type 0} (r : Rules P) (f g : ℕ → Option Offer) (limit k : ℕ) (ps : List P) → ((i : ℕ) → k ≤ i → i < limit → f i ≡ g i) → ports_ready r f limit k ps ≡ ports_ready r g limit k ps
same_list r f g limit k [] same = refl
same_list r f g limit k (p ∷ ps) same =
    let head : cond (nat_lt k limit) (with_pending r (f k) p) p ≡ cond (nat_lt k limit) (with_pending r (g k) p) p =
    elim (nat_lt k limit) as (λ t. nat_lt k limit ≡ t → cond t (with_pending r (f k) p) p ≡ cond t (with_pending r (g k) p) p) [
      | true ↦ λ yes. ap (λ o. with_pending r o p) (same k (omega arith) (grind (arith, nat_tests)))
      | false ↦ λ no. refl
    ] refl in
    both head (same_list r f g limit (suc k) ps (λ i le lt. same i (omega arith) lt))

pub ready_same : {P : Type 0} (r : Rules P) (f g : ℕ → Option Offer) (w : Wiring P) → ((i : ℕ) → i < w.ports → f i ≡ g i) → ready r f w ≡ ready r g w
ready_same r f g w same = ap (λ ps. record w { primitives = ps }) (same_list r f g w.ports 0 w.primitives (λ i _ lt. same i lt))

-- A change at one port that makes what is pending there another.
pub changed_list : {P : Type 0} (r : Rules P) (h : P → P) (f g : ℕ → Option Offer) (limit k q : ℕ) (ps : List P) → k + q < limit
    → ((p : P) → slice_get ps q ≡ Some p → h (with_pending r (f (k + q)) p) ≡ with_pending r (g (k + q)) p)
    → ((i : ℕ) → i ≢ k + q → g i ≡ f i)
    → change_at h (ports_ready r f limit k ps) q ≡ ports_ready r g limit k ps
changed_list r h f g limit k q [] lt here others = refl
changed_list r h f g limit k zero (p ∷ ps) lt here others =
    let yes : nat_lt k limit ≡ true = grind (arith, nat_tests) in
    let same : k + zero ≡ k = omega arith in
    let head = rw same at here in
    rw yes (both (head p refl) (same_list r f g limit (suc k) ps (λ i le lt. sym (others i (omega arith)))))
changed_list r h f g limit k (suc q) (p ∷ ps) lt here others =
    let next : k + suc q ≡ suc k + q = omega arith in
    let head : cond (nat_lt k limit) (with_pending r (f k) p) p ≡ cond (nat_lt k limit) (with_pending r (g k) p) p =
    ap (λ o. cond (nat_lt k limit) (with_pending r o p) p) (sym (others k (omega arith))) in
    both head (changed_list r h f g limit (suc k) q ps (omega arith) (rw next at here) (rw next at others))

-- With its own offers pending a circuit is as it is.
module _ {P : Type 0} (r : Rules P) (again : (p : P) (o : Offer) → (r.port_state p).pending ≡ Some o → r.placed (r.withdrawn p) o ≡ p) where
  cleared_is : (p : P) (o : Offer) → (r.port_state p).pending ≡ Some o → cleared r p ≡ r.withdrawn p
  cleared_is p o some = ap (λ (u : Option Offer). cond (is_some u) (r.withdrawn p) p) some

  pub self_at : (p : P) → with_pending r (r.port_state p).pending p ≡ p
  self_at p =
      elim (r.port_state p).pending as (λ o. (r.port_state p).pending ≡ o → with_pending r o p ≡ p) [
        | None ↦ λ none. ap (λ (u : Option Offer). cond (is_some u) (r.withdrawn p) p) none
        | Some o ↦ λ some. ap (λ q. r.placed q o) (cleared_is p o some) ∙ again p o some
      ] refl

  -- what is taken back was there before
  pub taken_at : (p : P) (o : Offer) → (r.port_state p).pending ≡ Some o → r.withdrawn (with_pending r (Some o) p) ≡ with_pending r None p
  taken_at p o some = ap (λ q. r.withdrawn (r.placed q o)) (cleared_is p o some) ∙ (ap r.withdrawn (again p o some) ∙ sym (cleared_is p o some))

  self_list : (f : ℕ → Option Offer) (limit k : ℕ) (ps : List P) → ((i : ℕ) (p : P) → slice_get ps i ≡ Some p → f (k + i) ≡ (r.port_state p).pending) → ports_ready r f limit k ps ≡ ps
  self_list f limit k [] own = refl
  self_list f limit k (p ∷ ps) own =
      let zeroth : k + zero ≡ k = omega arith in
      let here : f k ≡ (r.port_state p).pending = rw zeroth at (own zero p refl) in
      let head : cond (nat_lt k limit) (with_pending r (f k) p) p ≡ p =
      elim (nat_lt k limit) as (λ t. cond t (with_pending r (f k) p) p ≡ p) [ true ↦ ap (λ o. with_pending r o p) here ∙ self_at p | false ↦ refl ] in
      both head (self_list f limit (suc k) ps (λ i q got. let next : k + suc i ≡ suc k + i = omega arith in rw next at (own (suc i) q got)))

  pub ready_self : (f : ℕ → Option Offer) (w : Wiring P) → ((i : ℕ) (p : P) → slice_get w.primitives i ≡ Some p → f i ≡ (r.port_state p).pending) → w ≡ ready r f w
  ready_self f w own = ap (λ ps. record w { primitives = ps }) (sym (self_list f w.ports 0 w.primitives (λ i p got. let zeroth : 0 + i ≡ i = omega arith in rw zeroth (own i p got))))
