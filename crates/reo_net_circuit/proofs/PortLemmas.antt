-- One primitive changes.
use Rattle.std.proofs.Common.{◌≡◌, ◌≢◌, inl, inr, Option, ℕ, zero, suc, ◌<◌, List, [], ◌∷◌, length, map, get_or, set, refl, sym, ap, ◌∙◌, arith}
use Rattle.std.proofs.lemmas.Bool.{cases_eq}
use Rattle.std.proofs.lemmas.List.{length-map}
use Rattle.reo_net_base.specs.Behaviour.{Behaviour}
use Rattle.reo_net_base.specs.Lawful.{SameShape}
use Rattle.reo_net_base.specs.Net.{behaviour_at}
use Rattle.reo_net_base.specs.Step.{change_at}
use Rattle.reo_net_base.specs.PortState.{PortState, port_state_at}
use Rattle.reo_net_base.specs.Shapes.{SameShapes, SameWays}
use Rattle.reo_net_base.specs.declared.port.Offer.{Offer}
use Rattle.reo_net_circuit.specs.Offers.{OnlyPort}
use Rattle.reo_net_circuit.proofs.ReshapeLemmas.{same_shape}

pub change_is : {X : Type 0} (f : X → X) (xs : List X) (i : ℕ) (d : X) → i < length xs → set xs i (f (get_or xs i d)) ≡ change_at f xs i
change_is f [] i d lt = refl
change_is f (x ∷ xs) zero d lt = refl
change_is f (x ∷ xs) (suc i) d lt = ap (λ ys. x ∷ ys) (change_is f xs i d (omega arith))

pub change_length : {X : Type 0} (f : X → X) (xs : List X) (i : ℕ) → length (change_at f xs i) ≡ length xs
change_length f [] i = refl
change_length f (x ∷ xs) zero = refl
change_length f (x ∷ xs) (suc i) = ap suc (change_length f xs i)

module _ {P : Type 0} (behaviour : P → Behaviour) (f : P → P) (law : (p : P) → SameShape (behaviour p) (behaviour (f p))) where
  count : (ps : List P) (i : ℕ) → length (map behaviour (change_at f ps i)) ≡ length (map behaviour ps)
  count [] i = refl
  count (p ∷ ps) zero = refl
  count (p ∷ ps) (suc i) = ap suc (count ps i)

  same : (ps : List P) (i k : ℕ) → SameShape (behaviour_at (map behaviour ps) k) (behaviour_at (map behaviour (change_at f ps i)) k)
  same [] i k = same_shape (behaviour_at [] k)
  same (p ∷ ps) zero zero = law p
  same (p ∷ ps) zero (suc k) = same_shape (behaviour_at (map behaviour ps) k)
  same (p ∷ ps) (suc i) zero = same_shape (behaviour p)
  same (p ∷ ps) (suc i) (suc k) = same ps i k

  pub changed : (ps : List P) (i : ℕ) → SameShapes (map behaviour ps) (map behaviour (change_at f ps i))
  changed ps i = record { count = count ps i; same = λ k lt. same ps i k }

-- One primitive is replaced by another of its shape.
module _ {P : Type 0} (behaviour : P → Behaviour) (q : P) where
  put_same : (ps : List P) (i k : ℕ) → SameShape (behaviour_at (map behaviour ps) i) (behaviour q)
      → SameShape (behaviour_at (map behaviour ps) k) (behaviour_at (map behaviour (change_at (λ _. q) ps i)) k)
  put_same [] i k law = same_shape (behaviour_at [] k)
  put_same (p ∷ ps) zero zero law = law
  put_same (p ∷ ps) zero (suc k) law = same_shape (behaviour_at (map behaviour ps) k)
  put_same (p ∷ ps) (suc i) zero law = same_shape (behaviour p)
  put_same (p ∷ ps) (suc i) (suc k) law = put_same ps i k law

  pub replaced : (ps : List P) (i : ℕ) → SameShape (behaviour_at (map behaviour ps) i) (behaviour q)
      → SameShapes (map behaviour ps) (map behaviour (change_at (λ _. q) ps i))
  replaced ps i law = record {
    count = length-map (change_at (λ _. q) ps i) behaviour ∙ change_length (λ _. q) ps i ∙ sym (length-map ps behaviour);
    same = λ k lt. put_same ps i k law;
  }

  -- What is put is read there.
  pub put_here : (port_state : P → PortState) (ps : List P) (i : ℕ) → i < length ps → port_state_at (map port_state (change_at (λ _. q) ps i)) i ≡ port_state q
  put_here port_state [] i lt = absurd (omega arith)
  put_here port_state (p ∷ ps) zero lt = refl
  put_here port_state (p ∷ ps) (suc i) lt = put_here port_state ps i (omega arith)

-- The states after one primitive changed.
module _ {P : Type 0} (port_state : P → PortState) (f : P → P) where
  pub port_state_here : (Q : PortState → PortState → Type 0) → ((p : P) → Q (port_state p) (port_state (f p))) → (ps : List P) (i : ℕ) → i < length ps → Q (port_state_at (map port_state ps) i) (port_state_at (map port_state (change_at f ps i)) i)
  port_state_here Q law [] i lt = absurd (omega arith)
  port_state_here Q law (p ∷ ps) zero lt = law p
  port_state_here Q law (p ∷ ps) (suc i) lt = port_state_here Q law ps i (omega arith)

  pub port_state_other : (ps : List P) (i k : ℕ) → k ≢ i → port_state_at (map port_state (change_at f ps i)) k ≡ port_state_at (map port_state ps) k
  port_state_other [] i k ne = refl
  port_state_other (p ∷ ps) zero zero ne = absurd (ne refl)
  port_state_other (p ∷ ps) zero (suc k) ne = refl
  port_state_other (p ∷ ps) (suc i) zero ne = refl
  port_state_other (p ∷ ps) (suc i) (suc k) ne = port_state_other ps i k (λ e. ne (ap suc e))

-- Where only one port changes, and only its offer, the ways stay.
pub only_ways : (old new : List PortState) (port : ℕ) (pending : Option Offer) → OnlyPort old new port pending → SameWays old new
only_ways old new port pending only = record {
  way = λ i. elim (cases_eq i port) [
    | inl e ↦ rw e only.here.way
    | inr ne ↦ ap (λ (s : PortState). s.way) (only.others i ne)
  ];
  accepts = λ i item. elim (cases_eq i port) [
    | inl e ↦ rw e (only.here.accepts item)
    | inr ne ↦ ap (λ (s : PortState). s.accepts item) (only.others i ne)
  ];
}
