-- The numbers of sides, and what no fault tells of a circuit.
use Rattle.std.proofs.Common.{◌≡◌, ◌≢◌, ℕ, ◌+◌, ◌<◌, List, [], ◌∷◌, ◌++◌, length, map, get_or, take, ap, sym, ◌∙◌, arith, below_more}
use Rattle.std.proofs.Math.Seq.{get_or-append_seam}
use Rattle.std.proofs.lemmas.List.{length-map, get_or-map, length-append, get_or_append_left, take_more, map-append}
use Rattle.reo_net_base.specs.Wired.{NoCycle, IsWired}
use Rattle.reo_net_base.specs.declared.joint.Joint.{Joint}
use Rattle.reo_net_base.specs.Lawful.{IsLawful}
use Rattle.reo_net_base.specs.Net.{Net, behaviour_at, side_at, from_sides, to_sides}
use Rattle.reo_net_circuit.specs.Parts.{AreJoints}
use Rattle.reo_net_circuit.specs.Fault.{AllJoined, AllRight, HasNoFault}

pub below_push : (xs : List ℕ) (x n : ℕ) → ((k : ℕ) → k < length xs → get_or xs k 0 < n) → x < n → (k : ℕ) → k < length (xs ++ x ∷ []) → get_or (xs ++ x ∷ []) k 0 < n
below_push xs x n below lt k k_lt = below_more (λ i. get_or (xs ++ x ∷ []) i 0 < n) (length xs)
    (λ i i_lt. rw (get_or_append_left xs (x ∷ []) 0 i i_lt) (below i i_lt))
    (rw (get_or-append_seam xs x [] 0) lt) k (omega (arith, length-append xs (x ∷ [])))

pub map_more : {X : Type 0} (f : X → ℕ) (xs : List X) (k : ℕ) (x : X) → k < length xs → get_or xs k x ≡ x → map f (take (k + 1) xs) ≡ map f (take k xs) ++ f x ∷ []
map_more f xs k x lt is = ap (map f) (take_more xs k x lt) ∙ map-append f (take k xs) (get_or xs k x ∷ []) ∙ ap (λ y. map f (take k xs) ++ f y ∷ []) is

module _ (net : Net) where
  from_at : (j : ℕ) (d : Joint) → j < length net.joints → get_or (from_sides net) j 0 ≡ side_at net (get_or net.joints j d).giver
  from_at j d lt = get_or-map (λ (k : Joint). side_at net k.giver) net.joints j d 0 lt

  to_at : (j : ℕ) (d : Joint) → j < length net.joints → get_or (to_sides net) j 0 ≡ side_at net (get_or net.joints j d).taker
  to_at j d lt = get_or-map (λ (k : Joint). side_at net k.taker) net.joints j d 0 lt

  from_count : length (from_sides net) ≡ length net.joints
  from_count = length-map net.joints (λ (k : Joint). side_at net k.giver)

  -- A joint with both ends at one side would be a cycle by itself.
  pub sides_apart : NoCycle (from_sides net) (to_sides net) → (j : ℕ) (d : Joint) → j < length net.joints → side_at net (get_or net.joints j d).giver ≢ side_at net (get_or net.joints j d).taker
  sides_apart none j d lt same = none j (omega (arith, from_count), record { by = []; walk = to_at j d lt ∙ sym same ∙ sym (from_at j d lt) })

  pub wired_is : AreJoints net → AllJoined net → AllRight net → NoCycle (from_sides net) (to_sides net) → ((i : ℕ) → i < length net.primitives → IsLawful (behaviour_at net.primitives i)) → IsWired net
  wired_is are joined right none lawful = record {
    lawful = lawful;
    givers = are.givers;
    takers = are.takers;
    gives = λ j d lt. (right j d lt).gives;
    takes = λ j d lt. (right j d lt).takes;
    each_end = λ i end lt end_lt. joined i lt end end_lt;
    apart = sides_apart none;
  }

-- What holds of a circuit denies each cause of a fault.
pub no_fault : (net : Net) → IsWired net → NoCycle (from_sides net) (to_sides net) → HasNoFault net
no_fault net wired none = record {
  joined = λ i lt end end_lt. wired.each_end i end lt end_lt;
  right = λ j d lt. record { gives = wired.gives j d lt; takes = wired.takes j d lt };
  no_cycle = none;
}
