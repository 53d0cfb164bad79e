-- Noting the joints of a circuit at their ends.
use Rattle.std.proofs.Common.{◌≡◌, ℕ, ◌+◌, ◌<◌, Bool, true, false, cond, List, [], ◌∷◌, ◌++◌, length, get_or, refl, ap, sym, ◌∙◌, arith, below_more, length-append}
use Rattle.std.proofs.Math.Seq.{get_or-append_seam}
use Rattle.std.proofs.lemmas.List.{get_or_append_left}
use Rattle.reo_net_base.specs.declared.joint.End.{End}
use Rattle.reo_net_base.specs.declared.joint.Joint.{Joint}
use Rattle.reo_net_base.specs.Behaviour.{Behaviour}
use Rattle.reo_net_base.specs.Net.{Net, behaviour_at, is_at}
use Rattle.reo_net_base.specs.Wired.{IsWired, IsEnd}
use Rattle.reo_net_circuit.proofs.NetLemmas.{one_at}
use Rattle.reo_net_circuit.specs.found_ends.Ends.{HasEnd, joint_at, AreEnds}
use Rattle.reo_net_circuit.specs.found_ends.Noted.{HasPlaces, AreSamePlaces, AreNoted}

some_joint : Joint
some_joint = record { giver = record { primitive = 0; end = 0 }; taker = record { primitive = 0; end = 0 } }

-- One list more.
pub more_places : (bs : List Behaviour) (n : ℕ) (table : List (List ℕ)) (list : List ℕ) → HasPlaces bs n table → length list ≡ (behaviour_at bs n).ends → HasPlaces bs (n + 1) (table ++ list ∷ [])
more_places bs n table list are is = record {
  one_list = omega (arith, length-append table (list ∷ []), are.one_list);
  one_each = below_more (λ (i : ℕ). length (get_or (table ++ list ∷ []) i []) ≡ (behaviour_at bs i).ends) n
      (λ i lt. rw (get_or_append_left table (list ∷ []) [] i (omega (arith, are.one_list))) (are.one_each i lt))
      (let read : get_or (table ++ list ∷ []) n [] ≡ list = ap (λ (k : ℕ). get_or (table ++ list ∷ []) k []) (sym are.one_list) ∙ get_or-append_seam table list [] [] in rw read is);
}

-- The same places as before.
pub same_places : (bs : List Behaviour) (n : ℕ) (old new : List (List ℕ)) → AreSamePlaces old new → HasPlaces bs n old → HasPlaces bs n new
same_places bs n old new same are = record {
  one_list = same.one_list ∙ are.one_list;
  one_each = λ i lt. same.one_each i ∙ are.one_each i lt;
}

-- A table of all ends has each end.
pub has_end : (bs : List Behaviour) (table : List (List ℕ)) → HasPlaces bs (length bs) table → (e : End) → IsEnd bs e → HasEnd table e
has_end bs table are e is = (omega (arith, are.one_list, is.0), omega (arith, are.one_each e.primitive is.0, is.1))

-- One joint more is noted.
pub more_noted : (net : Net) → IsWired net → (n : ℕ) (joint : Joint) (old new : List (List ℕ)) → n < length net.joints → ((d : Joint) → get_or net.joints n d ≡ joint)
    → ((e : End) → joint_at new e ≡ cond (is_at e joint) n (joint_at old e)) → AreNoted net n old → AreNoted net (n + 1) new
more_noted net wired n joint old new n_in is noted are e j d e_in j_lt at =
    below_more (λ (k : ℕ). is_at e (get_or net.joints k d) ≡ true → joint_at new e ≡ k) n earlier here j j_lt at
  where
    by : (t : Bool) → is_at e joint ≡ t → joint_at new e ≡ cond t n (joint_at old e)
    by t test = noted e ∙ ap (λ (s : Bool). cond s n (joint_at old e)) test

    earlier : (k : ℕ) → k < n → is_at e (get_or net.joints k d) ≡ true → joint_at new e ≡ k
    earlier k lt k_at = elim (is_at e joint) as (λ t. is_at e joint ≡ t → joint_at new e ≡ k) [
      | true ↦ λ yes.
          let same = one_at net wired e e_in k n d (omega arith) n_in k_at (ap (is_at e) (is d) ∙ yes) in
          absurd (omega (arith, same))
      | false ↦ λ not_it. by false not_it ∙ are e k d e_in lt k_at
    ] refl

    here : is_at e (get_or net.joints n d) ≡ true → joint_at new e ≡ n
    here n_at = by true (sym (ap (is_at e) (is d)) ∙ n_at)

-- Where all joints are noted, each end has its joint.
pub all_noted : (net : Net) → IsWired net → (table : List (List ℕ)) → HasPlaces net.primitives (length net.primitives) table → AreNoted net (length net.joints) table → AreEnds net table
all_noted net wired table places noted = record {
  one_list = places.one_list;
  one_each = places.one_each;
  in_range = λ e is.
      let joined = wired.each_end e.primitive e.end is.0 is.1 in
      rw (noted e joined.joint some_joint is joined.in_range (joined.here some_joint)) joined.in_range;
  here = λ e d is.
      let joined = wired.each_end e.primitive e.end is.0 is.1 in
      rw (noted e joined.joint some_joint is joined.in_range (joined.here some_joint)) (joined.here d);
}
