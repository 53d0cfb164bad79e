-- Places that are noted by the joints of ends.
use Rattle.std.proofs.Common.{◌≡◌, ◌∙◌, ℕ, ◌+◌, ◌*◌, ◌<◌, cond, List, [], length, slice_index, slice_index_or, add-zero}
use Rattle.reo_net_base.specs.declared.joint.End.{End}
use Rattle.reo_net_base.specs.Net.{Net, behaviour_at, end_of}
use Rattle.reo_net_base.specs.Wired.{IsWired}
use Rattle.reo_net_circuit.specs.found_ends.Ends.{AreEnds, joint_at}
use Rattle.reo_net_circuit.proofs.found_ends.EndLemmas.{find_joints}
use Rattle.reo_mark_search.specs.Spots.{AreSpots}

pub noted_spots : (net : Net) → IsWired net → (ends : List (List ℕ)) → AreEnds net ends → (spots : List (List ℕ)) → length spots ≡ length net.primitives
    → ((i : ℕ) → i < length net.primitives → length (slice_index_or spots i []) ≡ (behaviour_at net.primitives i).ends)
    → ((i e : ℕ) → i < length net.primitives → e < (behaviour_at net.primitives i).ends → slice_index (slice_index_or spots i []) e ≡ 2 * joint_at ends (end_of i e) + cond ((behaviour_at net.primitives i).takes_in e) 1 0)
    → AreSpots net spots
noted_spots net wired ends are spots count one_each each = record {
  one_list = count;
  one_each = one_each;
  giver = λ j d lt.
      let e : End = (slice_index_or net.joints j d).giver in
      let e_in = wired.givers j d lt in
      each e.primitive e.end e_in.0 e_in.1
      ∙ (λ i. 2 * (find_joints net wired ends are).of_giver j d lt i + cond (wired.gives j d lt i) 1 0)
      ∙ add-zero (2 * j);
  taker = λ j d lt.
      let e : End = (slice_index_or net.joints j d).taker in
      let e_in = wired.takers j d lt in
      each e.primitive e.end e_in.0 e_in.1
      ∙ (λ i. 2 * (find_joints net wired ends are).of_taker j d lt i + cond (wired.takes j d lt i) 1 0);
}
