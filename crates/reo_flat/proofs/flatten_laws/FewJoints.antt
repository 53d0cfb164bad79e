-- How many joints there are.
use Rattle.std.proofs.Common.{arith, lit≤, suc, ◌≡◌, ℕ, ◌+◌, ◌*◌, ◌<◌, ◌≤◌, List, [], ◌∷◌, ◌++◌, length, Bool, true, false, cond, refl}
use Rattle.std.specs.List.{AllByRecursion}
use Rattle.std.proofs.lemmas.Bool.{leb-false}
use Rattle.std.proofs.lemmas.List.{length-append}
use Rattle.reo_net_base.specs.declared.joint.End.{End}
use Rattle.reo_net_base.specs.Net.{end_of}
use Rattle.reo_flat.specs.Unfolding.{Placed}
use Rattle.reo_flat.specs.Ends.{incoming, outgoing}
use Rattle.reo_flat.specs.Joints.{is_many, end_range, pairs, joints_between, joints_of, many}
use Rattle.reo_flat.specs.Flat.{joints_at}
use Rattle.reo_flat.proofs.flatten_laws.Times.{weigh}
use Rattle.reo_flat.proofs.flatten_laws.NodeSums.{over, listed, all_listed, IsServed}
use Rattle.reo_flat.proofs.flatten_laws.TwoEnds.{IsNarrow}

pub counted : (xs : List End) → weigh (λ x. 1) xs ≡ length xs
counted [] = refl
counted (x ∷ xs) = let rest = counted xs in omega arith

by_givers : (gs ts : List End) → length (pairs gs ts) ≤ length gs
by_givers [] ts = lit≤ tt
by_givers (g ∷ gs) [] = omega arith
by_givers (g ∷ gs) (t ∷ ts) = let rest = by_givers gs ts in omega arith

by_takers : (gs ts : List End) → length (pairs gs ts) ≤ length ts
by_takers [] ts = omega arith
by_takers (g ∷ gs) [] = lit≤ tt
by_takers (g ∷ gs) (t ∷ ts) = let rest = by_takers gs ts in omega arith

-- At most one more than there are ends.
few_at_node : (ins outs : List End) (m r : ℕ) → length (joints_between ins outs m r) ≤ (length ins + 1) + length outs
few_at_node ins outs m r = step (is_many ins) (is_many outs) (λ few. leb-false 2 (length ins) few) where
  step : (a b : Bool) → (a ≡ false → length ins < 2)
      → length (cond a (pairs ins (end_range m 0 (length ins))) [] ++ (pairs (cond a (end_of m (length ins) ∷ []) ins) (cond b (end_of r 0 ∷ []) outs) ++ cond b (pairs (end_range r 1 (length outs)) outs) [])) ≤ (length ins + 1) + length outs
  step a b less =
      let x = cond a (pairs ins (end_range m 0 (length ins))) [] in
      let y = pairs (cond a (end_of m (length ins) ∷ []) ins) (cond b (end_of r 0 ∷ []) outs) in
      let z = cond b (pairs (end_range r 1 (length outs)) outs) [] in
      let l1 = length-append x (y ++ z) in
      let l2 = length-append y z in
      let fx = first a in
      let fy = middle a (cond b (end_of r 0 ∷ []) outs) less in
      let fz = last b in
      omega arith where
        first : (c : Bool) → length (cond c (pairs ins (end_range m 0 (length ins))) []) ≤ length ins
        first true = by_givers ins (end_range m 0 (length ins))
        first false = omega arith

        middle : (c : Bool) (ts : List End) → (c ≡ false → length ins < 2) → length (pairs (cond c (end_of m (length ins) ∷ []) ins) ts) ≤ 1
        middle true ts l = by_givers (end_of m (length ins) ∷ []) ts
        middle false ts l = let g = by_givers ins ts in let k = l refl in omega arith

        last : (c : Bool) → length (cond c (pairs (end_range r 1 (length outs)) outs) []) ≤ length outs
        last true = by_takers (end_range r 1 (length outs)) outs
        last false = omega arith

-- Over nodes that are served.
pub few_joints : (placed : List Placed) (at : ℕ) (ns : List (List ℕ)) → AllByRecursion (IsServed placed) ns
    → length (joints_at placed at ns) ≤ 2 * over (λ n. weigh (λ x. 1) (incoming placed n) + weigh (λ x. 1) (outgoing placed n)) ns
few_joints placed at [] served = lit≤ tt
few_joints placed at (n ∷ ns) served =
    let here = few_at_node (incoming placed n) (outgoing placed n) at (at + many (incoming placed n)) in
    let some = served.0.0 in
    let rest = few_joints placed (at + (many (incoming placed n) + many (outgoing placed n))) ns served.1 in
    let both = length-append (joints_of (incoming placed n) (outgoing placed n) at) (joints_at placed (at + (many (incoming placed n) + many (outgoing placed n))) ns) in
    let a = counted (incoming placed n) in
    let b = counted (outgoing placed n) in
    omega arith

listed_nodes : (i end : ℕ) (ns : List (List ℕ)) → listed (λ x. 1) i end ns ≡ length ns
listed_nodes i end [] = refl
listed_nodes i end (n ∷ ns) = let rest = listed_nodes i (suc end) ns in omega arith

pub few_listed : (i : ℕ) (ps : List Placed) → AllByRecursion IsNarrow ps → all_listed (λ x. 1) i ps ≤ 2 * length ps
few_listed i [] narrow = lit≤ tt
few_listed i (p ∷ ps) narrow = let here = listed_nodes i 0 p.nodes in let two = narrow.0 in let rest = few_listed (suc i) ps narrow.1 in omega arith
