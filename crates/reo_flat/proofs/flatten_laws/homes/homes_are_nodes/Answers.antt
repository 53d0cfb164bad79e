-- Node by node.
use Rattle.std.proofs.Common.{arith, ◌≡◌, ℕ, ◌+◌, ◌<◌, zero, suc, List, [], ◌∷◌, length, replicate}
use Rattle.std.specs.List.{AllByRecursion}
use Rattle.reo_flat.specs.Unfolding.{Placed}
use Rattle.reo_flat.specs.Ends.{incoming, outgoing}
use Rattle.reo_flat.specs.Joints.{joints_of, many}
use Rattle.reo_flat.specs.Flat.{homes_at, placed_of, nodes_of, homes_in}
use Rattle.reo_flat.proofs.flatten_laws.homes.homes_are_nodes.Goals as goal
use Rattle.reo_flat.proofs.flatten_laws.Each.{both, each_of}

copies : (P : ℕ → Type 0) (n i : ℕ) → P i → AllByRecursion P (replicate n i)
copies P zero i here = tt
copies P (suc n) i here = (here, copies P n i here)

below_end : (end : ℕ) (placed : List Placed) (i at : ℕ) (ns : List (List ℕ)) → i + length ns ≡ end → AllByRecursion (λ h. h < end) (homes_at placed i at ns)
below_end end placed i at [] is = tt
below_end end placed i at (n ∷ ns) is =
    both (λ h. h < end) (replicate (length (joints_of (incoming placed n) (outgoing placed n) at)) i) _ (copies (λ h. h < end) (length (joints_of (incoming placed n) (outgoing placed n) at)) i (omega arith))
    (below_end end placed (suc i) (at + (many (incoming placed n) + many (outgoing placed n))) ns (omega arith))

pub returns : goal.returns
returns c ds = each_of (λ h. h < length (nodes_of ds)) (homes_in ds) (below_end (length (nodes_of ds)) (placed_of ds) 0 (length (placed_of ds)) (nodes_of ds) (omega arith))
