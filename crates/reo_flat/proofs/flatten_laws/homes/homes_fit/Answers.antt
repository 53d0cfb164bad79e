-- Node by node.
use Rattle.std.proofs.Common.{◌≡◌, ◌∙◌, ℕ, ◌+◌, suc, List, [], ◌∷◌, length, refl, sym}
use Rattle.std.proofs.lemmas.List.{length-append, length-replicate}
use Rattle.reo_flat.specs.Unfolding.{Placed}
use Rattle.reo_flat.specs.Ends.{incoming, outgoing}
use Rattle.reo_flat.specs.Joints.{joints_of, many}
use Rattle.reo_flat.specs.Flat.{homes_at, joints_at, placed_of, nodes_of}
use Rattle.reo_flat.proofs.flatten_laws.homes.homes_fit.Goals as goal

fit : (placed : List Placed) (i at : ℕ) (ns : List (List ℕ)) → length (homes_at placed i at ns) ≡ length (joints_at placed at ns)
fit placed i at [] = refl
fit placed i at (n ∷ ns) =
    let here = joints_of (incoming placed n) (outgoing placed n) at in
    length-append _ _ ∙ (λ k. length-replicate (length here) i k + fit placed (suc i) (at + (many (incoming placed n) + many (outgoing placed n))) ns k) ∙ sym (length-append here _)

pub returns : goal.returns
returns c ds = fit (placed_of ds) 0 (length (placed_of ds)) (nodes_of ds)
