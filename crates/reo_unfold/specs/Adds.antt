-- What an unfolding adds.
use Rattle.std.specs.Prelude.{ℕ, ◌≡◌, ◌++◌, List, map}
use Rattle.reo_flat.specs.Unfolding.{Placed}
use Rattle.reo_unfold.specs.declared.unfold.Unfolded.{Unfolded}

-- These nodes and these channels came at the end.
pub record Adds (old new : Unfolded) (nodes : List (List ℕ)) (placed : List Placed) : Type 0 where
  pub nodes_are : new.nodes ≡ old.nodes ++ nodes
  pub kinds_are : new.kinds ≡ old.kinds ++ map (λ (p : Placed). p.kind) placed
  pub ends_are : new.ends ≡ old.ends ++ map (λ (p : Placed). p.nodes) placed
