-- What a program's flat circuit is made from.
use Rattle.std.specs.Prelude.{◌≡◌, List, map}
use Rattle.reo_trees.specs.declared.programs.Declaration.{Declaration}
use Rattle.reo_flat.specs.Unfolding.{Placed}
use Rattle.reo_flat.specs.Flat.{primitives_of, placed_of, ports_of, joints_in, nodes_of, homes_in}
use Rattle.reo_flatten.specs.declared.last.Parts.{Parts}
use Rattle.reo_flatten.specs.declared.unfolded.UnfoldedMain.{UnfoldedMain}

pub record IsParts (ds : List Declaration) (parts : Parts) : Type 0 where
  pub kinds : parts.kinds ≡ primitives_of ds
  pub ports : parts.ports ≡ ports_of ds
  pub joints : parts.joints ≡ joints_in ds
  pub nodes : parts.nodes ≡ nodes_of ds
  pub homes : parts.homes ≡ homes_in ds

-- Its ports, its nodes, and what is placed between nodes.
pub record IsBegun (ds : List Declaration) (b : UnfoldedMain) : Type 0 where
  pub ports : b.ports ≡ ports_of ds
  pub nodes : b.made.nodes ≡ nodes_of ds
  pub kinds : b.made.kinds ≡ map (λ (p : Placed). p.kind) (placed_of ds)
  pub ends : b.made.ends ≡ map (λ (p : Placed). p.nodes) (placed_of ds)
