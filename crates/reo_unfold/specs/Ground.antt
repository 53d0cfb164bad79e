-- What the unfolding reads of a program.
use Rattle.std.specs.Prelude.{ℕ, ◌≡◌, ◌<◌, List, [], ◌∷◌, ◌++◌, Some, max, length, take, slice_get, slice_index_or}
use Rattle.std.specs.List.{sum_by, fold}
use Rattle.reo_trees.specs.declared.items.Item.{Item}
use Rattle.reo_trees.specs.declared.programs.Connector.{Connector}
use Rattle.reo_trees.specs.declared.programs.Declaration.{Declaration}
use Rattle.reo_trees.specs.declared.programs.Declaration.TheVariants as declarations
use Rattle.reo_rules.specs.Types.{types_of}
use Rattle.reo_rules.specs.Scopes.{connectors_of, connector_names}
use Rattle.reo_flat.specs.Unfolding.{Meaning, meanings_of, uses_in, depth_in, placed_in}
use Rattle.reo_flat.specs.Counts.{IsSizeOf, AreSizes}
use Rattle.reo_flat.specs.declared.sizes.Sizes.{Sizes}
use Rattle.reo_unfold.specs.declared.ground.Stand.{Stand}
use Rattle.reo_unfold.specs.declared.ground.Ground.{Ground}
use Rattle.reo_unfold.specs.Known.{AreTypes}

-- The connector of this number stands there, behind so many types.
pub record IsStand (ds : List Declaration) (number : ℕ) (c : Connector) (s : Stand) : Type 0 where
  pub there : slice_get ds s.place ≡ Some (declarations.Made c)
  pub before : length (connectors_of (take s.place ds)) ≡ number
  pub types : length (types_of (take s.place ds)) ≡ s.types

-- The stand of a connector that there is.
pub record Stands (ds : List Declaration) (number : ℕ) (s : Stand) : Type 0 where
  pub connector : Connector
  pub is : IsStand ds number connector s

-- Types, connectors, stands and sizes are those of the program.
pub record IsGround (ds : List Declaration) (g : Ground) : Type 0 where
  pub types : AreTypes (types_of ds) g.types
  pub names : g.connectors ≡ connector_names ds
  pub one_each : length g.stands ≡ length (connectors_of ds)
  pub stands : (number : ℕ) (s : Stand) → number < length g.stands → Stands ds number (slice_index_or g.stands number s)
  pub sizes : AreSizes (meanings_of ds) g.connectors g.sizes

-- One connector's sizes come at the end, by the connectors before.
pub record AddsSizes (known : List Meaning) (is : List Item) (old new : List Sizes) : Type 0 where
  pub size : Sizes
  pub added : new ≡ old ++ size ∷ []
  pub is_size : IsSizeOf (sum_by (λ (i : Item). uses_in known i.form) is) (fold (λ most (i : Item). max most (depth_in known i.form)) 0 is) (sum_by (λ (i : Item). placed_in known i.form) is) size
