-- What a search by marks comes to.
use Rattle.std.specs.Prelude.{ℕ, ◌*◌, ◌<◌, ◌≡◌, Bool, true, false, List, Option, length, slice_index}
use Rattle.reo_values.specs.declared.value.Value.{Value}
use Rattle.reo_net_base.specs.Net.{Net}
use Rattle.reo_net_base.specs.Sides.{side_count}
use Rattle.reo_net_laws.specs.Jams.{jams, IsThreeColouring}
use Rattle.reo_net_laws.specs.state_laws.States.{AreFirstRows}
use Rattle.reo_mark_search.specs.Spots.{AreSpots}
use Rattle.reo_mark_search.specs.declared.found.MarkFinding.{MarkFinding}
use Rattle.reo_mark_search.specs.declared.found.MarkFinding.TheVariants.{Rows, Jam, Unknown}
use Rattle.reo_mark_search.specs.declared.search.MarkSearch.{MarkSearch}

-- What is kept for the searches of a circuit.
pub record IsMarkSearch (net : Net) (search : MarkSearch) : Type 0 where
  pub spots : AreSpots net search.spots
  pub one_form : length search.forms ≡ side_count net
  pub two_each : length search.sets ≡ 2 * length net.joints

-- At the sides outside of a set all rows stay.
pub record AreRowsElsewhere (inside : ℕ → Bool) (old new : List ℕ) : Type 0 where
  pub one_each : length new ≡ length old
  pub others : (s : ℕ) → inside s ≡ false → slice_index new s ≡ slice_index old s

-- At the sides of a set the rows are those of its first assignment.
pub record HasFirstRows (net : Net) (inside : ℕ → Bool) (turn : ℕ) (rows : List ℕ) : Type 0 where
  pub those : List ℕ
  pub first : AreFirstRows net inside turn those
  pub same : (s : ℕ) → s < side_count net → inside s ≡ true → slice_index rows s ≡ slice_index those s

-- The rows are first on the set, and none jams; or they are first, and nothing does without a jam;
-- or nothing is known.
abbrev pub IsFound : Net → (ℕ → Bool) → ℕ → List ℕ → MarkFinding → Type 0
IsFound net inside turn rows Rows =
    HasFirstRows net inside turn rows × ((k : ℕ) → k < side_count net → inside k ≡ true → jams net rows k ≡ false)
IsFound net inside turn rows Jam =
    HasFirstRows net inside turn rows
    × ((others : List ℕ) (items : List (Option Value)) → IsThreeColouring net inside others items → ⊥)
IsFound net inside turn rows Unknown = Unit {0}
