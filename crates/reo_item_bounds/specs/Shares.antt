-- The share of one row, and their sum.
use Rattle.std.specs.Prelude.{ℕ, ◌<◌, ◌≤◌, ◌≡◌, true, List, slice_index}
use Rattle.reo_net_base.specs.declared.form.Form.{Form}
use Rattle.reo_net_base.specs.declared.joint.End.{End}
use Rattle.reo_net_base.specs.declared.mark.Mark.TheVariants.{F}
use Rattle.reo_net_base.specs.Behaviour.{Behaviour}
use Rattle.reo_net_base.specs.Net.{end_of}
use Rattle.reo_net_base.specs.Forms.{IsPlaceOf, mark_by}
use Rattle.reo_net_circuit.specs.found_ends.Ends.{joint_at}
use Rattle.reo_weights.specs.Bounds.{sum_below}

-- At least the number that is noted for each joint at which a row of a form takes in.
abbrev pub Covers : Behaviour → ℕ → ℕ → Form → List (List ℕ) → List ℕ → ℕ → ℕ → Type 0
Covers b primitive side form ends bounds row most = (end : ℕ) → IsPlaceOf form side end → b.takes_in end ≡ true
    → mark_by form row end ≡ F → slice_index bounds (joint_at ends (end_of primitive end)) ≤ most

-- A share for a row of a form: at least one, and what covers the row.
pub record IsShare (b : Behaviour) (primitive side : ℕ) (form : Form) (ends : List (List ℕ)) (bounds : List ℕ)
    (row share : ℕ) : Type 0 where
  pub one : 1 ≤ share
  pub each : Covers b primitive side form ends bounds row share

-- The first so many rows of a form by which an end flows have shares whose sum is no greater.
pub record AreShared (b : Behaviour) (giver : End) (form : Form) (ends : List (List ℕ)) (bounds : List ℕ)
    (rows sum : ℕ) : Type 0 where
  pub share : ℕ → ℕ
  pub together : sum_below rows share ≤ sum
  pub each : (row : ℕ) → row < rows → mark_by form row giver.end ≡ F
      → IsShare b giver.primitive (b.side_of giver.end) form ends bounds row (share row)
