-- What is looked at of the sides of a part.
use Rattle.std.specs.Prelude.{ℕ, ◌-◌, ◌%◌, ◌<◌, ◌≡◌, List, length, slice_index, slice_index_or}
use Rattle.reo_net_base.specs.declared.form.Form.{Form}
use Rattle.reo_net_base.specs.Behaviour.{Behaviour}
use Rattle.reo_net_base.specs.Forms.{HasForm, number_in, period_in}
use Rattle.reo_net_base.specs.Net.{Net, Side, all_sides}
use Rattle.reo_part_plans.specs.declared.looks.Look.{Look}

-- What is looked at of a side in the round of a number: the number of its form, and after how many rounds since its
-- classes were as in the first one.
pub record IsLookAt (b : Behaviour) (side turn : ℕ) (look : Look) : Type 0 where
  pub form : Form
  pub has : HasForm form b side
  pub number : look.number ≡ number_in form
  pub rest : look.rest ≡ (turn - 1) % period_in form

-- The looks at some sides of a circuit, one for each.
pub record IsKey (net : Net) (sides : List ℕ) (turn : ℕ) (key : List Look) : Type 0 where
  pub one_each : length key ≡ length sides
  pub each : (m : ℕ) (d : Look) (s : Side) → m < length sides
      → IsLookAt (slice_index_or (all_sides net.primitives) (slice_index sides m) s).of
      (slice_index_or (all_sides net.primitives) (slice_index sides m) s).number turn (slice_index_or key m d)
