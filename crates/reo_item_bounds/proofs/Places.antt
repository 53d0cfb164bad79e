-- Where sides of forms have ends, and where their rows flow.
use Rattle.std.proofs.Common.{◌≡◌, ℕ, ◌+◌, ◌<◌, ◌⊎◌, arith}
use Rattle.reo_net_base.specs.declared.form.Form.{Form}
use Rattle.reo_net_base.specs.declared.mark.Mark.TheVariants.{F}
use Rattle.reo_net_base.specs.Behaviour.{Behaviour}
use Rattle.reo_net_base.specs.Branching.{merger_mark}
use Rattle.reo_net_base.specs.Forms.{HasForm, IsPlaceOf}

-- A place of a form is an end.
pub end_below : (form : Form) (b : Behaviour) (side end : ℕ) → HasForm form b side → IsPlaceOf form side end → end < b.ends
end_below form b side end has is = ((has.ends end).1 is).0

-- A merger flows at its output and at the input of its row alone.
pub merger_flows : (m row end : ℕ) → end < m + 1 → merger_mark m row end ≡ F → (row < m) × ((end ≡ row) ⊎ (end ≡ m))
merger_flows m row end lt flows = grind arith
