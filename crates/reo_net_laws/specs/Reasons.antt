-- Reasons for no flow.
use Rattle.std.specs.Prelude.{ℕ, ◌<◌, ◌≡◌, List, Option, length, slice_index_or}
use Rattle.reo_values.specs.declared.value.Value.{Value}
use Rattle.reo_net_base.specs.declared.mark.Mark.TheVariants.{G, R}
use Rattle.reo_net_base.specs.declared.joint.Joint.{Joint}
use Rattle.reo_net_base.specs.Net.{Net, mark_at}
use Rattle.reo_net_base.specs.Colouring.{IsColouring}

-- The reason that the one end of a joint requires, the other end gives.
pub record AreReasonsGiven (net : Net) (rows : List ℕ) (j : Joint) : Type 0 where
  pub to_giver : mark_at net rows j.giver ≡ R → mark_at net rows j.taker ≡ G
  pub to_taker : mark_at net rows j.taker ≡ R → mark_at net rows j.giver ≡ G

-- A colouring gives each reason that it requires.
abbrev pub ReasonsAreGiven : Type 0
ReasonsAreGiven = (net : Net) (rows : List ℕ) (items : List (Option Value))
    → IsColouring net rows items → (j : ℕ) (d : Joint) → j < length net.joints
    → AreReasonsGiven net rows (slice_index_or net.joints j d)
