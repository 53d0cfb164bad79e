-- Marks as bytes, and joints from one place to another.
use Rattle.std.specs.Prelude.{ℕ, ◌<◌, ◌≤◌, List, slice_index_or}
use Rattle.reo_lanes.specs.Joints.{flow, reason_given, jam}
use Rattle.reo_net_base.specs.declared.mark.Mark.{Mark}
use Rattle.reo_net_base.specs.declared.mark.Mark.TheVariants.{F, G, R, J}
use Rattle.reo_net_base.specs.declared.joint.Joint.{Joint}
use Rattle.reo_net_base.specs.Net.{Net}
use Rattle.reo_net_base.specs.Colouring.{JointMatches}
use Rattle.reo_checker.specs.Faults.{JointClashes}

-- The byte that stands for a mark.
abbrev pub mark_byte : Mark → ℕ
mark_byte F = flow
mark_byte G = reason_given
mark_byte R = 4
mark_byte J = jam

-- Each joint from `from` on and before `to` matches.
abbrev pub MatchWithin : Net → List ℕ → ℕ → ℕ → Type 0
MatchWithin net rows from to =
    (j : ℕ) (d : Joint) → from ≤ j → j < to → JointMatches net rows (slice_index_or net.joints j d)

-- The least joint from `from` on and before `to` that does not match.
pub record IsClashWithin (net : Net) (rows : List ℕ) (from to j : ℕ) : Type 0 where
  pub from_on : from ≤ j
  pub in_range : j < to
  pub clashes : (d : Joint) → JointClashes net rows (slice_index_or net.joints j d)
  pub none_before : MatchWithin net rows from j
