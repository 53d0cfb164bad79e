-- The sides of joints.
use Rattle.std.proofs.Common.{◌≡◌, inl, inr, ℕ, ◌<◌, Bool, true, length, ap, sym, ◌∙◌, subst}
use Rattle.reo_net_base.specs.Net.{Net}
use Rattle.reo_net_base.specs.Sides.{side_count}
use Rattle.reo_net_base.specs.Wired.{IsWired}
use Rattle.reo_net_laws.specs.Parts.{IsClosed}
use Rattle.reo_joint_values.proofs.Sides.{side_in_range}
use Rattle.reo_joint_values.specs.Values.{no_joint, joint_of, AtSide}

-- In a closed set each side of a joint is inside where one is.
pub at_inside : (net : Net) (inside : ℕ → Bool) → IsClosed net inside → (j a b : ℕ) → j < length net.joints → AtSide net j a → AtSide net j b → inside a ≡ true → inside b ≡ true
at_inside net inside closed j a b lt (inl x) (inl y) is = ap inside (sym y ∙ x) ∙ is
at_inside net inside closed j a b lt (inl x) (inr y) is = ap inside (sym y) ∙ sym (closed.along j no_joint lt) ∙ ap inside x ∙ is
at_inside net inside closed j a b lt (inr x) (inl y) is = ap inside (sym y) ∙ closed.along j no_joint lt ∙ ap inside x ∙ is
at_inside net inside closed j a b lt (inr x) (inr y) is = ap inside (sym y ∙ x) ∙ is

-- They are sides of the circuit.
pub side_below : (net : Net) → IsWired net → (j side : ℕ) → j < length net.joints → AtSide net j side → side < side_count net
side_below net wired j side lt (inl here) = subst (λ (s : ℕ). s < side_count net) here (side_in_range net wired (joint_of net j).giver (wired.givers j no_joint lt))
side_below net wired j side lt (inr here) = subst (λ (s : ℕ). s < side_count net) here (side_in_range net wired (joint_of net j).taker (wired.takers j no_joint lt))
