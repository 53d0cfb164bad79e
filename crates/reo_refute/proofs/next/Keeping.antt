-- Joints that are kept.
use Rattle.std.proofs.Common.{◌≡◌, ◌≢◌, inl, inr, ℕ, [], Option, Some, None, MatchOption, ◌∙◌, sym, subst}
use Rattle.reo_net_base.specs.Net.{Net}
use Rattle.reo_joint_values.specs.Values.{Family, giver_side, taker_side}
use Rattle.reo_refute_base.specs.Items.{Lists}
use Rattle.reo_refute_base.specs.Live.{live_at}
use Rattle.reo_refute.specs.next.Next.{AreSupported, IsKept}

pub matched_more : {X : Type 0} (A C : Type 0) (B : X → Type 0) (found : Option X) → MatchOption found A B → (A → C) → MatchOption found C B
matched_more A C B None h f = f h
matched_more A C B (Some x) h f = h

module _ (net : Net) (lists : Lists) (allowed : ℕ → ℕ → Type 0) (f : Family) (j : ℕ) where
  pub kept : (giver taker : ℕ) → giver_side net j ≡ giver → taker_side net j ≡ taker → live_at lists f j ≢ []
      → AreSupported net lists allowed f j giver → AreSupported net lists allowed f j taker → IsKept net lists allowed f j
  kept giver taker gives takes some at_giver at_taker = record {
    some = some;
    supported = λ side at. elim at [
      | inl here ↦ subst (AreSupported net lists allowed f j) (sym gives ∙ here) at_giver
      | inr here ↦ subst (AreSupported net lists allowed f j) (sym takes ∙ here) at_taker
    ];
  }
