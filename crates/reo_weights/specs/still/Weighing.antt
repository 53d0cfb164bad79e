-- Weights of parts that are alike.
use Rattle.std.specs.Prelude.{ℕ, Bool}
use Rattle.reo_net_base.specs.Net.{Net}
use Rattle.reo_net_base.specs.Wired.{IsWired}
use Rattle.reo_net_laws.specs.Parts.{IsClosed}
use Rattle.reo_net_laws.specs.Alike.{AreAlike}
use Rattle.reo_weights.specs.Over.{IsWithin}

-- A closed set that is within a budget is within it in each circuit that is alike on the set.
abbrev pub AlikePartsWeighAlike : Type 0
AlikePartsWeighAlike = (budget : ℕ) (net other : Net) → IsWired net → IsWired other
    → (inside : ℕ → Bool) → IsClosed net inside → AreAlike net other inside
    → IsWithin budget net inside → IsWithin budget other inside
