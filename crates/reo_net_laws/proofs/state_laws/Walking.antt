-- Walks are first.
use Rattle.std.proofs.Common.{◌≡◌, ℕ, ◌<◌, List, [], ◌∷◌, Option, refl, sym, arith}
use Rattle.reo_values.specs.declared.value.Value.{Value}
use Rattle.std.specs.declared.cmp.Ordering.TheVariants.{Less, Equal, Greater}
use Rattle.std.specs.Ordering.{nat_cmp, ordering_then}
use Rattle.std.specs.Cmp.{ranked}
use Rattle.reo_net_base.specs.First.{Position, positions, order_by}
use Rattle.reo_net_laws.specs.Parts.{IsAssignment}
use Rattle.reo_net_laws.specs.Keys.{within}
use Rattle.reo_net_laws.specs.state_laws.Walks.{number_of, IsWalk, WalksAreFirst}

-- Nothing that is left stands before a walk.
pub not_less : (Left : List ℕ → Type 0) (ps : List Position) (rows others : List ℕ) → IsWalk Left ps rows → Left others → order_by ps others rows ≡ Less → ⊥
not_less Left [] rows others walk left less = cc
not_less Left (p ∷ ps) rows others walk left less =
    let a : ℕ = number_of p others in
    let b : ℕ = number_of p rows in
    elim (nat_cmp a b) as (λ o. nat_cmp a b ≡ o → ordering_then o (order_by ps others rows) ≡ Less → ⊥) [
      | Less ↦ λ e g. let lt : a < b = ranked a b Less (sym e) in let le = walk.0 others left in absurd (omega (arith, lt, le))
      | Equal ↦ λ e g. let same : a ≡ b = ranked a b Equal (sym e) in not_less (λ more. Left more × (number_of p more ≡ number_of p rows)) ps rows others walk.1 (left, same) g
      | Greater ↦ λ e g. cc
    ] refl less

pub walk_first : WalksAreFirst
walk_first net inside turn rows items assignment walk = record {
  assignment = assignment;
  least = λ others other_items is less. not_less (λ more. (its : List (Option Value)) × IsAssignment net inside more its) (within inside (positions net turn)) rows others walk (other_items, is) less;
}
