-- A set of sides has one table.
use Rattle.std.proofs.Common.{◌≡◌, ℕ, ◌≤◌, Bool, List, [], length, arith}
use Rattle.reo_net_base.specs.declared.mark.Mark.{Mark}
use Rattle.reo_net_base.specs.Net.{Net}
use Rattle.reo_listing.specs.base.Tables.{StandsBefore, IsTable, HasMany, most_rows}
use Rattle.reo_listing.proofs.answers.Ordered.{same_lists, no_longer}
use Rattle.reo_listing.proofs.answers.Orders.{never_before, before_on}

module _ (net : Net) (inside : ℕ → Bool) (ports : List ℕ) where
  pub one_table : (a b : List (List Mark)) → IsTable net inside ports a → IsTable net inside ports b → a ≡ b
  one_table a b p q =
      same_lists StandsBefore [] never_before before_on a b p.are.in_order q.are.in_order (λ marks it. q.all marks (p.are.met marks it)) (λ marks it. p.all marks (q.are.met marks it))

  -- Where there is a table that is not too long, there are not too many lists.
  pub not_many : (rows : List (List Mark)) → IsTable net inside ports rows → length rows ≤ most_rows → HasMany net inside ports → ⊥
  not_many rows is few it =
      let fewer : length it.rows ≤ length rows = no_longer StandsBefore [] never_before before_on rows it.rows it.are.in_order is.are.in_order (λ marks in_it. is.all marks (it.are.met marks in_it)) in
      let many = it.many in
      omega (arith, fewer, few, many)
