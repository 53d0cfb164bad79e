use Rattle.std.proofs.Common.{◌∙◌, ℕ, List, [], zero, suc, length, replicate, get_or, sym, subst, ap, arith}
use Rattle.std.proofs.lemmas.List.{length-replicate}
use Rattle.std.specs.Prelude.{◌≤◌}
use Rattle.reo_values.specs.declared.value.Value.{Value}
use Rattle.reo_reach.proofs.supply.Supply.unknown.Goals as goal

-- Each list of so many empty ones is short.
empty_short : (n j : ℕ) → length (get_or (replicate {A = List Value} n []) j []) ≤ 257
empty_short zero j = omega arith
empty_short (suc n) zero = omega arith
empty_short (suc n) (suc j) = empty_short n j

pub returns-clause-lists : goal.returns-clause-lists
returns-clause-lists c = ap length (c.into_vec-items.ensures ∙ c.in_ok-lists.ensures) ∙ length-replicate c.args.joints []

pub returns-clause-short : goal.returns-clause-short
returns-clause-short c j = subst (λ (xs : List (List Value)). length (get_or xs j []) ≤ 257) (sym (c.into_vec-items.ensures ∙ c.in_ok-lists.ensures)) (empty_short c.args.joints j)
