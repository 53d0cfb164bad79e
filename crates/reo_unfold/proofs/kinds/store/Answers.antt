-- No more items than literals.
use Rattle.std.proofs.Common.{arith, ℕ, ◌≤◌, suc, List, [], ◌∷◌, length, Option, Some, None, ap}
use Rattle.std.specs.List.{filter_map, cons_option}
use Rattle.reo_rules.specs.literals.Items.{item_of}
use Rattle.reo_unfold.proofs.kinds.store.Goals as goal

one_more : {Y : Type 0} (o : Option Y) (ys : List Y) (n : ℕ) → length ys ≤ n → length (cons_option o ys) ≤ suc n
one_more None ys n few = omega arith
one_more (Some y) ys n few = omega arith

few_kept : {X Y : Type 0} (f : X → Option Y) (xs : List X) → length (filter_map f xs) ≤ length xs
few_kept f [] = omega arith
few_kept f (x ∷ xs) = one_more (f x) (filter_map f xs) (length xs) (few_kept f xs)

pub with-requires-clause-fits : goal.with-requires-clause-fits
with-requires-clause-fits c =
    let few = few_kept (item_of c.args.of.now) c.args.held.now in
    let are = ap length c.in_ok-items.ensures in
    let fits = c.requires.fits in
    omega arith
