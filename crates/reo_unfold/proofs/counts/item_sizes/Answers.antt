-- A use counts as one more than what it unfolds to.
use Rattle.std.proofs.Common.{arith, ◌≡◌, ◌∙◌, ℕ, ◌+◌, ◌≤◌, lit≤, min, refl, sym, ap, subst, bytes_eq, position, get_or}
use Rattle.reo_flat.specs.declared.sizes.Sizes.{Sizes}
use Rattle.reo_flat.specs.Unfolding.{Meaning, no_meaning, meaning_named, uses_in, depth_in, placed_in}
use Rattle.reo_flat.specs.Counts.{IsSizeOf, IsSizesOf}
use Rattle.reo_unfold.proofs.Found.{meaning_at, meaning_none}
use Rattle.reo_unfold.proofs.counts.item_sizes.Goals as goal

one_more : (most u m s r : ℕ) → most ≤ 65537 → u ≡ min most m → s ≡ min (u + 1) 4294967295 → r ≡ min s most → r ≡ min most (1 + m)
one_more most u m s r small a b c = grind arith

pub returns-in-Some : goal.returns-in-Some
returns-in-Some c known are =
    let none : Sizes = record { uses = 0; depth = 0; placed = 0 } in
    let is = ap (λ n. position (bytes_eq n) c.args.names.now) (sym c.as_slice.ensures) ∙ sym c.find.ensures ∙ c.in-Some.is in
    let at = meaning_at known c.args.names.now c.in-Used.name are.names_are c.in-Some.number is in
    let used = meaning_named known c.in-Used.name in
    let s = get_or c.args.table.now c.in-Some.number none in
    let sizes : IsSizesOf used s = subst (λ m. IsSizesOf m s) (sym at.1) (are.sizes c.in-Some.number at.0 no_meaning none) in
    let made : Sizes = record { uses = c.min.result; depth = c.min-in-Some.result; placed = s.placed } in
    let whole : IsSizeOf (1 + used.uses) (1 + used.depth) used.placed made = record {
      uses_is = one_more 65537 s.uses used.uses c.saturating_add.result c.min.result (lit≤ tt) sizes.uses_is c.saturating_add.ensures c.min.ensures;
      depth_is = one_more 65 s.depth used.depth c.saturating_add-in-Some.result c.min-in-Some.result (lit≤ tt) sizes.depth_is c.saturating_add-in-Some.ensures c.min-in-Some.ensures;
      placed_is = sizes.placed_is;
    } in
    subst (λ f. IsSizeOf (uses_in known f) (depth_in known f) (placed_in known f) made) (sym c.in-Used.is) whole

pub returns-in-None : goal.returns-in-None
returns-in-None c known are =
    let is = ap (λ n. position (bytes_eq n) c.args.names.now) (sym c.as_slice.ensures) ∙ sym c.find.ensures ∙ c.in-None.is in
    let none = meaning_none known c.args.names.now c.in-Used.name are.names_are is in
    let made : Sizes = record { uses = 1; depth = 1; placed = 0 } in
    let whole : IsSizesOf (record no_meaning { uses = 1; depth = 1 }) made = record { uses_is = refl; depth_is = refl; placed_is = refl } in
    subst (λ f. IsSizeOf (uses_in known f) (depth_in known f) (placed_in known f) made) (sym c.in-Used.is)
    (subst (λ (m : Meaning). IsSizeOf (1 + m.uses) (1 + m.depth) m.placed made) (sym none) whole)
