-- The first colouring by closed sets.
use Rattle.std.proofs.Common.{◌≡◌, ℕ, List, length, ap, sym, ◌∙◌, Bool, false, get_or, refl}
use Rattle.std.specs.Bool.{◌==◌}
use Rattle.std.specs.Ordering.{nat_cmp}
use Rattle.std.specs.Cmp.Lexicographic.{slice_cmp}
use Rattle.reo_net_base.specs.Net.{all_sides}
use Rattle.reo_net_base.specs.First.{Position, key_at, positions, order_by}
use Rattle.reo_net_laws.specs.Parts.{outside, mixed, mixed_items}
use Rattle.reo_net_laws.specs.Keys.{within}
use Rattle.reo_net_laws.specs.FirstLaws.{FirstInside, FirstByParts}
use Rattle.reo_net_laws.proofs.Sets.{restricted}
use Rattle.reo_net_laws.proofs.Mixing.{mix, mixed_true, mixed_false}
use Rattle.reo_net_laws.proofs.Places.{key_inside, cmp_within, some_part, positions_in_range}

-- Rows of one list on a set and of another elsewhere stand to rows that agree elsewhere as the first list does on the set.
pub order_mixed : (inside : ℕ → Bool) (ps : List Position) (a b c : List ℕ) → length a ≡ length b → ((k : ℕ) → inside k ≡ false → get_or c k 0 ≡ get_or b k 0)
    → order_by ps (mixed inside a b) c ≡ order_by (within inside ps) a c
order_mixed inside ps a b c n same =
    cmp_within inside ps (mixed inside a b) c (λ k h. mixed_false inside a b k n h ∙ sym (same k h))
    ∙ ap (λ (key : List ℕ). slice_cmp nat_cmp key (key_at (within inside ps) c)) (key_inside inside ps (mixed inside a b) a (λ k h. mixed_true inside a b k n h))

pub first_inside : FirstInside
first_inside net wired turn rows items first inside closed = record {
  assignment = restricted net inside rows items first.colouring;
  least = λ b ys is less.
      let rest = restricted net (outside inside) rows items first.colouring in
      first.least (mixed inside b rows) (mixed_items net inside net.joints ys items) (mix net wired inside closed b rows ys items is rest)
      (order_mixed inside (positions net turn) b rows rows (is.one_row ∙ sym rest.one_row) (λ k h. refl) ∙ less);
}

pub first_by_parts : FirstByParts
first_by_parts net wired turn part rows items col least = record {
  colouring = col;
  least = λ b ys b_col less.
      let found = some_part part (length (all_sides net.primitives)) (positions net turn) b rows (positions_in_range net turn) less in
      least found.0 found.1 b ys (restricted net (λ t. part t == part found.0) b ys b_col) found.2;
}
