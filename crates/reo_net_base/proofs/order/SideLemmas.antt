-- Walks by arrows and by sides.
use Rattle.std.proofs.Common.{◌≡◌, ℕ, ◌<◌, List, [], ◌∷◌, length, get_or, map, refl, sym}
use Rattle.reo_net_base.specs.order.Arrows.{Walk, Chain, second, CycleBySides}

module _ (from to : List ℕ) where
  chain_of : (j : ℕ) (js : List ℕ) (z : ℕ) → j < length from → Walk from to (get_or to j 0) js z → Chain from to (get_or from j 0) (map (λ k. get_or from k 0) js) z
  chain_of j [] z lt w = (j, lt, refl, w)
  chain_of j (k ∷ ks) z lt w = ((j, lt, refl, sym w.1), chain_of k ks z w.0 w.2)

  second_of : (j : ℕ) (js : List ℕ) → Walk from to (get_or to j 0) js (get_or from j 0) → get_or to j 0 ≡ second (get_or from j 0) (map (λ k. get_or from k 0) js)
  second_of j [] w = w
  second_of j (k ∷ ks) w = sym w.1

  walk_of : (a : ℕ) (sides : List ℕ) (z : ℕ) → Chain from to a sides z → (js : List ℕ) × Walk from to a js z
  walk_of a [] z c = (c.0 ∷ [], (c.1, c.2, c.3))
  walk_of a (b ∷ sides) z c =
      let rest = walk_of b sides z c.1 in
      (c.0.0 ∷ rest.0, (c.0.1, c.0.2, rw c.0.3 rest.1))

  rest_of : (a : ℕ) (sides : List ℕ) → Chain from to a sides a → (js : List ℕ) × Walk from to (second a sides) js a
  rest_of a [] c = ([], refl)
  rest_of a (b ∷ sides) c = walk_of b sides a c.1

pub by_sides : CycleBySides
by_sides from to j = (
  λ on. record {
    in_range = on.0;
    others = map (λ k. get_or from k 0) on.1.by;
    cycle = chain_of from to j on.1.by (get_or from j 0) on.0 on.1.walk;
    next = second_of from to j on.1.by on.1.walk;
  },
  λ lies.
      let rest = rest_of from to (get_or from j 0) lies.others lies.cycle in
      (lies.in_range, record { by = rest.0; walk = rw (lies.next) rest.1 }),
)
