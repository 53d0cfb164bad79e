-- Sets that have the same sides.
use Rattle.std.proofs.Common.{◌≡◌, ℕ, ◌<◌, List, [], ◌∷◌, Option, Bool, true, cond, length, get_or, refl}
use Rattle.reo_values.specs.declared.value.Value.{Value}
use Rattle.reo_net_base.specs.Net.{Net, all_sides, side_at}
use Rattle.reo_net_base.specs.First.{Position}
use Rattle.reo_net_base.specs.Wired.{IsWired}
use Rattle.reo_net_laws.specs.Parts.{IsAssignment}
use Rattle.reo_net_laws.specs.Keys.{within, AreInRange}
use Rattle.reo_weights.proofs.Sides.{side_in_range}

-- An assignment of a set is one of a set with no other side.
pub fewer : (net : Net) → IsWired net → (p q : ℕ → Bool) → ((s : ℕ) → s < length (all_sides net.primitives) → q s ≡ true → p s ≡ true)
    → (rows : List ℕ) (items : List (Option Value)) → IsAssignment net p rows items → IsAssignment net q rows items
fewer net wired p q sub rows items is = record {
  one_row = is.one_row;
  one_item = is.one_item;
  in_tables = λ k d lt h. is.in_tables k d lt (sub k lt h);
  matched = λ j d lt h. is.matched j d lt (sub (side_at net (get_or net.joints j d).giver) (side_in_range net wired (get_or net.joints j d).giver (wired.givers j d lt)) h);
  items_fit = λ j d lt h. is.items_fit j d lt (sub (side_at net (get_or net.joints j d).giver) (side_in_range net wired (get_or net.joints j d).giver (wired.givers j d lt)) h);
}

-- Sets with the same sides have the same places.
pub same_places : (p q : ℕ → Bool) (n : ℕ) → ((s : ℕ) → s < n → p s ≡ q s) → (ps : List Position) → AreInRange n ps → within p ps ≡ within q ps
same_places p q n same [] r = refl
same_places p q n same (x ∷ ps) r = λ i. cond (same x.side r.0 i) (x ∷ same_places p q n same ps r.1 i) (same_places p q n same ps r.1 i)
