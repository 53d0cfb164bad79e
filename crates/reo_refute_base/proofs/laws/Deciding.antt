-- No colouring stands before, by places.
use Rattle.std.proofs.Common.{◌≡◌, ℕ, ◌<◌, List, [], length, get_or, refl, subst, arith}
use Rattle.std.proofs.lemmas.List.{get_or_default}
use Rattle.reo_net_base.specs.Net.{Net, all_sides}
use Rattle.reo_net_base.specs.Sides.{side_count, AreRowsOf}
use Rattle.reo_net_base.specs.First.{Position, positions}
use Rattle.reo_net_laws.specs.Differences.{number_at, DiffersFirst}
use Rattle.reo_net_laws.proofs.Differences.{first_difference}
use Rattle.reo_net_laws.proofs.Places.{positions_in_range}
use Rattle.reo_net_laws.proofs.Sides.{row_below}
use Rattle.reo_refute_base.specs.Places.{no_place, place_at, IsLive, AreAllowed, PlacesDecide}
use Rattle.reo_refute_base.proofs.Places.{place_in_range}

module _ (net : Net) (turn : ℕ) (given : List ℕ) where
  pub side_in : (p : ℕ) → p < length (positions net turn) → (place_at net turn p).side < side_count net
  side_in p lt = place_in_range (side_count net) (positions net turn) p (positions_in_range net turn) lt

  -- Allowed rows alone are smaller at the first difference.
  differs : (p : ℕ) (others : List ℕ) → p < length (positions net turn) → AreAllowed net turn given p others → DiffersFirst (positions net turn) others given p
  differs p others lt are = record {
    in_range = lt;
    before = λ q d q_lt.
        let q_in : q < length (positions net turn) = omega (arith, lt, q_lt) in
        subst (λ (x : Position). number_at x others ≡ number_at x given) (get_or_default (positions net turn) q no_place d q_in) ((are (place_at net turn q).side (side_in q q_in)).before q q_lt refl);
    smaller = λ d.
        subst (λ (x : Position). number_at x others < number_at x given) (get_or_default (positions net turn) p no_place d lt) ((are (place_at net turn p).side (side_in p lt)).smaller refl);
  }

  -- Rows that are smaller at the first difference are allowed there.
  allowed : (p : ℕ) (others : List ℕ) → AreRowsOf net others → DiffersFirst (positions net turn) others given p → AreAllowed net turn given p others
  allowed p others rows d side side_lt = record {
    in_table = λ e. row_below (all_sides net.primitives) others rows side e side_lt;
    before = λ q lt is. subst (λ (s : ℕ). (place_at net turn q).number (get_or others s 0) ≡ (place_at net turn q).number (get_or given s 0)) is (d.before q no_place lt);
    smaller = λ is. subst (λ (s : ℕ). (place_at net turn p).number (get_or others s 0) < (place_at net turn p).number (get_or given s 0)) is (d.smaller no_place);
  }

  live : (p : ℕ) (others : List ℕ) → p < length (positions net turn) → AreAllowed net turn given p others → IsLive net turn given p
  live p others lt are = record {
    in_range = lt;
    row = get_or others (place_at net turn p).side 0;
    allowed = are (place_at net turn p).side (side_in p lt);
  }

pub places_decide : PlacesDecide
places_decide net turn given = (
  λ none p is_live others items is are.
      none others items is ((first_difference (positions net turn) others given).1 (p, differs net turn given p others is_live.in_range are)),
  λ none others items is less.
      let found = (first_difference (positions net turn) others given).0 less in
      let are = allowed net turn given found.0 others is.rows_fit.in_tables found.1 in
      none found.0 (live net turn given found.0 others found.1.in_range are) others items is are,
)
