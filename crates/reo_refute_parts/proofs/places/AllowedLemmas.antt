-- Rows that are allowed, place after place.
use Rattle.std.proofs.Common.{◌≡◌, ◌≢◌, ◌↔◌, inl, inr, ℕ, ◌+◌, ◌<◌, List, [], length, get_or, set, replicate, ap, sym, ◌∙◌, subst, arith}
use Rattle.std.proofs.lemmas.Bool.{cases_eq, cases_lt}
use Rattle.std.proofs.lemmas.List.{get_or_default, length-replicate, get_or-replicate, length-set, get_or-set_same, get_or-set_other}
use Rattle.reo_net_base.specs.Net.{Net, Side, all_sides, no_side, row_count}
use Rattle.reo_net_base.specs.Sides.{side_count}
use Rattle.reo_net_base.specs.First.{Position, positions}
use Rattle.reo_net_laws.proofs.Places.{positions_in_range}
use Rattle.reo_refute_base.specs.Places.{place_at, IsAllowed, IsLive}
use Rattle.reo_refute_base.proofs.Places.{place_in_range}
use Rattle.reo_refute_parts.specs.declared.places.place.SidePlace.{SidePlace}
use Rattle.reo_refute_parts.specs.places.KeyPlaces.{position_of, IsPlace}
use Rattle.reo_refute_parts.specs.places.AllowedRows.{AreMarked, AreBytes, Agrees, AreAgreeing}

-- So many rows, all marked, for each of the sides so far.
pub record AreAll (net : Net) (n : ℕ) (bytes : List (List ℕ)) : Type 0 where
  pub one_each : length bytes ≡ n
  pub all : (side : ℕ) → side < n → get_or bytes side [] ≡ replicate (row_count (get_or (all_sides net.primitives) side no_side)) 1

-- Before the first place each row agrees.
pub agreeing_begun : (net : Net) (bytes : List (List ℕ)) → AreAll net (side_count net) bytes → (turn : ℕ) (given : List ℕ) → AreAgreeing net turn given 0 bytes
agreeing_begun net bytes are turn given = record {
  one_each = are.one_each;
  rows = λ side lt d.
      let count : ℕ = row_count (get_or (all_sides net.primitives) side no_side) in
      let same : (e : Side) → count ≡ row_count (get_or (all_sides net.primitives) side e) = λ e. ap row_count (get_or_default (all_sides net.primitives) side no_side e lt) in
      record {
        one_each = ap (λ (l : List ℕ). length l) (are.all side lt) ∙ length-replicate count 1 ∙ same d;
        exact = λ row row_lt.
            let below : row < count = omega (arith, row_lt, same d) in
            let one : get_or (get_or bytes side []) row 0 ≡ 1 = ap (λ (l : List ℕ). get_or l row 0) (are.all side lt) ∙ get_or-replicate count row 1 0 below in
            (λ x. record { in_table = λ e. omega (arith, below, same e); before = λ q q_lt. absurd (omega (arith, q_lt)) }, λ x z. omega (arith, one, z));
      };
}

module _ (net : Net) (turn : ℕ) (given : List ℕ) (p : ℕ) (place : SidePlace) (is : IsPlace net turn p place) where
  abbrev pub number : ℕ → ℕ
  number = (position_of net turn place).number

  pub place_in : place.side < side_count net
  place_in = subst (λ (x : Position). x.side < side_count net) (sym is.is) (place_in_range (side_count net) (positions net turn) p (positions_in_range net turn) is.in_range)

  pub same_side : place.side ≡ (place_at net turn p).side
  same_side = ap (λ (x : Position). x.side) is.is

  module _ (wanted : ℕ) (same : wanted ≡ number (get_or given place.side 0)) where
    allowed_is : (row : ℕ) → (Agrees net turn given p place.side row × (number row < wanted)) ↔ IsAllowed net turn given p place.side row
    allowed_is row = (
      λ both. record {
        in_table = both.0.in_table;
        before = both.0.before;
        smaller = λ _. subst (λ (x : Position). x.number row < x.number (get_or given place.side 0)) is.is (subst (λ (n : ℕ). number row < n) same both.1);
      },
      λ a. (
        record { in_table = a.in_table; before = a.before },
        subst (λ (n : ℕ). number row < n) (sym same) (subst (λ (x : Position). x.number row < x.number (get_or given place.side 0)) (sym is.is) (a.smaller (sym same_side))),
      ),
    )

    -- The rows of the place's side that are allowed.
    pub allowed_bytes : (agreeing : List ℕ) → AreBytes net place.side (Agrees net turn given p place.side) agreeing → (smaller : List ℕ)
        → AreMarked (length agreeing) (λ row. (get_or agreeing row 0 ≢ 0) × (number row < wanted)) smaller → AreBytes net place.side (IsAllowed net turn given p place.side) smaller
    allowed_bytes agreeing are smaller marked d = record {
      one_each = marked.one_each ∙ (are d).one_each;
      exact = λ row lt.
          let e = (are d).exact row lt in
          let m = marked.exact row (omega (arith, lt, (are d).one_each)) in
          let a = allowed_is row in
          (λ x. a.0 (e.0 (m.0 x).0, (m.0 x).1), λ x. m.1 (e.1 (a.1 x).0, (a.1 x).1));
    }

    agrees_here : (row : ℕ) → (Agrees net turn given p place.side row × (number row ≡ wanted)) ↔ Agrees net turn given (p + 1) place.side row
    agrees_here row = (
      λ both. record {
        in_table = both.0.in_table;
        before = λ q lt at. elim (cases_lt q p) [
          | inl below ↦ both.0.before q below at
          | inr from ↦
              let q_is : p ≡ q = omega (arith, from, lt) in
              subst (λ (n : ℕ). (place_at net turn n).number row ≡ (place_at net turn n).number (get_or given place.side 0)) q_is
              (subst (λ (x : Position). x.number row ≡ x.number (get_or given place.side 0)) is.is (both.1 ∙ same))
        ];
      },
      λ a. (
        record { in_table = a.in_table; before = λ q lt at. a.before q (omega (arith, lt)) at },
        subst (λ (x : Position). x.number row ≡ x.number (get_or given place.side 0)) (sym is.is) (a.before p (omega arith) (sym same_side)) ∙ sym same,
      ),
    )

    agreeing_here : (old new : List ℕ) → AreBytes net place.side (Agrees net turn given p place.side) old
        → AreMarked (length old) (λ row. (get_or old row 0 ≢ 0) × (number row ≡ wanted)) new → AreBytes net place.side (Agrees net turn given (p + 1) place.side) new
    agreeing_here old new are marked d = record {
      one_each = marked.one_each ∙ (are d).one_each;
      exact = λ row lt.
          let e = (are d).exact row lt in
          let m = marked.exact row (omega (arith, lt, (are d).one_each)) in
          let a = agrees_here row in
          (λ x. a.0 (e.0 (m.0 x).0, (m.0 x).1), λ x. m.1 (e.1 (a.1 x).0, (a.1 x).1));
    }

    agrees_other : (side : ℕ) → side ≢ place.side → (row : ℕ) → Agrees net turn given p side row → Agrees net turn given (p + 1) side row
    agrees_other side other row a = record {
      in_table = a.in_table;
      before = λ q lt at. elim (cases_lt q p) [
        | inl below ↦ a.before q below at
        | inr from ↦
            let q_is : q ≡ p = omega (arith, from, lt) in
            let here : (place_at net turn p).side ≡ side = subst (λ (n : ℕ). (place_at net turn n).side ≡ side) q_is at in
            absurd (other (sym here ∙ sym same_side))
      ];
    }

    agreeing_other : (side : ℕ) → side ≢ place.side → (bytes : List ℕ) → AreBytes net side (Agrees net turn given p side) bytes → AreBytes net side (Agrees net turn given (p + 1) side) bytes
    agreeing_other side other bytes are d = record {
      one_each = (are d).one_each;
      exact = λ row lt. (
        λ x. agrees_other side other row (((are d).exact row lt).0 x),
        λ a. ((are d).exact row lt).1 (record { in_table = a.in_table; before = λ q q_lt at. a.before q (omega (arith, q_lt)) at }),
      );
    }

    -- Past the place.
    pub passed : (old : List (List ℕ)) → AreAgreeing net turn given p old → (rows : List ℕ)
        → AreMarked (length (get_or old place.side [])) (λ row. (get_or (get_or old place.side []) row 0 ≢ 0) × (number row ≡ wanted)) rows → AreAgreeing net turn given (p + 1) (set old place.side rows)
    passed old are rows marked = record {
      one_each = length-set old place.side rows ∙ are.one_each;
      rows = λ side lt. elim (cases_eq side place.side) [
        | inl e ↦
            let here : AreBytes net place.side (Agrees net turn given (p + 1) place.side) rows = agreeing_here (get_or old place.side []) rows (are.rows place.side place_in) marked in
            let there : AreBytes net place.side (Agrees net turn given (p + 1) place.side) (get_or (set old place.side rows) place.side []) =
            subst (λ (l : List ℕ). AreBytes net place.side (Agrees net turn given (p + 1) place.side) l) (sym (get_or-set_same old place.side rows [] (omega (arith, place_in, are.one_each)))) here in
            subst (λ (s : ℕ). AreBytes net s (Agrees net turn given (p + 1) s) (get_or (set old place.side rows) s [])) (sym e) there
        | inr other ↦ subst (λ (l : List ℕ). AreBytes net side (Agrees net turn given (p + 1) side) l) (sym (get_or-set_other old place.side side rows [] other)) (agreeing_other side other (get_or old side []) (are.rows side lt))
      ];
    }

  -- The place is live exactly where a byte is not 0.
  pub live_is : (bytes : List ℕ) → AreBytes net place.side (IsAllowed net turn given p place.side) bytes → ((row : ℕ) × (row < length bytes) × (get_or bytes row 0 ≢ 0)) ↔ IsLive net turn given p
  live_is bytes are = (
    λ x. record {
      in_range = is.in_range;
      row = x.0;
      allowed = subst (λ (s : ℕ). IsAllowed net turn given p s x.0) same_side (((are no_side).exact x.0 (omega (arith, x.1, (are no_side).one_each))).0 x.2);
    },
    λ l.
        let a : IsAllowed net turn given p place.side l.row = subst (λ (s : ℕ). IsAllowed net turn given p s l.row) (sym same_side) l.allowed in
        let lt : l.row < row_count (get_or (all_sides net.primitives) place.side no_side) = a.in_table no_side in
        (l.row, omega (arith, lt, (are no_side).one_each), ((are no_side).exact l.row lt).1 a),
  )
