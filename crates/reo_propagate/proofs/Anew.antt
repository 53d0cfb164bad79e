-- Setting flags anew.
use Rattle.std.proofs.Common.{◌≡◌, ◌⊎◌, inl, inr, ℕ, ◌+◌, ◌<◌, Bool, true, false, List, [], length, get_or, set, refl, ap, sym, ◌∙◌, subst, arith, cond, below_more, get_or-set_same, get_or-set_other}
use Rattle.std.proofs.lemmas.Bool.{eq-eqb}
use Rattle.std.specs.Bool.{◌==◌}
use Rattle.std.proofs.Common.{◌&&◌}
use Rattle.std.proofs.lemmas.Bool.Decides.{eqb_tells}
use Rattle.std.proofs.lemmas.List.{length-set}
use Rattle.reo_net_base.specs.Net.{Net}
use Rattle.reo_side_tables.specs.Marks.{IsJointOf}
use Rattle.reo_rows.specs.RowFlags.{flag, AreAlikeTables}
use Rattle.reo_propagate.specs.declared.state.State.{State}
use Rattle.reo_propagate.specs.Setting.{AreSet, IsOfFirst, IsJointOfFirst, IsFresh, AreFresh}

-- The first n flags of a row were set.
pub record IsRowSet (row n : ℕ) (old new : List (List Bool)) : Type 0 where
  pub alike : AreAlikeTables old new
  pub stay : (r p : ℕ) → flag old r p ≡ true → flag new r p ≡ true
  pub set : (p : ℕ) → p < n → flag new row p ≡ true

put_true : (a b r p : ℕ) (was : Bool) → was ≡ true → cond ((r == a) && (p == b)) true was ≡ true
put_true a b r p was h = elim ((r == a) && (p == b)) as (λ (t : Bool). cond t true was ≡ true) [ true ↦ refl | false ↦ h ]

put_here : (a b : ℕ) (was : Bool) → cond ((a == a) && (b == b)) true was ≡ true
put_here a b was = rw (eq-eqb a a refl, eq-eqb b b refl) refl

-- No flag was set yet.
pub row_none : (row : ℕ) (table : List (List Bool)) → IsRowSet row 0 table table
row_none row table = record {
  alike = record { rows = refl; width = λ r. refl };
  stay = λ r p h. h;
  set = λ p lt. absurd (omega arith);
}

-- One flag more.
pub row_more : (row n : ℕ) (old now new : List (List Bool)) → IsRowSet row n old now → AreAlikeTables now new
    → ((i p : ℕ) → flag new i p ≡ cond ((i == row) && (p == n)) true (flag now i p)) → IsRowSet row (n + 1) old new
row_more row n old now new so_far alike put = record {
  alike = record { rows = alike.rows ∙ so_far.alike.rows; width = λ r. alike.width r ∙ so_far.alike.width r };
  stay = λ r p h. put r p ∙ put_true row n r p (flag now r p) (so_far.stay r p h);
  set = below_more (λ (p : ℕ). flag new row p ≡ true) n (λ p lt. put row p ∙ put_true row n row p (flag now row p) (so_far.set p lt)) (put row n ∙ put_here row n (flag now row n));
}

-- A row all of whose flags were set.
pub row_all : (row n : ℕ) (old new : List (List Bool)) → n ≡ length (get_or old row []) → IsRowSet row n old new → AreSet (λ r. r ≡ row) old new
row_all row n old new all so_far = record {
  alike = so_far.alike;
  stay = so_far.stay;
  set = λ r p is lt.
      subst (λ (i : ℕ). flag new i p ≡ true) (sym is) (so_far.set p (omega (arith, all, so_far.alike.width row, subst (λ (i : ℕ). p < length (get_or new i [])) is lt)));
}

-- Nothing is set where no row is named.
pub set_none : (rows : ℕ → Type 0) (table : List (List Bool)) → ((r : ℕ) → rows r → ⊥) → AreSet rows table table
set_none rows table none = record {
  alike = record { rows = refl; width = λ r. refl };
  stay = λ r p h. h;
  set = λ r p is lt. absurd (none r is);
}

-- What was set in two steps.
pub set_twice : (a b c : ℕ → Type 0) (old now new : List (List Bool)) → AreSet a old now → AreSet b now new → ((r : ℕ) → c r → a r ⊎ b r) → AreSet c old new
set_twice a b c old now new first second both = record {
  alike = record { rows = second.alike.rows ∙ first.alike.rows; width = λ r. second.alike.width r ∙ first.alike.width r };
  stay = λ r p h. second.stay r p (first.stay r p h);
  set = λ r p is lt. elim (both r is) [
    | inl was ↦ second.stay r p (first.set r p was (omega (arith, lt, second.alike.width r)))
    | inr here ↦ second.set r p here lt
  ];
}

-- What holds of one of the first n + 1 holds of one of the first n, or of the last of them.
some_more : (P : ℕ → Type 0) (n : ℕ) → (m : ℕ) × (m < n + 1) × P m → ((m : ℕ) × (m < n) × P m) ⊎ P n
some_more P n it = below_more (λ (m : ℕ). P m → ((k : ℕ) × (k < n) × P k) ⊎ P n) n (λ m lt h. inl (m, lt, h)) (λ h. inr h) it.0 it.1 it.2

-- One row more of a list.
pub rows_more : (rows : List ℕ) (n row : ℕ) (old now new : List (List Bool)) → row ≡ get_or rows n 0 → AreSet (IsOfFirst rows n) old now → AreSet (λ r. r ≡ row) now new → AreSet (IsOfFirst rows (n + 1)) old new
rows_more rows n row old now new is first second =
    set_twice (IsOfFirst rows n) (λ r. r ≡ row) (IsOfFirst rows (n + 1)) old now new first second (λ r it. elim (some_more (λ (m : ℕ). get_or rows m 0 ≡ r) n it) [
      | inl before ↦ inl before
      | inr here ↦ inr (sym here ∙ sym is)
    ])

-- The rows that are set may be said in other words.
pub set_as : (a b : ℕ → Type 0) (old new : List (List Bool)) → ((r : ℕ) → b r → a r) → AreSet a old new → AreSet b old new
set_as a b old new less are = record { alike = are.alike; stay = are.stay; set = λ r p is lt. are.set r p (less r is) lt }

-- No side has begun anew yet.
pub fresh_none : (net : Net) (sides : List ℕ) (state : State) → AreFresh net sides 0 state state
fresh_none net sides state = record {
  alive = set_none (IsJointOfFirst net sides 0) state.alive (λ r it. omega (arith, it.1));
  rows = record { live = set_none (IsOfFirst sides 0) state.rows.live (λ r it. omega (arith, it.1)); notes = refl; seen = refl };
  one_each = refl;
  waits = λ m lt. absurd (omega arith);
}

waits_still : (waits : List Bool) (side s : ℕ) → side < length waits → get_or waits s true ≡ true → get_or (set waits side true) s true ≡ true
waits_still waits side s lt was = elim (eqb_tells s side) [
  | inl same ↦ subst (λ (i : ℕ). get_or (set waits side true) i true ≡ true) (sym same.1) (get_or-set_same waits side true true lt)
  | inr apart ↦ get_or-set_other waits side s true true apart.1 ∙ was
]

-- One side more.
pub fresh_more : (net : Net) (sides : List ℕ) (n side : ℕ) (old now new : State) → side ≡ get_or sides n 0 → side < length now.queue.waits → AreFresh net sides n old now → IsFresh net side now new → AreFresh net sides (n + 1) old new
fresh_more net sides n side old now new is lt so_far one = record {
  alive = set_twice (IsJointOfFirst net sides n) (IsJointOf net side) (IsJointOfFirst net sides (n + 1)) old.alive now.alive new.alive so_far.alive one.alive
      (λ j it. elim (some_more (λ (m : ℕ). IsJointOf net (get_or sides m 0) j) n it) [
        | inl before ↦ inl before
        | inr here ↦ inr (subst (λ (s : ℕ). IsJointOf net s j) (sym is) here)
      ]);
  rows = record {
    live = rows_more sides n side old.rows.live now.rows.live new.rows.live is so_far.rows.live one.rows.live;
    notes = one.rows.notes ∙ so_far.rows.notes;
    seen = one.rows.seen ∙ so_far.rows.seen;
  };
  one_each = ap (λ (w : List Bool). length w) one.waits ∙ length-set now.queue.waits side true ∙ so_far.one_each;
  waits = below_more (λ (m : ℕ). get_or new.queue.waits (get_or sides m 0) true ≡ true) n
      (λ m m_lt. ap (λ (w : List Bool). get_or w (get_or sides m 0) true) one.waits ∙ waits_still now.queue.waits side (get_or sides m 0) lt (so_far.waits m m_lt))
      (subst (λ (s : ℕ). get_or new.queue.waits s true ≡ true) is (ap (λ (w : List Bool). get_or w side true) one.waits ∙ get_or-set_same now.queue.waits side true true lt));
}
