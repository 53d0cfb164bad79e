-- Rows that are noted of their groups.
use Rattle.std.proofs.Common.{◌≡◌, ◌≢◌, inl, inr, ℕ, ◌+◌, ◌<◌, Bool, true, false, ◌&&◌, ◌||◌, List, length, get_or, set, refl, ap, sym, ◌∙◌, subst, arith, get_or-set_other}
use Rattle.std.specs.Bool.{◌==◌}
use Rattle.std.specs.Prelude.{nat_le}
use Rattle.std.proofs.lemmas.Bool.{cases_eq, cases_lt, and_right, and_from, le-leb, lt-leb, eq-eqb, ne_eqb}
use Rattle.std.proofs.lemmas.Grind.{get_or-set_at}
use Rattle.std.proofs.lemmas.List.{get_or_default}
use Rattle.reo_net_base.specs.Net.{Net}
use Rattle.reo_side_tables.specs.Marks.{groups_in, group_in}
use Rattle.reo_rows.specs.declared.groups.Group.{Group}
use Rattle.reo_rows.specs.RowFlags.{flag}
use Rattle.reo_rows.specs.Groups.{live_in, IsNotedOf}
use Rattle.reo_rows.specs.Sifting.{live_from, AreNotedFrom}

-- What is noted of some rows is noted of the same rows.
pub noted_same : (net : Net) (side : ℕ) (rows others : ℕ → Bool) (noted : Group) → ((row : ℕ) → rows row ≡ others row) → IsNotedOf net side rows noted → IsNotedOf net side others noted
noted_same net side rows others noted same is = record {
  none = λ e row. sym (same row) ∙ is.none e row;
  first = λ row e. sym (same row) ∙ is.first row e;
  other = λ row e. sym (same row) ∙ is.other row e;
  differ = is.differ;
  alike = λ row other e f set. is.alike row other e f (same other ∙ set);
}

at_row : (l : Bool) → (l && true) ≡ ((l && false) || (l && true))
at_row true = refl
at_row false = refl

off_row : (x l : Bool) → x ≡ (x || (l && false))
off_row true true = refl
off_row true false = refl
off_row false true = refl
off_row false false = refl

or_none : (x y l : Bool) → l ≡ false → (x || (l && y)) ≡ x
or_none true y l e = refl
or_none false y true e = absurd cc
or_none false true false e = refl
or_none false false false e = refl

or_one : (x y l : Bool) → l ≡ true → (x || (l && y)) ≡ (x || y)
or_one x y true e = refl
or_one x y false e = absurd cc

le_more : (n r : ℕ) → r ≢ n → nat_le n r ≡ nat_le (n + 1) r
le_more n r other = elim (cases_lt n r) [
  | inl lt ↦ le-leb n r (omega arith) ∙ sym (le-leb (n + 1) r (omega arith))
  | inr le ↦ lt-leb n r (omega arith) ∙ sym (lt-leb (n + 1) r (omega arith))
]

module _ (net : Net) (live : List (List Bool)) (side group n : ℕ) where
  -- The rows from one on are those behind it and, if it is one, itself.
  from_row : (r : ℕ) → live_from net live side group n r ≡ (live_from net live side group (n + 1) r || (live_in net live side group n && (r == n)))
  from_row r = elim (cases_eq r n) [
    | inl same ↦
        let at : live_from net live side group n n ≡ (live_from net live side group (n + 1) n || (live_in net live side group n && (n == n))) =
        rw (le-leb n n (omega arith), lt-leb (n + 1) n (omega arith), eq-eqb n n refl) (at_row (live_in net live side group n)) in
        subst (λ (k : ℕ). live_from net live side group n k ≡ (live_from net live side group (n + 1) k || (live_in net live side group n && (k == n)))) (sym same) at
    | inr other ↦
        ap (λ (b : Bool). live_in net live side group r && b) (le_more n r other) ∙ off_row (live_from net live side group (n + 1) r) (live_in net live side group n)
        ∙ ap (λ (b : Bool). live_from net live side group (n + 1) r || (live_in net live side group n && b)) (sym (ne_eqb r n other))
  ]

  pub from_here : live_in net live side group n ≡ true → (r : ℕ) → (live_from net live side group (n + 1) r || (r == n)) ≡ live_from net live side group n r
  from_here set r = sym (from_row r ∙ or_one (live_from net live side group (n + 1) r) (r == n) (live_in net live side group n) set)

  pub from_behind : live_in net live side group n ≡ false → (r : ℕ) → live_from net live side group (n + 1) r ≡ live_from net live side group n r
  from_behind unset r = sym (from_row r ∙ or_none (live_from net live side group (n + 1) r) (r == n) (live_in net live side group n) unset)

-- One row more is noted of its group.
pub noted_more : (net : Net) (side row group : ℕ) (old : List Group) (noted new : Group) → group ≡ group_in net side row → group < length old → length old ≡ groups_in net side → noted ≡ get_or old group noted
    → ((rows : ℕ → Bool) → IsNotedOf net side rows noted → IsNotedOf net side (λ r. rows r || (r == row)) new)
    → (live : List (List Bool)) → flag live side row ≡ true → AreNotedFrom net live side (row + 1) old → AreNotedFrom net live side row (set old group new)
noted_more net side row group old noted new group_is lt long noted_is with live set are k d k_lt = elim (cases_eq k group) [
  | inl same ↦
      let here : live_in net live side k row ≡ true = and_from (flag live side row) (group_in net side row == k) set (eq-eqb (group_in net side row) k (sym group_is ∙ sym same)) in
      let was : IsNotedOf net side (live_from net live side k (row + 1)) noted = subst (λ (x : Group). IsNotedOf net side (live_from net live side k (row + 1)) x) (sym (noted_is ∙ get_or_default old group noted d lt ∙ ap (λ (m : ℕ). get_or old m d) (sym same))) (are k d k_lt) in
      let now : IsNotedOf net side (live_from net live side k row) new = noted_same net side (λ r. live_from net live side k (row + 1) r || (r == row)) (live_from net live side k row) new (from_here net live side k row here) (with (live_from net live side k (row + 1)) was) in
      subst (λ (x : Group). IsNotedOf net side (live_from net live side k row) x) (sym (get_or-set_at old group k new d same lt)) now
  | inr other ↦
      let apart : live_in net live side k row ≡ false = and_right (flag live side row) (group_in net side row == k) (ne_eqb (group_in net side row) k (λ e. other (sym e ∙ sym group_is))) in
      subst (λ (x : Group). IsNotedOf net side (live_from net live side k row) x) (sym (get_or-set_other old group k new d other)) (noted_same net side (live_from net live side k (row + 1)) (live_from net live side k row) (get_or old k d) (from_behind net live side k row apart) (are k d k_lt))
]
