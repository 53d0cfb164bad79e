-- Rows that are listed, one by one.
use Rattle.std.proofs.Common.{◌≡◌, inl, inr, ◌↔◌, ℕ, zero, suc, ◌<◌, ◌&&◌, ◌||◌, Bool, true, List, [], ◌∷◌, length, slice_index_or, refl, sym, subst, arith}
use Rattle.std.proofs.lemmas.Bool.{and_parts, and_from, or_cases}
use Rattle.reo_net_base.specs.declared.mark.Mark.{Mark}
use Rattle.reo_net_base.specs.declared.mark.Mark.TheVariants.{F, G, R, J}
use Rattle.reo_net_base.specs.Rows.{Rows, mark_in}
use Rattle.reo_mark_sets.specs.declared.marks.PlainMarks.{PlainMarks}
use Rattle.reo_mark_sets.specs.PlainMarks.{has, is_mark, marks_where}
use Rattle.reo_mark_sets.specs.Listed.{mark_of, is_used, used_at}
use Rattle.reo_mark_sets.proofs.Starring.{or_left, or_right}

pub is_mark_same : (a b : Mark) → is_mark a b ≡ true → a ≡ b
is_mark_same F F h = refl
is_mark_same F G h = cc
is_mark_same F R h = cc
is_mark_same F J h = cc
is_mark_same G F h = cc
is_mark_same G G h = refl
is_mark_same G R h = cc
is_mark_same G J h = cc
is_mark_same R F h = cc
is_mark_same R G h = cc
is_mark_same R R h = refl
is_mark_same R J h = cc
is_mark_same J F h = cc
is_mark_same J G h = cc
is_mark_same J R h = cc
is_mark_same J J h = refl

pub same_is_mark : (a b : Mark) → a ≡ b → is_mark a b ≡ true
same_is_mark a b e = subst (λ (m : Mark). is_mark a m ≡ true) e (reflexive a)
  where
    reflexive : (a : Mark) → is_mark a a ≡ true
    reflexive F = refl
    reflexive G = refl
    reflexive R = refl
    reflexive J = refl

pub where_has : (test : Mark → Bool) (m : Mark) → has (marks_where test) m ≡ true → test m ≡ true
where_has test F h = h
where_has test G h = h
where_has test R h = h
where_has test J h = cc

-- No end has jam.
pub has_where : (test : Mark → Bool) (marks : PlainMarks) (m : Mark) → has marks m ≡ true → test m ≡ true → has (marks_where test) m ≡ true
has_where test marks F real h = h
has_where test marks G real h = h
has_where test marks R real h = h
has_where test marks J real h = cc

abbrev pub row_in : Rows → ℕ → List Mark
row_in rows r = slice_index_or rows r []

-- A row of these that passes a test and has a mark at an end.
abbrev pub Uses : Rows → (List Mark → Bool) → ℕ → Mark → Type 0
Uses rows fits end m = (r : ℕ) × (r < length rows) × (fits (row_in rows r) ≡ true) × (mark_in rows r end ≡ m)

pub used_by : (rows : Rows) (fits : List Mark → Bool) (end : ℕ) (m : Mark) → is_used rows fits end m ≡ true → Uses rows fits end m
used_by [] fits end m h = cc
used_by (row ∷ rows) fits end m h = elim (or_cases (fits row && is_mark m (mark_of row end)) (is_used rows fits end m) h) [
  | inl here ↦ let both = and_parts (fits row) (is_mark m (mark_of row end)) here in (zero, omega arith, both.0, sym (is_mark_same m (mark_of row end) both.1))
  | inr there ↦ let more = used_by rows fits end m there in (suc more.0, omega (arith, more.1), more.2, more.3)
]

pub uses : (rows : Rows) (fits : List Mark → Bool) (end : ℕ) (m : Mark) (r : ℕ) → r < length rows → fits (row_in rows r) ≡ true → mark_in rows r end ≡ m → is_used rows fits end m ≡ true
uses [] fits end m r lt fit is = absurd (omega arith)
uses (row ∷ rows) fits end m zero lt fit is = or_left (fits row && is_mark m (mark_of row end)) (is_used rows fits end m) (and_from (fits row) (is_mark m (mark_of row end)) fit (same_is_mark m (mark_of row end) (sym is)))
uses (row ∷ rows) fits end m (suc r) lt fit is = or_right (fits row && is_mark m (mark_of row end)) (is_used rows fits end m) (uses rows fits end m r (omega arith) fit is)

-- The marks at an end are just those of the rows that pass the test, where these have no jam there.
pub used_exact : (rows : Rows) (fits : List Mark → Bool) (end : ℕ) (marks : PlainMarks) → ((r : ℕ) → fits (row_in rows r) ≡ true → has marks (mark_in rows r end) ≡ true) → (m : Mark)
    → (has (used_at rows fits end) m ≡ true) ↔ Uses rows fits end m
used_exact rows fits end marks real m = (
  λ h. used_by rows fits end m (where_has (is_used rows fits end) m h),
  λ u. has_where (is_used rows fits end) marks m (subst (λ (x : Mark). has marks x ≡ true) u.3 (real u.0 u.2)) (uses rows fits end m u.0 u.1 u.2 u.3),
)

-- Some marks.
pub some_has : (marks : PlainMarks) → (marks.flow || (marks.given || marks.required)) ≡ true → (m : Mark) × (has marks m ≡ true)
some_has marks h = elim (or_cases marks.flow (marks.given || marks.required) h) [
  | inl x ↦ (F, x)
  | inr y ↦ elim (or_cases marks.given marks.required y) [ inl x ↦ (G, x) | inr x ↦ (R, x) ]
]

pub has_some : (marks : PlainMarks) (m : Mark) → has marks m ≡ true → (marks.flow || (marks.given || marks.required)) ≡ true
has_some marks F h = or_left marks.flow (marks.given || marks.required) h
has_some marks G h = or_right marks.flow (marks.given || marks.required) (or_left marks.given marks.required h)
has_some marks R h = or_right marks.flow (marks.given || marks.required) (or_right marks.given marks.required h)
has_some marks J h = cc
