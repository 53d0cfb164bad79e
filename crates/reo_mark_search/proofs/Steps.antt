-- A walk, place by place.
use Rattle.std.proofs.Common.{◌≡◌, ℕ, ◌+◌, ◌*◌, ◌<◌, ◌≤◌, Bool, true, false, cond, List, [], ◌∷◌, ◌++◌, length, take, slice_index, refl, sym, ap, ◌∙◌, subst, arith, append_assoc, add-one}
use Rattle.std.proofs.Math.Seq.{take-suc}
use Rattle.std.specs.declared.cmp.Ordering.TheVariants.{Less, Equal, Greater}
use Rattle.std.specs.Ordering.{nat_cmp, ordering_then}
use Rattle.std.specs.Cmp.{ranked}
use Rattle.reo_net_base.specs.First.{Position, key_at, order_by}
use Rattle.reo_net_base.specs.Net.{Net}
use Rattle.reo_net_laws.specs.Keys.{leads_at}
use Rattle.reo_net_laws.specs.state_laws.Walks.{number_of, IsWalk}
use Rattle.reo_mark_sets.specs.declared.marks.PlainMarks.{PlainMarks}
use Rattle.reo_mark_sets.specs.Standing.{AreFewer}
use Rattle.reo_mark_search.specs.Fitting.{Fits, IsRival, AreReduced, HasNoRival}
use Rattle.reo_mark_search.specs.Places.{class_place, row_place, lead_places, class_places, row_places}
use Rattle.reo_mark_search.specs.Walking.{IsWalked, GoesOn, IsTakenAt}

-- One place more.
walk_snoc : (Left : List ℕ → Type 0) (ps : List Position) (p : Position) (rows : List ℕ) → IsWalk Left ps rows
    → ((others : List ℕ) → Left others → key_at ps others ≡ key_at ps rows → number_of p rows ≤ number_of p others) → IsWalk Left (ps ++ p ∷ []) rows
walk_snoc Left [] p rows w least = (λ others left. least others left refl, tt)
walk_snoc Left (q ∷ qs) p rows w least = (
  w.0,
  walk_snoc (λ o. Left o × (number_of q o ≡ number_of q rows)) qs p rows w.1 (λ others left same. least others left.0 (λ i. left.1 i ∷ same i)),
)

keys_split : (ps : List Position) (p : Position) (a b : List ℕ) → key_at (ps ++ p ∷ []) a ≡ key_at (ps ++ p ∷ []) b → (key_at ps a ≡ key_at ps b) × (number_of p a ≡ number_of p b)
keys_split [] p a b h = let head : number_of p a ≡ number_of p b = cc in (refl, head)
keys_split (q ∷ ps) p a b h =
    let head : number_of q a ≡ number_of q b = cc in
    let tail : key_at (ps ++ p ∷ []) a ≡ key_at (ps ++ p ∷ []) b = cc in
    let rest = keys_split ps p a b tail in
    (λ i. head i ∷ rest.0 i, rest.1)

-- Rows with a smaller number at the first place stand before.
pub not_before_less : (p : Position) (ps : List Position) (rows others : List ℕ) → number_of p rows < number_of p others → order_by (p ∷ ps) others rows ≡ Less → ⊥
not_before_less p ps rows others lt less =
    let a : ℕ = number_of p others in
    let b : ℕ = number_of p rows in
    elim (nat_cmp a b) as (λ o. nat_cmp a b ≡ o → ordering_then o (order_by ps others rows) ≡ Less → ⊥) [
      | Less ↦ λ e g. let back : a < b = ranked a b Less (sym e) in absurd (omega (arith, lt, back))
      | Equal ↦ λ e g. let same : a ≡ b = ranked a b Equal (sym e) in absurd (omega (arith, lt, same))
      | Greater ↦ λ e g. cc
    ] refl less

-- Nor do rows with the same numbers.
pub same_not_less : (ps : List Position) (a b : List ℕ) → key_at ps a ≡ key_at ps b → order_by ps a b ≡ Less → ⊥
same_not_less [] a b same less = cc
same_not_less (p ∷ ps) a b same less =
    let x : ℕ = number_of p a in
    let y : ℕ = number_of p b in
    let head : number_of p a ≡ number_of p b = cc in
    let tail : key_at ps a ≡ key_at ps b = cc in
    elim (nat_cmp x y) as (λ o. nat_cmp x y ≡ o → ordering_then o (order_by ps a b) ≡ Less → ⊥) [
      | Less ↦ λ e g. let lt : x < y = ranked x y Less (sym e) in absurd (omega (arith, lt, head))
      | Equal ↦ λ e g. same_not_less ps a b tail g
      | Greater ↦ λ e g. cc
    ] refl less

module _ (net : Net) (inside : ℕ → Bool) where
  pub fewer_fits : (old new : List PlainMarks) (rows : List ℕ) → AreFewer old new → Fits net inside new rows → Fits net inside old rows
  fewer_fits old new rows fewer fits = record {
    giver = λ j d lt h. fewer (2 * j) _ (fits.giver j d lt h);
    taker = λ j d lt h. fewer (2 * j + 1) _ (fits.taker j d lt h);
  }

  pub same_reduced : (sets : List PlainMarks) → AreReduced net inside sets sets
  same_reduced sets = record { one_each = refl; fewer = λ x m h. h; keeps = λ rows rival fits. fits }

  pub reduced_after : (a b c : List PlainMarks) → AreReduced net inside a b → AreReduced net inside b c → AreReduced net inside a c
  reduced_after a b c x y = record {
    one_each = y.one_each ∙ x.one_each;
    fewer = λ p m h. x.fewer p m (y.fewer p m h);
    keeps = λ rows rival fits. y.keeps rows rival (x.keeps rows rival fits);
  }

  pub no_rival_before : (a b : List PlainMarks) → AreReduced net inside a b → HasNoRival net inside b → HasNoRival net inside a
  no_rival_before a b x none rows rival fits = none rows rival (x.keeps rows rival fits)

  pub walked_reduced : (ps : List Position) (old new : List PlainMarks) → IsWalked net inside ps old → AreReduced net inside old new → IsWalked net inside ps new
  walked_reduced ps old new w r = record {
    walk = λ rows rival fits. w.walk rows rival (fewer_fits old new rows r.fewer fits);
    remain = λ rows others rival fits left same. r.keeps others left (w.remain rows others rival (fewer_fits old new rows r.fewer fits) left same);
  }

  walked_taken : (ps : List Position) (p : Position) (old new : List PlainMarks) → IsWalked net inside ps old → IsTakenAt net inside p old new → IsWalked net inside (ps ++ p ∷ []) new
  walked_taken ps p old new w t = record {
    walk = λ rows rival fits.
        let before = fewer_fits old new rows t.fewer fits in
        walk_snoc (IsRival net inside) ps p rows (w.walk rows rival before) (λ others left same.
        let is : number_of p rows ≡ t.number = t.only rows rival fits in
        let le : t.number ≤ number_of p others = t.least others left (w.remain rows others rival before left same) in
        omega (arith, is, le));
    remain = λ rows others rival fits left same.
        let before = fewer_fits old new rows t.fewer fits in
        let split = keys_split ps p others rows same in
        t.stay others left (w.remain rows others rival before left split.0) (split.1 ∙ t.only rows rival fits);
  }

  pub taken_goes_on : (p : Position) (a b c : List PlainMarks) → IsTakenAt net inside p a b → AreReduced net inside b c → GoesOn net inside (p ∷ []) a c
  taken_goes_on p a b c t r ps w = walked_reduced (ps ++ p ∷ []) b c (walked_taken ps p a b w t) r

  pub goes_nowhere : (a : List PlainMarks) → GoesOn net inside [] a a
  goes_nowhere a ps w = subst (λ (qs : List Position). IsWalked net inside qs a) (sym (append_nil ps)) w
    where
      append_nil : (qs : List Position) → qs ++ [] ≡ qs
      append_nil [] = refl
      append_nil (q ∷ qs) = ap (λ (rs : List Position). q ∷ rs) (append_nil qs)

  pub goes_after : (qs rs : List Position) (a b c : List PlainMarks) → GoesOn net inside qs a b → GoesOn net inside rs b c → GoesOn net inside (qs ++ rs) a c
  goes_after qs rs a b c x y ps w = subst (λ (ts : List Position). IsWalked net inside ts c) (append_assoc ps qs rs) (y (ps ++ qs) (x ps w))

-- One side more.
class_snoc : (net : Net) (turn : ℕ) (ks : List ℕ) (k : ℕ) → class_places net turn (ks ++ k ∷ []) ≡ class_places net turn ks ++ class_place net turn k ∷ []
class_snoc net turn [] k = refl
class_snoc net turn (x ∷ ks) k = ap (λ (ps : List Position). class_place net turn x ∷ ps) (class_snoc net turn ks k)

row_snoc : (ks : List ℕ) (k : ℕ) → row_places (ks ++ k ∷ []) ≡ row_places ks ++ row_place k ∷ []
row_snoc [] k = refl
row_snoc (x ∷ ks) k = ap (λ (ps : List Position). row_place x ∷ ps) (row_snoc ks k)

abbrev lead_one : Net → ℕ → ℕ → List Position
lead_one net turn k = cond (leads_at net k) (class_place net turn k ∷ []) []

lead_snoc : (net : Net) (turn : ℕ) (ks : List ℕ) (k : ℕ) → lead_places net turn (ks ++ k ∷ []) ≡ lead_places net turn ks ++ lead_one net turn k
lead_snoc net turn [] k = refl
lead_snoc net turn (x ∷ ks) k =
    elim (leads_at net x) as (λ t. cond t (class_place net turn x ∷ lead_places net turn (ks ++ k ∷ [])) (lead_places net turn (ks ++ k ∷ [])) ≡ cond t (class_place net turn x ∷ lead_places net turn ks) (lead_places net turn ks) ++ lead_one net turn k) [
      | true ↦ ap (λ (ps : List Position). class_place net turn x ∷ ps) (lead_snoc net turn ks k)
      | false ↦ lead_snoc net turn ks k
    ]

one_more : (sides : List ℕ) (n : ℕ) → n < length sides → take (n + 1) sides ≡ take n sides ++ slice_index sides n ∷ []
one_more sides n lt = rw add-one (take-suc sides n 0 lt)

module _ (net : Net) (turn : ℕ) (inside : ℕ → Bool) (sides : List ℕ) (n : ℕ) (lt : n < length sides) (a b c : List PlainMarks) where
  pub class_next : GoesOn net inside (class_places net turn (take n sides)) a b → GoesOn net inside (class_place net turn (slice_index sides n) ∷ []) b c → GoesOn net inside (class_places net turn (take (n + 1) sides)) a c
  class_next x y =
      subst (λ (ps : List Position). GoesOn net inside ps a c) (sym (ap (class_places net turn) (one_more sides n lt) ∙ class_snoc net turn (take n sides) (slice_index sides n)))
      (goes_after net inside (class_places net turn (take n sides)) (class_place net turn (slice_index sides n) ∷ []) a b c x y)

  pub row_next : GoesOn net inside (row_places (take n sides)) a b → GoesOn net inside (row_place (slice_index sides n) ∷ []) b c → GoesOn net inside (row_places (take (n + 1) sides)) a c
  row_next x y =
      subst (λ (ps : List Position). GoesOn net inside ps a c) (sym (ap row_places (one_more sides n lt) ∙ row_snoc (take n sides) (slice_index sides n)))
      (goes_after net inside (row_places (take n sides)) (row_place (slice_index sides n) ∷ []) a b c x y)

  pub lead_next : leads_at net (slice_index sides n) ≡ true → GoesOn net inside (lead_places net turn (take n sides)) a b → GoesOn net inside (class_place net turn (slice_index sides n) ∷ []) b c → GoesOn net inside (lead_places net turn (take (n + 1) sides)) a c
  lead_next leads x y =
      let one : lead_one net turn (slice_index sides n) ≡ class_place net turn (slice_index sides n) ∷ [] = ap (λ (t : Bool). cond t (class_place net turn (slice_index sides n) ∷ []) []) leads in
      subst (λ (ps : List Position). GoesOn net inside ps a c) (sym (ap (lead_places net turn) (one_more sides n lt) ∙ lead_snoc net turn (take n sides) (slice_index sides n) ∙ ap (λ (ps : List Position). lead_places net turn (take n sides) ++ ps) one))
      (goes_after net inside (lead_places net turn (take n sides)) (class_place net turn (slice_index sides n) ∷ []) a b c x y)

  pub lead_skip : leads_at net (slice_index sides n) ≡ false → GoesOn net inside (lead_places net turn (take n sides)) a b → GoesOn net inside (lead_places net turn (take (n + 1) sides)) a b
  lead_skip leads x =
      let none : lead_one net turn (slice_index sides n) ≡ [] = ap (λ (t : Bool). cond t (class_place net turn (slice_index sides n) ∷ []) []) leads in
      subst (λ (ps : List Position). GoesOn net inside ps a b) (sym (ap (lead_places net turn) (one_more sides n lt) ∙ lead_snoc net turn (take n sides) (slice_index sides n) ∙ ap (λ (ps : List Position). lead_places net turn (take n sides) ++ ps) none))
      (goes_after net inside (lead_places net turn (take n sides)) [] a b b x (goes_nowhere net inside b))
