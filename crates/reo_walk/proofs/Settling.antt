-- Each place gets the least number of a row that works there.
use Rattle.std.proofs.Common.{◌≡◌, ◌≢◌, inl, inr, ℕ, ◌<◌, ◌≤◌, Bool, true, List, [], ◌∷◌, ◌++◌, length, refl, ap, sym, ◌∙◌, arith}
use Rattle.std.specs.declared.cmp.Ordering.{Ordering}
use Rattle.std.specs.declared.cmp.Ordering.TheVariants.{Less, Equal, Greater}
use Rattle.std.specs.Ordering.{nat_cmp, ordering_then}
use Rattle.std.specs.Cmp.{nat_cmp_is}
use Rattle.std.specs.Cmp.Lexicographic.{slice_cmp}
use Rattle.std.proofs.lemmas.Bool.{cases_lt}
use Rattle.std.proofs.lemmas.List.{map-append, length-map}
use Rattle.reo_net_base.specs.Net.{Net, all_sides}
use Rattle.reo_net_base.specs.Wired.{IsWired}
use Rattle.reo_net_laws.specs.Ends.{IsRowOf}
use Rattle.reo_net_laws.specs.Parts.{IsKnot}
use Rattle.reo_joint_values.specs.declared.value.JointValue.{JointValue}
use Rattle.reo_joint_values.specs.Values.{Names, Choice, Family}
use Rattle.reo_joint_values.specs.Supported.{IsSupported, IsNarrowed}
use Rattle.reo_joint_values.specs.Chosen.{IsChosen}
use Rattle.reo_support.specs.Sets.{OneAtLoops}
use Rattle.reo_joint_values.specs.Works.{RowWorks}
use Rattle.reo_joint_values.proofs.Works.{fits_works}
use Rattle.reo_joint_values.proofs.Narrowing.{chosen_stays, chosen_was}
use Rattle.reo_support.proofs.Rows.{row_stands}
use Rattle.reo_walk.specs.declared.place.KeyPlace.{KeyPlace}
use Rattle.reo_walk.specs.Places.{side_of_place, number_of, numbers, held_to}
use Rattle.reo_walk.specs.Settling.{HasChosen, HasNone, Settling, IsFirstWith}
use Rattle.reo_walk.specs.Walking.{IsWalked}
use Rattle.reo_walk.proofs.Numbering.{held_number, number_held, held_within}

-- One number is less than another, the same, or more.
data Compared (a b : ℕ) : Type 0 where
  before : a < b → Compared a b
  equal : a ≡ b → Compared a b
  behind : b < a → Compared a b

compared : (a b : ℕ) → Compared a b
compared a b = elim (cases_lt a b) [
  | inl lt ↦ before lt
  | inr ge ↦ elim (cases_lt b a) [ inl lt ↦ behind lt | inr le ↦ equal (omega arith) ]
]

ahead : (rest : Ordering) (x y : ℕ) (o : Ordering) → nat_cmp x y ≡ o → ordering_then (nat_cmp x y) rest ≡ ordering_then o rest
ahead rest x y o is = ap (λ (z : Ordering). ordering_then z rest) is

-- A list that is not before another is not before it with one number more each, if where they are the same its number is not less.
cmp_snoc : (xs ns : List ℕ) (y m : ℕ) → length xs ≡ length ns → slice_cmp nat_cmp xs ns ≢ Less → (xs ≡ ns → m ≤ y) → slice_cmp nat_cmp (xs ++ y ∷ []) (ns ++ m ∷ []) ≢ Less
cmp_snoc [] [] y m n ne h = λ e. elim (compared y m) [
  | before lt ↦ let le = h refl in absurd (omega (arith, lt, le))
  | equal s ↦ let w = sym (ahead Equal y m Equal (sym (nat_cmp_is y m Equal s))) ∙ e in absurd (cc w)
  | behind gt ↦ let w = sym (ahead Equal y m Greater (sym (nat_cmp_is y m Greater gt))) ∙ e in absurd (cc w)
]
cmp_snoc [] (k ∷ ns) y m n ne h = absurd (omega arith)
cmp_snoc (x ∷ xs) [] y m n ne h = absurd (omega arith)
cmp_snoc (x ∷ xs) (k ∷ ns) y m n ne h = elim (compared x k) [
  | before lt ↦ absurd (ne (ahead (slice_cmp nat_cmp xs ns) x k Less (sym (nat_cmp_is x k Less lt))))
  | equal s ↦ λ e.
      let is = sym (nat_cmp_is x k Equal s) in
      cmp_snoc xs ns y m (omega arith) (λ w. ne (ahead (slice_cmp nat_cmp xs ns) x k Equal is ∙ w)) (λ w. h (λ i. s i ∷ w i))
      (sym (ahead (slice_cmp nat_cmp (xs ++ y ∷ []) (ns ++ m ∷ [])) x k Equal is) ∙ e)
  | behind gt ↦ λ e. let w = sym (ahead (slice_cmp nat_cmp (xs ++ y ∷ []) (ns ++ m ∷ [])) x k Greater (sym (nat_cmp_is x k Greater gt))) ∙ e in cc w
]

snoc_parts : (xs ns : List ℕ) (y m : ℕ) → length xs ≡ length ns → xs ++ y ∷ [] ≡ ns ++ m ∷ [] → (xs ≡ ns) × (y ≡ m)
snoc_parts [] [] y m n e = (refl, cc)
snoc_parts [] (k ∷ ns) y m n e = absurd (omega arith)
snoc_parts (x ∷ xs) [] y m n e = absurd (omega arith)
snoc_parts (x ∷ xs) (k ∷ ns) y m n e =
    let tail : xs ++ y ∷ [] ≡ ns ++ m ∷ [] = cc in
    let head : x ≡ k = cc in
    let rest = snoc_parts xs ns y m (omega arith) tail in
    ((λ i. head i ∷ rest.0 i), rest.1)

-- One place more is settled.
settle_more : (Old Now Next : (ℕ → ℕ) → Choice → Type 0) (net : Net) (turn : ℕ) (places : List KeyPlace) (chosen : List ℕ) (p : KeyPlace) (m : ℕ) → length chosen ≡ length places → Settling Old Now net turn places chosen
    → ((rows : ℕ → ℕ) (choice : Choice) → Next rows choice → Now rows choice)
    → ((rows : ℕ → ℕ) (choice : Choice) → Next rows choice → number_of net turn p (rows (side_of_place p)) ≡ m)
    → ((rows : ℕ → ℕ) (choice : Choice) → Now rows choice → number_of net turn p (rows (side_of_place p)) ≡ m → Next rows choice)
    → ((rows : ℕ → ℕ) (choice : Choice) → Now rows choice → m ≤ number_of net turn p (rows (side_of_place p)))
    → Settling Old Next net turn (places ++ p ∷ []) (chosen ++ m ∷ [])
settle_more Old Now Next net turn places chosen p m len s was has keeps least =
    let split : (rows : ℕ → ℕ) → numbers net turn (places ++ p ∷ []) rows ≡ numbers net turn places rows ++ number_of net turn p (rows (side_of_place p)) ∷ [] =
    λ rows. map-append (λ (q : KeyPlace). number_of net turn q (rows (side_of_place q))) places (p ∷ []) in
    let count : (rows : ℕ → ℕ) → length (numbers net turn places rows) ≡ length chosen =
    λ rows. length-map places (λ (q : KeyPlace). number_of net turn q (rows (side_of_place q))) ∙ sym len in
    record {
      old = λ rows choice a. s.old rows choice (was rows choice a);
      has = λ rows choice a. split rows ∙ ap (λ (ns : List ℕ). ns ++ number_of net turn p (rows (side_of_place p)) ∷ []) (s.has rows choice (was rows choice a)) ∙ ap (λ (k : ℕ). chosen ++ k ∷ []) (has rows choice a);
      keeps = λ rows choice a e.
          let parts = snoc_parts (numbers net turn places rows) chosen (number_of net turn p (rows (side_of_place p))) m (count rows) (sym (split rows) ∙ e) in
          keeps rows choice (s.keeps rows choice a parts.0) parts.1;
      least = λ rows choice a e.
          cmp_snoc (numbers net turn places rows) chosen (number_of net turn p (rows (side_of_place p))) m (count rows) (s.least rows choice a) (λ same_so_far. least rows choice (s.keeps rows choice a same_so_far))
          (ap (λ (ns : List ℕ). slice_cmp nat_cmp ns (chosen ++ m ∷ [])) (sym (split rows)) ∙ e);
    }

-- One more place, held to the least number of a row that works there, and narrowed.
module _ (net : Net) (wired : IsWired net) (names : Names) (inside : ℕ → Bool) (turn : ℕ) (start now next : Family) (places : List KeyPlace) (chosen : List ℕ) (p : KeyPlace) (row : ℕ)
    (side_in : side_of_place p < length (all_sides net.primitives)) (is_in : inside (side_of_place p) ≡ true) (in_table : IsRowOf net (side_of_place p) row)
    (narrowed : IsNarrowed net names inside (held_to net p row now) next) where
  next_was : (rows : ℕ → ℕ) (choice : Choice) → IsChosen net names inside next rows choice → IsChosen net names inside (held_to net p row now) rows choice
  next_was rows choice a = chosen_was net names inside (held_to net p row now) next rows choice narrowed.smaller a

  next_now : (rows : ℕ → ℕ) (choice : Choice) → IsChosen net names inside next rows choice → IsChosen net names inside now rows choice
  next_now rows choice a = chosen_was net names inside now (held_to net p row now) rows choice (held_within net inside p row now) (next_was rows choice a)

  next_keeps : (rows : ℕ → ℕ) (choice : Choice) → IsChosen net names inside now rows choice → number_of net turn p (rows (side_of_place p)) ≡ number_of net turn p row → IsChosen net names inside next rows choice
  next_keeps rows choice a e = chosen_stays net names inside (held_to net p row now) next rows choice narrowed (number_held net wired turn p side_in names inside now row is_in in_table rows choice a e)

  row_works_of : (rows : ℕ → ℕ) (choice : Choice) → IsChosen net names inside now rows choice → RowWorks net names now (side_of_place p) (rows (side_of_place p))
  row_works_of rows choice a = fits_works net wired names now (side_of_place p) (rows (side_of_place p)) choice (a.fits (side_of_place p) is_in) (a.from (side_of_place p) is_in)

  pub walk_more : length chosen ≡ length places → Settling (IsChosen net names inside start) (IsChosen net names inside now) net turn places chosen
      → ((r : ℕ) → RowWorks net names now (side_of_place p) r → number_of net turn p row ≤ number_of net turn p r)
      → Settling (IsChosen net names inside start) (IsChosen net names inside next) net turn (places ++ p ∷ []) (chosen ++ number_of net turn p row ∷ [])
  walk_more len s least =
      settle_more (IsChosen net names inside start) (IsChosen net names inside now) (IsChosen net names inside next) net turn places chosen p (number_of net turn p row) len s
      next_now
      (λ rows choice a. held_number net wired turn p side_in names inside now row is_in in_table rows choice (next_was rows choice a))
      next_keeps
      (λ rows choice a. least (rows (side_of_place p)) (row_works_of rows choice a))

  -- With one value at each loop joint, the row that works stands in an assignment, which is left.
  pub next_some : IsKnot net inside → IsSupported net names inside now → OneAtLoops net inside now → RowWorks net names now (side_of_place p) row → HasChosen net names inside next
  next_some knot supported one works =
      let s = row_stands net wired names inside now knot supported one (side_of_place p) row is_in works in
      record { rows = s.1.rows; choice = s.1.choice; chosen = next_keeps s.1.rows s.1.choice s.1.chosen (ap (number_of net turn p) s.1.row_is) }

-- Fewer values are not more at a loop joint.
pub one_less : (net : Net) (inside : ℕ → Bool) (old new : Family) → ((j : ℕ) (v : JointValue) → new j v ≡ true → old j v ≡ true) → OneAtLoops net inside old → OneAtLoops net inside new
one_less net inside old new less one j v w lt is loop a b = one j v w lt is loop (less j v a) (less j w b)

-- Where no row works at a side, nothing is left.
pub none_left : (net : Net) → IsWired net → (names : Names) (inside : ℕ → Bool) (sets : Family) (side : ℕ) → inside side ≡ true → ((r : ℕ) → RowWorks net names sets side r → ⊥) → HasNone net names inside sets
none_left net wired names inside sets side is none rows choice a = none (rows side) (fits_works net wired names sets side (rows side) choice (a.fits side is) (a.from side is))

-- The end of a walk that is settled is first, where one value is left at each loop joint.
pub walked_first : (net : Net) (names : Names) (inside : ℕ → Bool) (turn : ℕ) (start now : Family) (places : List KeyPlace) (chosen : List ℕ)
    → IsKnot net inside → IsWalked net names inside turn start now places chosen → OneAtLoops net inside now → IsFirstWith net names inside turn start places chosen
walked_first net names inside turn start now places chosen knot walked one =
    let a = walked.some knot one in
    record {
      first = record { rows = a.rows; choice = a.choice; chosen = walked.settling.old a.rows a.choice a.chosen };
      numbers_are = walked.settling.has a.rows a.choice a.chosen;
      least = walked.settling.least;
    }
