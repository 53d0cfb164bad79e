-- The rows of mergers and replicators: one end is the center, and all others are alike.
use Rattle.std.specs.Prelude.{ℕ, ◌<◌, ◌≤◌, ◌≡◌, ◌==◌, ◌&&◌, ◌||◌, ◌↔◌, ◌⊎◌, not, cond, Bool, true, false, List, length, slice_index}
use Rattle.reo_net_base.specs.declared.mark.Mark.{Mark}
use Rattle.reo_net_base.specs.declared.mark.Mark.TheVariants.{F, G, R}
use Rattle.reo_mark_sets.specs.declared.marks.PlainMarks.{PlainMarks}
use Rattle.reo_mark_sets.specs.declared.tallies.Multiplicity.{Multiplicity}
use Rattle.reo_mark_sets.specs.declared.tallies.Multiplicity.TheVariants.{Nowhere, Once, Often}
use Rattle.reo_mark_sets.specs.declared.stars.Star.{Star}
use Rattle.reo_mark_sets.specs.declared.stars.Star.TheVariants.{Merger, Replicator}
use Rattle.reo_mark_sets.specs.PlainMarks.{has, marks_at, open_at}
use Rattle.reo_mark_sets.specs.Tallies.{HoldsOften}
use Rattle.reo_mark_sets.specs.Standing.{AreElsewhere}

-- By a row one end alone is apart, or none is: then all ends but the center give reasons, or none
-- does.
pub data Kind : Type 0 where
  apart : ℕ → Kind
  rest : Kind
  other : Kind

-- The mark of the end that is apart, and that of the center then.
abbrev pub apart_mark : Star → Mark
apart_mark Merger = F
apart_mark Replicator = R

abbrev pub center_apart : Star → Mark
center_apart Merger = F
center_apart Replicator = G

-- The mark of all ends by the row by which none gives a reason, and that of the center then.
abbrev pub other_mark : Star → Mark
other_mark Merger = R
other_mark Replicator = F

abbrev pub center_other : Star → Mark
center_other Merger = G
center_other Replicator = F

-- The mark at an end.
abbrev pub kind_mark : Star → ℕ → Kind → ℕ → Mark
kind_mark star center (apart x) o = cond (o == center) (center_apart star) (cond (o == x) (apart_mark star) G)
kind_mark star center rest o = cond (o == center) R G
kind_mark star center other o = cond (o == center) (center_other star) (other_mark star)

-- An end that is apart is none but the center.
abbrev pub IsKind : ℕ → ℕ → Kind → Type 0
IsKind from to (apart x) = (from ≤ x) × (x < to)
IsKind from to rest = Unit {0}
IsKind from to other = Unit {0}

-- Each end is the center, or is one from one number on and below another.
pub record IsStar (width center from to : ℕ) : Type 0 where
  pub center_in : center < width
  pub in_order : from ≤ to
  pub spokes_in : to ≤ width
  pub outside : (o : ℕ) → from ≤ o → o < to → o ≡ center → ⊥
  pub all : (o : ℕ) → o < width → (o ≡ center) ⊎ ((from ≤ o) × (o < to))

-- The marks of a kind of row are open at each end.
pub record KindWorks (star : Star) (center from to : ℕ) (places : List ℕ) (sets : List PlainMarks) (kind : Kind) : Type 0 where
  pub is_kind : IsKind from to kind
  pub each : (o : ℕ) → o < length places → has (open_at sets (slice_index places o)) (kind_mark star center kind o) ≡ true

-- The ends that may be apart: none; one alone; or each that can have the mark, of which there are
-- two.
abbrev pub AreAparts : Star → ℕ → ℕ → ℕ → List ℕ → List PlainMarks → Multiplicity → Type 0
AreAparts star center from to places sets Nowhere = (x : ℕ) → KindWorks star center from to places sets (apart x) → ⊥
AreAparts star center from to places sets (Once i) =
    KindWorks star center from to places sets (apart i)
    × ((x : ℕ) → KindWorks star center from to places sets (apart x) → x ≡ i)
AreAparts star center from to places sets Often =
    ((x : ℕ) → from ≤ x → x < to → has (open_at sets (slice_index places x)) (apart_mark star) ≡ true → KindWorks star center from to places sets (apart x))
    × HoldsOften (λ x. has (open_at sets (slice_index places x)) (apart_mark star)) from to

-- At the places just the marks stay that a kind of row has which works.
pub record IsStarNarrowed (star : Star) (center from to : ℕ) (places : List ℕ) (old new : List PlainMarks) : Type 0 where
  pub elsewhere : AreElsewhere places old new
  pub exact : (o : ℕ) (mark : Mark) → o < length places
      → (has (marks_at new (slice_index places o)) mark ≡ true)
      ↔ ((kind : Kind) × KindWorks star center from to places old kind × (kind_mark star center kind o ≡ mark))

-- Whether one end can be apart, and whether another can.
abbrev pub may_be : Multiplicity → ℕ → Bool
may_be Nowhere o = false
may_be (Once i) o = i == o
may_be Often o = true

abbrev pub may_another : Multiplicity → ℕ → Bool
may_another Nowhere o = false
may_another (Once i) o = not (i == o)
may_another Often o = true

abbrev pub may_some : Multiplicity → Bool
may_some Nowhere = false
may_some (Once i) = true
may_some Often = true

-- What is left at the center, and at another end.
abbrev pub center_left : Star → Multiplicity → Bool → Bool → PlainMarks
center_left Merger aparts rests others = record { flow = may_some aparts; given = others; required = rests }
center_left Replicator aparts rests others = record { flow = others; given = may_some aparts; required = rests }

abbrev pub spoke_left : Star → Multiplicity → Bool → Bool → PlainMarks → ℕ → PlainMarks
spoke_left Merger aparts rests others marks o = record { flow = may_be aparts o && marks.flow; given = rests || may_another aparts o; required = others }
spoke_left Replicator aparts rests others marks o = record { flow = others; given = rests || may_another aparts o; required = may_be aparts o && marks.required }
