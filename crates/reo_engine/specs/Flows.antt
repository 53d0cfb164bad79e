-- What a round that stands is made with.
use Rattle.std.specs.Prelude.{ℕ, ◌<◌, ◌≡◌, Bool, true, false, List, Option, Some, None, length, slice_index, slice_index_or}
use Rattle.reo_values.specs.declared.value.Value.{Value}
use Rattle.reo_net_base.specs.Net.{Net}
use Rattle.reo_net_base.specs.Sides.{side_count}
use Rattle.reo_trace.specs.declared.cells.cells.Cells.{Cells}
use Rattle.reo_trace.specs.cells.Cells.{AreCells, IsShown}
use Rattle.reo_net_laws.specs.Knots.{Knotted, knot_count}
use Rattle.reo_settling.specs.Plannings.{Kept, is_settled}
use Rattle.reo_round.specs.Feeds.{AreFeeds}
use Rattle.reo_round.specs.Filling.{AreBlank}
use Rattle.reo_engine.specs.declared.flows.Flows.{Flows}
use Rattle.reo_engine.specs.Resting.{AreDoneAt, part_of}

-- A list of no items at so many joints, if there is one.
abbrev pub MayBeBlank : ℕ → Option (List (Option Value)) → Type 0
MayBeBlank joints None = Unit {0}
MayBeBlank joints (Some items) = AreBlank joints items

-- A list of these rows, if there is one.
abbrev pub MayBeRows : List ℕ → Option (List ℕ) → Type 0
MayBeRows rows None = Unit {0}
MayBeRows rows (Some made) = made ≡ rows

-- So many marks, if there are any.
abbrev pub MayBeMarks : ℕ → Option (List Bool) → Type 0
MayBeMarks count None = Unit {0}
MayBeMarks count (Some marks) = length marks ≡ count

-- There is no list of no items, and all is as it was but for the list of any numbers, the moves, the rows and the marks, which may be
-- gone.
pub record HasNoSheet (old new : Flows) : Type 0 where
  pub blank : new.blank ≡ None
  pub rows : (rows : List ℕ) → MayBeRows rows old.rows → MayBeRows rows new.rows
  pub marks : (count : ℕ) → MayBeMarks count old.marks → MayBeMarks count new.marks
  pub shown_parts : new.shown_parts ≡ old.shown_parts
  pub cells : new.cells ≡ old.cells
  pub shown : new.shown ≡ old.shown
  pub feeds : new.feeds ≡ old.feeds

-- Of so many parts only those are flagged that are settled, and none where such are not shown.
pub record AreFlaggedShown (shown : Bool) (kept : Kept) (parts : ℕ) (flags : List Bool) : Type 0 where
  pub one_each : length flags ≡ parts
  pub each : (k : ℕ) → slice_index_or flags k false ≡ true → (shown ≡ true) × (is_settled kept k ≡ true)

-- Each side of a settled part is shown by the rows that are kept.
abbrev pub AreKeptShown : Net → Knotted → Kept → Cells → Type 0
AreKeptShown net knots kept cells = (s : ℕ) → s < side_count net → is_settled kept (part_of knots s) ≡ true
    → IsShown net kept.rows s cells

-- Each side of the first n parts that is of none that is flagged is shown by some rows, and those of parts that are flagged
-- show what they showed.
abbrev pub AreShownAt : Net → Knotted → List ℕ → List Bool → ℕ → Cells → Cells → Type 0
AreShownAt net knots rows flags n old new =
    AreDoneAt net knots flags n (λ s. IsShown net rows s new) (λ s. slice_index new.shown s ≡ slice_index old.shown s)

-- A list has some rows at each such side, and what it had at the sides of parts that are flagged.
pub record AreWrittenAt (net : Net) (knots : Knotted) (rows : List ℕ) (flags : List Bool) (n : ℕ) (old new : List ℕ) : Type 0 where
  pub one_each : length new ≡ length old
  pub at : AreDoneAt net knots flags n (λ s. slice_index new s ≡ slice_index rows s) (λ s. slice_index new s ≡ slice_index old s)

-- A list of no items, one of the rows that are kept and marks of primitives, if there are such; a flag for each part; cells, which may show the rows that are kept of settled parts;
-- and what feeds the joints.
pub record AreFlows (net : Net) (knots : Knotted) (kept : Kept) (flows : Flows) : Type 0 where
  pub blank : MayBeBlank (length net.joints) flows.blank
  pub rows : MayBeRows kept.rows flows.rows
  pub marks : MayBeMarks (length net.primitives) flows.marks
  pub one_each : length flows.shown_parts ≡ knot_count knots
  pub cells : AreCells net flows.cells
  pub shown : flows.shown ≡ true → AreKeptShown net knots kept flows.cells
  pub feeds : AreFeeds net flows.feeds
