-- The forms that the table of a side can have.
use Rattle.std.specs.Prelude.{ℕ, ◌+◌, ◌*◌, ◌<◌, ◌≡◌, ◌↔◌, Bool, true, false, Option, None}
use Rattle.reo_net_base.specs.declared.mark.Mark.{Mark}
use Rattle.reo_net_base.specs.declared.form.Form.{Form}
use Rattle.reo_net_base.specs.declared.form.Form.TheVariants.{Single, Double, Merging, Replicating}
use Rattle.reo_net_base.specs.Behaviour.{Behaviour, IsEndOf}
use Rattle.reo_net_base.specs.Rows.{row_count, mark_in, class_in}
use Rattle.reo_net_base.specs.Tables.{rows_of, place_in}
use Rattle.reo_net_base.specs.Branching.{merger_mark, merger_class, merger_group, merger_common, merger_apart, replicator_mark, replicator_class, replicator_group, replicator_common, replicator_apart}

-- What a form says: a table of one end or of two, or that of a merger or of a replicator.
abbrev pub rows_by : Form → ℕ
rows_by (Single table) = row_count (rows_of table)
rows_by (Double table) = row_count (rows_of table)
rows_by (Merging branches) = branches.count + 3
rows_by (Replicating branches) = branches.count + 3

abbrev pub mark_by : Form → ℕ → ℕ → Mark
mark_by (Single table) row end = mark_in (rows_of table) row 0
mark_by (Double table) row end = mark_in (rows_of table) row end
mark_by (Merging branches) row end = merger_mark branches.count row end
mark_by (Replicating branches) row end = replicator_mark branches.count row end

-- In the round of this number.
abbrev pub class_by : Form → ℕ → ℕ → ℕ
class_by (Single table) row turn = class_in (rows_of table) row
class_by (Double table) row turn = class_in (rows_of table) row
class_by (Merging branches) row turn = merger_class branches.count row turn
class_by (Replicating branches) row turn = replicator_class branches.count row

-- Groups: each row is one of its own, but of mergers and replicators.
abbrev pub groups_by : Form → ℕ
groups_by (Single table) = row_count (rows_of table)
groups_by (Double table) = row_count (rows_of table)
groups_by (Merging branches) = 4
groups_by (Replicating branches) = 4

abbrev pub group_by : Form → ℕ → ℕ
group_by (Single table) row = row
group_by (Double table) row = row
group_by (Merging branches) row = merger_group branches.count row
group_by (Replicating branches) row = replicator_group branches.count row

abbrev pub common_by : Form → ℕ → ℕ → Mark
common_by (Single table) group end = mark_in (rows_of table) group 0
common_by (Double table) group end = mark_in (rows_of table) group end
common_by (Merging branches) group end = merger_common branches.count group end
common_by (Replicating branches) group end = replicator_common group end

abbrev pub apart_by : Form → ℕ → Option ℕ
apart_by (Single table) row = None
apart_by (Double table) row = None
apart_by (Merging branches) row = merger_apart branches.count row
apart_by (Replicating branches) row = replicator_apart branches.count row

-- Mergers alone lead.
abbrev pub leads_by : Form → Bool
leads_by (Single table) = false
leads_by (Double table) = false
leads_by (Merging branches) = true
leads_by (Replicating branches) = false

-- After how many rounds the classes are the same again: the inputs of a merger take turns.
abbrev pub period_in : Form → ℕ
period_in (Single table) = 1
period_in (Double table) = 1
period_in (Merging branches) = branches.count
period_in (Replicating branches) = 1

-- A number for each form.
abbrev pub number_in : Form → ℕ
number_in (Single table) = place_in table
number_in (Double table) = 7 + place_in table
number_in (Merging branches) = 16 + 2 * branches.count
number_in (Replicating branches) = 17 + 2 * branches.count

-- The ends of a side of this form and this number: one, which has the number of its side, or the first so many.
abbrev pub IsPlaceOf : Form → ℕ → ℕ → Type 0
IsPlaceOf (Single table) side end = end ≡ side
IsPlaceOf (Double table) side end = end < 2
IsPlaceOf (Merging branches) side end = end < branches.count + 1
IsPlaceOf (Replicating branches) side end = end < branches.count + 1

-- A side whose ends and table are those of a form.
pub record HasForm (form : Form) (b : Behaviour) (side : ℕ) : Type 0 where
  pub ends : (end : ℕ) → IsEndOf b side end ↔ IsPlaceOf form side end
  pub rows : b.rows side ≡ rows_by form
  pub mark : (row end : ℕ) → row < b.rows side → IsEndOf b side end
      → b.mark side row end ≡ mark_by form row end
  pub class : (row turn : ℕ) → row < b.rows side → b.class side row turn ≡ class_by form row turn
