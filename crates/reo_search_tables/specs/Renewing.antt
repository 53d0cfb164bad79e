-- Some places of tables, made anew.
use Rattle.std.specs.Prelude.{ℕ, ◌<◌, ◌≡◌, false, List, length, slice_index, slice_index_or}
use Rattle.reo_reach.specs.Supplied.{OthersStay}
use Rattle.reo_propagate.specs.Queues.{among}
use Rattle.reo_search_tables.specs.declared.tables.SearchTables.{SearchTables}

-- A list stays but at some places, and keeps its length.
pub record StaysBesides {A : Type 0} (places : List ℕ) (old new : List A) : Type 0 where
  pub one_each : length new ≡ length old
  pub other : (k : ℕ) (d : A) → k < length old → among places k ≡ false
      → slice_index_or new k d ≡ slice_index_or old k d

-- What stands at the first n of some places of a list is right there.
abbrev pub AreRightAt : {A : Type 0} → List ℕ → ℕ → (ℕ → A → Type 0) → List A → Type 0
AreRightAt {A} places n right list = (m : ℕ) (d : A) → m < n
    → right (slice_index places m) (slice_index_or list (slice_index places m) d)

-- Tables stay but for what they have of some sides.
pub record OnlySides (sides : List ℕ) (old new : SearchTables) : Type 0 where
  pub supply : new.supply ≡ old.supply
  pub alive : new.state.alive ≡ old.state.alive
  pub seen : new.state.rows.seen ≡ old.state.rows.seen
  pub waits : new.state.queue.waits ≡ old.state.queue.waits
  pub boards : StaysBesides sides old.boards new.boards
  pub live : StaysBesides sides old.state.rows.live new.state.rows.live
  pub notes : StaysBesides sides old.state.rows.notes new.state.rows.notes

-- Tables stay but for what they have of some joints.
pub record OnlyJoints (joints : List ℕ) (old new : SearchTables) : Type 0 where
  pub boards : new.boards ≡ old.boards
  pub live : new.state.rows.live ≡ old.state.rows.live
  pub notes : new.state.rows.notes ≡ old.state.rows.notes
  pub waits : new.state.queue.waits ≡ old.state.queue.waits
  pub supply : OthersStay joints old.supply new.supply
  pub alive : StaysBesides joints old.state.alive new.state.alive
  pub seen : StaysBesides joints old.state.rows.seen new.state.rows.seen
