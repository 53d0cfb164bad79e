-- A search that may go on, said of what it rests on.
use Rattle.std.specs.Prelude.{ℕ, Bool}
use Rattle.reo_net_base.specs.Net.{Net}
use Rattle.reo_rows.specs.declared.basis.Basis.{Basis}
use Rattle.reo_propagate.specs.declared.state.State.{State}
use Rattle.reo_propagate.specs.Beginning.{IsSearch}

-- A search on it may go on: its tables have their places, and it is tended.
abbrev pub IsSearchOn : {P : Type 0} → Net → Basis P → (ℕ → Bool) → State → Type 0
IsSearchOn net basis inside = IsSearch net basis.boards.now basis.ends.now basis.items.now inside
