-- What a search needs, said of what it rests on.
use Rattle.std.specs.Prelude.{Bool, List}
use Rattle.reo_net_base.specs.Net.{Net}
use Rattle.reo_rows.specs.declared.basis.Basis.{Basis}
use Rattle.reo_rows.specs.Sets.{IsReady}

-- A search can rest on it: its boards and ends are those of the net, and each joint has its items and a flag for each of its values.
abbrev pub IsReadyOn : {P : Type 0} → Net → Basis P → List (List Bool) → Type 0
IsReadyOn net basis alive = IsReady net basis.boards.now basis.ends.now basis.items.now alive
