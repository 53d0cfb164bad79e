-- The tables of a circuit, and a search that was begun.
use Rattle.reo_net_base.specs.Net.{Net}
use Rattle.reo_propagate.specs.declared.state.State.{State}
use Rattle.reo_walk.specs.declared.wanted.Wanted.{Wanted}
use Rattle.reo_search.specs.declared.tables.Tables.{Tables}
use Rattle.reo_search.specs.choices.Trying.{MayRestart}

-- With these tables, and the items that can stand at each joint, the search may begin anew.
abbrev pub AreBegun : {P : Type 0} → Net → Wanted P → Tables → State → Type 0
AreBegun net wanted tables =
    MayRestart net tables.boards.now tables.ends.now wanted.supply.now.items
