-- What idle means.
use Rattle.std.specs.Prelude.{ℕ, ◌≢◌, ◌↔◌, IsTrue, List}
use Rattle.reo_net_base.specs.declared.mark.Mark.TheVariants.{F}
use Rattle.reo_net_base.specs.declared.joint.End.{End}
use Rattle.reo_net_base.specs.Net.{Net, mark_at}
use Rattle.reo_net_base.specs.Wired.{IsEnd, IsWired}
use Rattle.reo_trace.specs.Entries.{is_idle}

-- No end of any primitive flows.
abbrev pub NoEndFlows : Net → List ℕ → Type 0
NoEndFlows net rows = (e : End) → IsEnd net.primitives e → mark_at net rows e ≢ F

-- In every circuit a line is idle exactly where no end flows.
abbrev pub IdleMeansNoFlow : Type 0
IdleMeansNoFlow = (net : Net) (rows : List ℕ) → IsWired net → IsTrue (is_idle net rows) ↔ NoEndFlows net rows
