-- Passes over the joints.
use Rattle.std.specs.Prelude.{◌<◌, ◌≡◌}
use Rattle.reo_net_base.specs.Net.{Net}
use Rattle.reo_refute_base.specs.Items.{Lists, IsPass}
use Rattle.reo_refute_base.specs.Wide.{IsWide}
use Rattle.reo_refute_parts.specs.declared.lists.visits.Brought.{Brought}
use Rattle.reo_refute_parts.specs.declared.lists.visits.Brought.TheVariants.{Nothing, Items, Many}
use Rattle.reo_refute_parts.specs.lists.Visits.{AreGood, total}

-- What visits of joints have brought so far.
abbrev pub SoFar : Lists → Lists → Brought → Type 0
SoFar old new Nothing = new ≡ old
SoFar old new Items = total old < total new
SoFar old new Many = ⊥

-- What a pass has brought.
abbrev pub Passes : Net → Lists → Lists → Brought → Type 0
Passes net old new Nothing = IsPass net old new × AreGood net new × (new ≡ old)
Passes net old new Items = IsPass net old new × AreGood net new × (total old < total new)
Passes net old new Many = IsWide net
