-- Ends that give and ends that take in.
use Rattle.std.specs.Prelude.{◌≡◌, true, false}
use Rattle.reo_net_base.specs.declared.joint.End.{End}
use Rattle.reo_net_base.specs.Net.{Net, behaviour_at}
use Rattle.reo_net_base.specs.Wired.{IsEnd}

-- An end at which items leave its primitive.
pub record IsGiver (net : Net) (e : End) : Type 0 where
  pub is_end : IsEnd net.primitives e
  pub gives : (behaviour_at net.primitives e.primitive).takes_in e.end ≡ false

-- An end at which items enter its primitive.
pub record IsTaker (net : Net) (e : End) : Type 0 where
  pub is_end : IsEnd net.primitives e
  pub takes : (behaviour_at net.primitives e.primitive).takes_in e.end ≡ true
