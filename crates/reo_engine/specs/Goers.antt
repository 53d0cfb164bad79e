-- The primitives that a round goes to.
use Rattle.std.specs.Prelude.{◌≡◌, ◌||◌, ◌==◌, Bool, List, length, map}
use Rattle.reo_net_base.specs.Behaviour.{Behaviour}
use Rattle.reo_net_base.specs.Lasting.{Lasting}
use Rattle.reo_engine.specs.declared.goers.Goers.{Goers}

-- Whether a primitive keeps something between rounds or has two sides.
abbrev pub is_keeper : {P : Type 0} → (P → Behaviour) → (P → Lasting) → P → Bool
is_keeper behaviour lasting p = (lasting p).keeps || ((behaviour p).sides == 2)

-- Just such primitives are told, and there is a flag for each primitive.
pub record AreGoers {P : Type 0} (behaviour : P → Behaviour) (lasting : P → Lasting) (primitives : List P) (goers : Goers) : Type 0 where
  pub keepers : goers.keepers ≡ map (is_keeper behaviour lasting) primitives
  pub one_each : length goers.going ≡ length primitives
