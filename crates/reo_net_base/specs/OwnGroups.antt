-- Each row a group of its own.
use Rattle.std.specs.Prelude.{None}
use Rattle.reo_net_base.specs.Behaviour.{Behaviour}
use Rattle.reo_net_base.specs.Lawful.{IsGrouped}

-- A behaviour with each row as a group of its own.
abbrev pub with_own_groups : Behaviour → Behaviour
with_own_groups b = record b {
  groups = λ side. b.rows side;
  group = λ side row. row;
  common = λ side group end. b.mark side group end;
  apart = λ side row. None;
}

-- Each row can be a group of its own, whatever the behaviour: the laws of groups exclude no primitive.
abbrev pub OwnGroupsAreGroups : Type 0
OwnGroupsAreGroups = (b : Behaviour) → IsGrouped (with_own_groups b)
