-- The nodes of ends.
use Rattle.std.specs.Prelude.{ℕ, ◌≡◌, ◌<◌, List, length, slice_index}
use Rattle.std.specs.List.{position_or_len}
use Rattle.reo_net_base.specs.declared.joint.End.{End}
use Rattle.reo_net_base.specs.declared.joint.Joint.{Joint}
use Rattle.reo_net_base.specs.Net.{end_of, is_at}

-- The number of the node of an end: that of the first joint at it, where each joint has its own.
abbrev pub home_of : List Joint → List ℕ → End → ℕ
home_of joints homes e = slice_index homes (position_or_len (is_at e) joints)

-- These are the nodes of the end of this number of each of so many primitives.
pub record AreHomes (joints : List Joint) (homes : List ℕ) (count number : ℕ) (found : List ℕ)
    : Type 0 where
  pub one_each : length found ≡ count
  pub home : (i : ℕ) → i < count → slice_index found i ≡ home_of joints homes (end_of i number)
