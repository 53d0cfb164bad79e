-- A node's merger and replicator, and its joints.
use Rattle.std.specs.Prelude.{ℕ, ◌+◌, Bool, cond, List, [], ◌∷◌, ◌++◌, length, map, nat_le}
use Rattle.std.specs.List.{range_with_len}
use Rattle.reo_net_base.specs.declared.joint.End.{End}
use Rattle.reo_net_base.specs.declared.joint.Joint.{Joint}
use Rattle.reo_net_base.specs.Net.{end_of}

-- Two ends or more.
abbrev pub is_many : List End → Bool
is_many ends = nat_le 2 (length ends)

-- So many ends of one primitive, from this one on.
abbrev pub end_range : ℕ → ℕ → ℕ → List End
end_range i from count = map (λ e. end_of i e) (range_with_len from count)

-- Each giver with the taker of the same place.
abbrev pub pairs : List End → List End → List Joint
pairs [] takers = []
pairs (g ∷ givers) [] = []
pairs (g ∷ givers) (t ∷ takers) = record { giver = g; taker = t } ∷ pairs givers takers

-- What items come from behind a merger, and what they go to before a replicator, by the number of each.
abbrev pub givers : List End → ℕ → List End
givers ins merger = cond (is_many ins) (end_of merger (length ins) ∷ []) ins

abbrev pub takers : List End → ℕ → List End
takers outs replicator = cond (is_many outs) (end_of replicator 0 ∷ []) outs

-- The joints of a node: into its merger, from there to its replicator or the one taker, and out of the replicator.
abbrev pub joints_between : List End → List End → ℕ → ℕ → List Joint
joints_between ins outs merger replicator =
    cond (is_many ins) (pairs ins (end_range merger 0 (length ins))) []
    ++ (pairs (givers ins merger) (takers outs replicator)
    ++ cond (is_many outs) (pairs (end_range replicator 1 (length outs)) outs) [])

-- How many primitives of its own a node has, with these ends.
abbrev pub many : List End → ℕ
many ends = cond (is_many ends) 1 0

-- The joints of a node whose own primitives begin at a number.
abbrev pub joints_of : List End → List End → ℕ → List Joint
joints_of ins outs at = joints_between ins outs at (at + many ins)
