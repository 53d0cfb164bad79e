use Rattle.std.proofs.Common.{take}
use Rattle.std.specs.List.{flat_map}
use Rattle.reo_net_base.specs.Net.{net_of, end_of}
use Rattle.reo_refute_base.specs.Items.{given_on}
use Rattle.reo_refute_parts.specs.lists.Noted.{IsNoted}
use Rattle.reo_refute_parts.proofs.lists.rows.note_passed.Given as goal

-- What is given for the items so far is noted.
abbrev pub invariant-loop-index : goal.invariant-loop-index
invariant-loop-index g l =
    IsNoted l.old l.initial.new (flat_map (given_on (net_of g.P.Primitive.behaviour l.giving.circuit.now) l.giving.row l.giving.giver (end_of l.giving.giver.primitive l.from)) (take l.index l.taken)) l.new
