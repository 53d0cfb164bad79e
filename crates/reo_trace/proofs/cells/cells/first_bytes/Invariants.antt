use Rattle.std.proofs.Common.{◌≡◌, replicate, take}
use Rattle.reo_net_base.specs.Net.{net_of}
use Rattle.reo_trace.specs.cells.Texts.{befores, kept_bytes}
use Rattle.reo_trace.proofs.cells.cells.first_bytes.Given as goal

-- The bytes of the first sides.
abbrev pub invariant-loop-side : goal.invariant-loop-side
invariant-loop-side g l = l.text ≡ kept_bytes (take l.side (befores (net_of g.P.Primitive.behaviour l.circuit))) (replicate l.side 0)
