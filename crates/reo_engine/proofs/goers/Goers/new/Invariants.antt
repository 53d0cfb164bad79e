use Rattle.std.proofs.Common.{◌≡◌, ◌<◌, ℕ, false, length, map, get_or}
use Rattle.reo_engine.specs.Goers.{is_keeper}
use Rattle.reo_engine.proofs.goers.Goers.new.Given as goal

-- The primitives so far are told.
abbrev pub invariant-loop-index : goal.invariant-loop-index
invariant-loop-index g l = record {
  one_each : length l.keepers ≡ length l.circuit.primitives;
  told : (i : ℕ) → i < l.index → get_or l.keepers i false ≡ get_or (map (is_keeper g.P.Primitive.behaviour g.P.Primitive.lasting) l.circuit.primitives) i false;
}
