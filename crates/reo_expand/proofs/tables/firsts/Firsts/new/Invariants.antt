use Rattle.std.proofs.Common.{true, false, take}
use Rattle.reo_expand.specs.tables.Knows.{AreFirst}
use Rattle.reo_expand.proofs.tables.firsts.Firsts.new.Given as goal

abbrev pub invariant-loop-place : goal.invariant-loop-place
invariant-loop-place l = record {
  numbered : AreFirst true (take l.place l.declarations) l.firsts.numbered;
  plain : AreFirst false (take l.place l.declarations) l.firsts.plain;
}
