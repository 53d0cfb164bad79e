use Rattle.std.proofs.Common.{arith}
use Rattle.reo_net_base.specs.Net.{net_of}
use Rattle.reo_item_bounds.proofs.kept.Bounds.note.Goals as goal

pub forget-requires : goal.forget-requires
forget-requires g c = λ j is. let lt = c.requires.joints j is in omega (arith, lt, c.requires.kept.one_number)

pub note_all-requires-clause-kept : goal.note_all-requires-clause-kept
note_all-requires-clause-kept g c = c.forget.ensures.kept (net_of g.P.Primitive.behaviour c.args.circuit.now) c.requires.kept
