use Rattle.std.proofs.Common.{◌∙◌, append_assoc, refl, arith}
use Rattle.std.proofs.lemmas.List.FromFn.{map-range_with_len_more}
use Rattle.reo_net_circuit.specs.Layout.{side_owner_at}
use Rattle.reo_net_circuit.proofs.layout.add_owners.Goals as goal

pub loop-side-preserved : goal.loop-side-preserved
loop-side-preserved c =
    c.in_ok-push.ensures.ok
    ∙ rw (c.loop-side.invariant, map-range_with_len_more (side_owner_at c.args.primitive) 0 c.loop-side.side c.loop-side.side (omega arith), append_assoc) refl
