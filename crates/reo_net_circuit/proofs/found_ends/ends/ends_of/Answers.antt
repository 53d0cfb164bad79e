use Rattle.reo_net_base.specs.Net.{Net, net_of}
use Rattle.reo_net_circuit.proofs.found_ends.NoteLemmas.{all_noted}
use Rattle.reo_net_circuit.proofs.found_ends.ends.ends_of.Goals as goal

pub returns : goal.returns
returns g c =
    let net : Net = net_of g.P.Primitive.behaviour c.args.circuit.now in
    rw c.from_vec.ensures (all_noted net c.known.ensures.wired c.note_all.new.table.items c.note_all.ensures.places c.note_all.ensures.noted)
