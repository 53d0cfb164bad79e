-- The shape stays, so what holds of it stays.
use Rattle.std.proofs.Common.{◌≡◌, ◌∙◌, refl, ap, List, length, map, None, arith}
use Rattle.std.proofs.lemmas.List.{length-map}
use Rattle.reo_net_base.specs.PortState.{IsPortWith}
use Rattle.reo_net_base.specs.Shapes.{SameShapes}
use Rattle.reo_net_base.specs.Step.{change_at}
use Rattle.reo_net_circuit.specs.Offers.{OnlyPort}
use Rattle.reo_net_circuit.proofs.ReshapeLemmas.{whole_slice}
use Rattle.reo_net_circuit.proofs.PortLemmas.{changed, port_state_here, port_state_other, only_ways}
use Rattle.reo_net_circuit.proofs.ShapeLemmas.{circuit_same}
use Rattle.reo_net_circuit.proofs.circuit.Circuit.withdraw.Goals as goal

pub invariant_of-self : goal.invariant_of-self
invariant_of-self g c =
    let items : List g.row.P.Denot = c.self.inside.primitives.items in
    let f : g.row.P.Denot → g.row.P.Denot = g.P.Ported.withdrawn in
    let news : List g.row.P.Denot = change_at f items c.args.port in
    let new_is : c.withdraw_at.new.primitives ≡ news = c.withdraw_at.ensures ∙ ap (λ xs. change_at f xs c.args.port) c.as_mut_slice.ensures.value in
    let whole = whole_slice c.self.inside.primitives.len c.withdraw_at.new.primitives items c.self.inside.primitives.ok.0 (c.withdraw_at.auto.primitives ∙ ap length c.as_mut_slice.ensures.value) in
    let r : SameShapes (map g.P.Primitive.behaviour items) (map g.P.Primitive.behaviour news) = changed g.P.Primitive.behaviour f g.met.P.Ported.withdrawn_shape items c.args.port in
    rw (whole, new_is) (circuit_same g.P.Primitive.behaviour g.met.P.Primitive.lawful items news c.self.inside.ports c.self.inside.joints c.self.inside.tables r c.self.invariant)

pub returns-clause-shape : goal.returns-clause-shape
returns-clause-shape g c =
    let items : List g.row.P.Denot = c.self.inside.primitives.items in
    let f : g.row.P.Denot → g.row.P.Denot = g.P.Ported.withdrawn in
    let news : List g.row.P.Denot = change_at f items c.args.port in
    let new_is : c.withdraw_at.new.primitives ≡ news = c.withdraw_at.ensures ∙ ap (λ xs. change_at f xs c.args.port) c.as_mut_slice.ensures.value in
    let whole = whole_slice c.self.inside.primitives.len c.withdraw_at.new.primitives items c.self.inside.primitives.ok.0 (c.withdraw_at.auto.primitives ∙ ap length c.as_mut_slice.ensures.value) in
    let r : SameShapes (map g.P.Primitive.behaviour items) (map g.P.Primitive.behaviour news) = changed g.P.Primitive.behaviour f g.met.P.Ported.withdrawn_shape items c.args.port in
    let within = c.self.invariant.are_ports.within in
    let port = rw (← c.self.view_is) at c.requires.port in
    let only : OnlyPort (map g.P.Ported.port_state items) (map g.P.Ported.port_state news) c.args.port None = record {
      here = port_state_here g.P.Ported.port_state f (λ a b. IsPortWith a b None) g.met.P.Ported.withdrawn_port items c.args.port (omega (arith, within, port, length-map items g.P.Primitive.behaviour));
      others = λ i ne. port_state_other g.P.Ported.port_state f items c.args.port i ne;
    } in
    rw (whole, new_is, ← c.self.view_is) record {
      net = record { joints = refl; ports = refl; primitives = r };
      ways = only_ways (map g.P.Ported.port_state items) (map g.P.Ported.port_state news) c.args.port None only;
    }

pub returns-clause-offers : goal.returns-clause-offers
returns-clause-offers g c =
    let items : List g.row.P.Denot = c.self.inside.primitives.items in
    let f : g.row.P.Denot → g.row.P.Denot = g.P.Ported.withdrawn in
    let news : List g.row.P.Denot = change_at f items c.args.port in
    let new_is : c.withdraw_at.new.primitives ≡ news = c.withdraw_at.ensures ∙ ap (λ xs. change_at f xs c.args.port) c.as_mut_slice.ensures.value in
    let whole = whole_slice c.self.inside.primitives.len c.withdraw_at.new.primitives items c.self.inside.primitives.ok.0 (c.withdraw_at.auto.primitives ∙ ap length c.as_mut_slice.ensures.value) in
    let within = c.self.invariant.are_ports.within in
    let port = rw (← c.self.view_is) at c.requires.port in
    let only : OnlyPort (map g.P.Ported.port_state items) (map g.P.Ported.port_state news) c.args.port None = record {
      here = port_state_here g.P.Ported.port_state f (λ a b. IsPortWith a b None) g.met.P.Ported.withdrawn_port items c.args.port (omega (arith, within, port, length-map items g.P.Primitive.behaviour));
      others = λ i ne. port_state_other g.P.Ported.port_state f items c.args.port i ne;
    } in
    rw (whole, new_is, ← c.self.view_is) only
