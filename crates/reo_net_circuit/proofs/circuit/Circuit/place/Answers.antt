-- The shape stays, so what holds of it stays.
use Rattle.std.proofs.Common.{◌≡◌, ◌∙◌, refl, ap, List, length, map, Some, arith}
use Rattle.std.proofs.lemmas.List.{length-map}
use Rattle.reo_net_base.specs.PortState.{CanPlace, IsPortWith}
use Rattle.reo_net_base.specs.Shapes.{SameShapes}
use Rattle.reo_net_base.specs.Step.{change_at}
use Rattle.reo_net_circuit.specs.Offers.{OnlyPort}
use Rattle.reo_net_circuit.proofs.ReshapeLemmas.{whole_slice}
use Rattle.reo_net_circuit.proofs.PortLemmas.{changed, port_state_here, port_state_other, only_ways}
use Rattle.reo_net_circuit.proofs.ShapeLemmas.{circuit_same}
use Rattle.reo_net_circuit.proofs.circuit.Circuit.place.Goals as goal

pub invariant_of-self : goal.invariant_of-self
invariant_of-self g c =
    let items : List g.row.P.Denot = c.self.inside.primitives.items in
    let f : g.row.P.Denot → g.row.P.Denot = (λ q. g.P.Ported.placed q c.args.offer) in
    let news : List g.row.P.Denot = change_at f items c.args.port in
    let new_is : c.place_at.new.primitives ≡ news = c.place_at.ensures ∙ ap (λ xs. change_at f xs c.args.port) c.as_mut_slice.ensures.value in
    let whole = whole_slice c.self.inside.primitives.len c.place_at.new.primitives items c.self.inside.primitives.ok.0 (c.place_at.auto.primitives ∙ ap length c.as_mut_slice.ensures.value) in
    let r : SameShapes (map g.P.Primitive.behaviour items) (map g.P.Primitive.behaviour news) = changed g.P.Primitive.behaviour f (λ q. g.met.P.Ported.placed_shape q c.args.offer) items c.args.port in
    rw (whole, new_is) (circuit_same g.P.Primitive.behaviour g.met.P.Primitive.lawful items news c.self.inside.ports c.self.inside.joints c.self.inside.tables r c.self.invariant)

pub returns-clause-shape : goal.returns-clause-shape
returns-clause-shape g c =
    let items : List g.row.P.Denot = c.self.inside.primitives.items in
    let f : g.row.P.Denot → g.row.P.Denot = (λ q. g.P.Ported.placed q c.args.offer) in
    let news : List g.row.P.Denot = change_at f items c.args.port in
    let new_is : c.place_at.new.primitives ≡ news = c.place_at.ensures ∙ ap (λ xs. change_at f xs c.args.port) c.as_mut_slice.ensures.value in
    let whole = whole_slice c.self.inside.primitives.len c.place_at.new.primitives items c.self.inside.primitives.ok.0 (c.place_at.auto.primitives ∙ ap length c.as_mut_slice.ensures.value) in
    let r : SameShapes (map g.P.Primitive.behaviour items) (map g.P.Primitive.behaviour news) = changed g.P.Primitive.behaviour f (λ q. g.met.P.Ported.placed_shape q c.args.offer) items c.args.port in
    let within = c.self.invariant.are_ports.within in
    let port = rw (← c.self.view_is) at c.requires.port in
    let only : OnlyPort (map g.P.Ported.port_state items) (map g.P.Ported.port_state news) c.args.port (Some c.args.offer) = record {
      here = port_state_here g.P.Ported.port_state f (λ a b. CanPlace a c.args.offer → IsPortWith a b (Some c.args.offer)) (λ p can. g.met.P.Ported.placed_port p c.args.offer can) items c.args.port (omega (arith, within, port, length-map items g.P.Primitive.behaviour)) (rw (← c.self.view_is) at c.requires.offer);
      others = λ i ne. port_state_other g.P.Ported.port_state f items c.args.port i ne;
    } in
    rw (whole, new_is, ← c.self.view_is) record {
      net = record { joints = refl; ports = refl; primitives = r };
      ways = only_ways (map g.P.Ported.port_state items) (map g.P.Ported.port_state news) c.args.port (Some c.args.offer) only;
    }

pub returns-clause-offers : goal.returns-clause-offers
returns-clause-offers g c =
    let items : List g.row.P.Denot = c.self.inside.primitives.items in
    let f : g.row.P.Denot → g.row.P.Denot = (λ q. g.P.Ported.placed q c.args.offer) in
    let news : List g.row.P.Denot = change_at f items c.args.port in
    let new_is : c.place_at.new.primitives ≡ news = c.place_at.ensures ∙ ap (λ xs. change_at f xs c.args.port) c.as_mut_slice.ensures.value in
    let whole = whole_slice c.self.inside.primitives.len c.place_at.new.primitives items c.self.inside.primitives.ok.0 (c.place_at.auto.primitives ∙ ap length c.as_mut_slice.ensures.value) in
    let within = c.self.invariant.are_ports.within in
    let port = rw (← c.self.view_is) at c.requires.port in
    let only : OnlyPort (map g.P.Ported.port_state items) (map g.P.Ported.port_state news) c.args.port (Some c.args.offer) = record {
      here = port_state_here g.P.Ported.port_state f (λ a b. CanPlace a c.args.offer → IsPortWith a b (Some c.args.offer)) (λ p can. g.met.P.Ported.placed_port p c.args.offer can) items c.args.port (omega (arith, within, port, length-map items g.P.Primitive.behaviour)) (rw (← c.self.view_is) at c.requires.offer);
      others = λ i ne. port_state_other g.P.Ported.port_state f items c.args.port i ne;
    } in
    rw (whole, new_is, ← c.self.view_is) only
