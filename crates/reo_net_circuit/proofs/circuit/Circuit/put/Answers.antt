-- The shape stays, so what holds of it stays.
use Rattle.std.proofs.Common.{◌≡◌, ◌∙◌, refl, ap, List, length, map}
use Rattle.reo_net_base.specs.Shapes.{SameShapes}
use Rattle.reo_net_base.specs.Step.{change_at}
use Rattle.reo_net_circuit.specs.Offers.{OnlyState}
use Rattle.reo_net_circuit.proofs.ReshapeLemmas.{whole_slice}
use Rattle.reo_net_circuit.proofs.PortLemmas.{replaced, put_here, port_state_other}
use Rattle.reo_net_circuit.proofs.ShapeLemmas.{circuit_same}
use Rattle.reo_net_circuit.proofs.circuit.Circuit.put.Goals as goal

pub invariant_of-self : goal.invariant_of-self
invariant_of-self g c =
    let items : List g.row.P.Denot = c.self.inside.primitives.items in
    let f : g.row.P.Denot → g.row.P.Denot = (λ _. c.args.primitive) in
    let news : List g.row.P.Denot = change_at f items c.args.index in
    let new_is : c.put_at.new.primitives ≡ news = c.put_at.ensures.list ∙ ap (λ xs. change_at f xs c.args.index) c.as_mut_slice.ensures.value in
    let whole = whole_slice c.self.inside.primitives.len c.put_at.new.primitives items c.self.inside.primitives.ok.0 (c.put_at.auto.primitives ∙ ap length c.as_mut_slice.ensures.value) in
    let shape = rw (← c.self.view_is) at c.requires.shape in
    let r : SameShapes (map g.P.Primitive.behaviour items) (map g.P.Primitive.behaviour news) = replaced g.P.Primitive.behaviour c.args.primitive items c.args.index shape in
    rw (whole, new_is) (circuit_same g.P.Primitive.behaviour g.met.P.Primitive.lawful items news c.self.inside.ports c.self.inside.joints c.self.inside.tables r c.self.invariant)

pub returns-clause-shape : goal.returns-clause-shape
returns-clause-shape g c =
    let items : List g.row.P.Denot = c.self.inside.primitives.items in
    let f : g.row.P.Denot → g.row.P.Denot = (λ _. c.args.primitive) in
    let news : List g.row.P.Denot = change_at f items c.args.index in
    let new_is : c.put_at.new.primitives ≡ news = c.put_at.ensures.list ∙ ap (λ xs. change_at f xs c.args.index) c.as_mut_slice.ensures.value in
    let whole = whole_slice c.self.inside.primitives.len c.put_at.new.primitives items c.self.inside.primitives.ok.0 (c.put_at.auto.primitives ∙ ap length c.as_mut_slice.ensures.value) in
    let shape = rw (← c.self.view_is) at c.requires.shape in
    let r : SameShapes (map g.P.Primitive.behaviour items) (map g.P.Primitive.behaviour news) = replaced g.P.Primitive.behaviour c.args.primitive items c.args.index shape in
    rw (whole, new_is, ← c.self.view_is) record { joints = refl; ports = refl; primitives = r }

pub returns-clause-ports : goal.returns-clause-ports
returns-clause-ports g c =
    let items : List g.row.P.Denot = c.self.inside.primitives.items in
    let f : g.row.P.Denot → g.row.P.Denot = (λ _. c.args.primitive) in
    let news : List g.row.P.Denot = change_at f items c.args.index in
    let new_is : c.put_at.new.primitives ≡ news = c.put_at.ensures.list ∙ ap (λ xs. change_at f xs c.args.index) c.as_mut_slice.ensures.value in
    let whole = whole_slice c.self.inside.primitives.len c.put_at.new.primitives items c.self.inside.primitives.ok.0 (c.put_at.auto.primitives ∙ ap length c.as_mut_slice.ensures.value) in
    let index = rw (← c.self.view_is) at c.requires.index in
    let only : OnlyState (map g.P.Ported.port_state items) (map g.P.Ported.port_state news) c.args.index (g.P.Ported.port_state c.args.primitive) = record {
      here = put_here g.P.Primitive.behaviour c.args.primitive g.P.Ported.port_state items c.args.index index;
      others = λ i ne. port_state_other g.P.Ported.port_state f items c.args.index i ne;
    } in
    rw (whole, new_is, ← c.self.view_is) only
