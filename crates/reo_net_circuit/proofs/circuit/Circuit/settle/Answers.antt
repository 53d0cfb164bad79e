-- The shape stays, so what holds of it stays.
use Rattle.std.proofs.Common.{◌≡◌, ◌∙◌, refl, ap, List, length, map}
use Rattle.reo_net_base.specs.Shapes.{SameShapes}
use Rattle.reo_net_base.specs.Step.{change_at}
use Rattle.reo_net_circuit.proofs.ReshapeLemmas.{whole_slice}
use Rattle.reo_net_circuit.proofs.PortLemmas.{changed}
use Rattle.reo_net_circuit.proofs.ShapeLemmas.{circuit_same}
use Rattle.reo_net_circuit.proofs.circuit.Circuit.settle.Goals as goal

pub invariant_of-self : goal.invariant_of-self
invariant_of-self g c =
    let items : List g.row.P.Denot = c.self.inside.primitives.items in
    let f : g.row.P.Denot → g.row.P.Denot = (λ q. g.P.Primitive.settled q c.args.rows c.args.taken) in
    let news : List g.row.P.Denot = change_at f items c.args.index in
    let new_is : c.settle_at.new.primitives ≡ news = c.settle_at.ensures ∙ ap (λ xs. change_at f xs c.args.index) c.as_mut_slice.ensures.value in
    let whole = whole_slice c.self.inside.primitives.len c.settle_at.new.primitives items c.self.inside.primitives.ok.0 (c.settle_at.auto.primitives ∙ ap length c.as_mut_slice.ensures.value) in
    let r : SameShapes (map g.P.Primitive.behaviour items) (map g.P.Primitive.behaviour news) = changed g.P.Primitive.behaviour f (λ q. g.met.P.Primitive.settled_shape q c.args.rows c.args.taken) items c.args.index in
    rw (whole, new_is) (circuit_same g.P.Primitive.behaviour g.met.P.Primitive.lawful items news c.self.inside.ports c.self.inside.joints c.self.inside.tables r c.self.invariant)

pub returns-clause-shape : goal.returns-clause-shape
returns-clause-shape g c =
    let items : List g.row.P.Denot = c.self.inside.primitives.items in
    let f : g.row.P.Denot → g.row.P.Denot = (λ q. g.P.Primitive.settled q c.args.rows c.args.taken) in
    let news : List g.row.P.Denot = change_at f items c.args.index in
    let new_is : c.settle_at.new.primitives ≡ news = c.settle_at.ensures ∙ ap (λ xs. change_at f xs c.args.index) c.as_mut_slice.ensures.value in
    let whole = whole_slice c.self.inside.primitives.len c.settle_at.new.primitives items c.self.inside.primitives.ok.0 (c.settle_at.auto.primitives ∙ ap length c.as_mut_slice.ensures.value) in
    let r : SameShapes (map g.P.Primitive.behaviour items) (map g.P.Primitive.behaviour news) = changed g.P.Primitive.behaviour f (λ q. g.met.P.Primitive.settled_shape q c.args.rows c.args.taken) items c.args.index in
    rw (whole, new_is, ← c.self.view_is) record { joints = refl; ports = refl; primitives = r }
