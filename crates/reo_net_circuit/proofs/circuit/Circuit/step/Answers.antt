-- The shape stays, so what holds of it stays.
use Rattle.std.proofs.Common.{◌≡◌, ◌∙◌, refl, ap, List, Option, length, map}
use Rattle.reo_values.specs.declared.value.Value.{Value}
use Rattle.reo_net_base.specs.declared.colouring.Chosen.{Chosen}
use Rattle.reo_net_base.specs.Behaviour.{Behaviour}
use Rattle.reo_net_base.specs.Net.{Net}
use Rattle.reo_net_base.specs.Step.{settled_list, all_chosen, all_taken}
use Rattle.reo_net_circuit.proofs.ReshapeLemmas.{reshaped, whole_slice}
use Rattle.reo_net_base.specs.Shapes.{SameShapes}
use Rattle.reo_net_circuit.proofs.ShapeLemmas.{circuit_same}
use Rattle.reo_net_circuit.proofs.circuit.Circuit.step.Goals as goal

pub invariant_of-self : goal.invariant_of-self
invariant_of-self g c =
    let items = c.self.inside.primitives.items in
    let net : Net = record { primitives = map g.P.Primitive.behaviour c.as_mut_slice.result.now; joints = c.as_slice.result.now } in
    let chosen : List Chosen = all_chosen net c.as_slice-4.result.now in
    let taken : List (Option Value) = all_taken net c.into_vec.result.items in
    let news = settled_list g.P.Primitive.settled items chosen taken in
    let bs : List Behaviour = map g.P.Primitive.behaviour items in
    let ds : List Behaviour = map g.P.Primitive.behaviour news in
    let new_is : c.step_all.new.primitives ≡ news = c.step_all.ensures ∙ ap (λ xs. settled_list g.P.Primitive.settled xs chosen taken) c.as_mut_slice.ensures.value in
    let whole = whole_slice c.self.inside.primitives.len c.step_all.new.primitives items c.self.inside.primitives.ok.0 (c.step_all.auto.primitives ∙ ap length c.as_mut_slice.ensures.value) in
    let r : SameShapes bs ds = reshaped g.P.Primitive.behaviour g.P.Primitive.settled g.met.P.Primitive.settled_shape items chosen taken in
    rw (whole, new_is) (circuit_same g.P.Primitive.behaviour g.met.P.Primitive.lawful items news c.self.inside.ports c.self.inside.joints c.self.inside.tables r c.self.invariant)

pub returns-clause-shape : goal.returns-clause-shape
returns-clause-shape g c =
    let items = c.self.inside.primitives.items in
    let net : Net = record { primitives = map g.P.Primitive.behaviour c.as_mut_slice.result.now; joints = c.as_slice.result.now } in
    let chosen : List Chosen = all_chosen net c.as_slice-4.result.now in
    let taken : List (Option Value) = all_taken net c.into_vec.result.items in
    let news = settled_list g.P.Primitive.settled items chosen taken in
    let bs : List Behaviour = map g.P.Primitive.behaviour items in
    let ds : List Behaviour = map g.P.Primitive.behaviour news in
    let new_is : c.step_all.new.primitives ≡ news = c.step_all.ensures ∙ ap (λ xs. settled_list g.P.Primitive.settled xs chosen taken) c.as_mut_slice.ensures.value in
    let whole = whole_slice c.self.inside.primitives.len c.step_all.new.primitives items c.self.inside.primitives.ok.0 (c.step_all.auto.primitives ∙ ap length c.as_mut_slice.ensures.value) in
    let r : SameShapes bs ds = reshaped g.P.Primitive.behaviour g.P.Primitive.settled g.met.P.Primitive.settled_shape items chosen taken in
    rw (whole, new_is, ← c.self.view_is) record { joints = refl; ports = refl; primitives = r }
