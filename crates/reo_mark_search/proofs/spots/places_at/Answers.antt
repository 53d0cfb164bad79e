use Rattle.std.proofs.Common.{◌≡◌, ◌∙◌, ◌<◌, ℕ, List, [], length, slice_index_or, sym, subst, arith}
use Rattle.std.proofs.lemmas.List.{length-map, get_or_default}
use Rattle.reo_net_base.specs.declared.form.Form.{Form}
use Rattle.reo_net_base.specs.declared.form.Form.TheVariants.{Single, Double, Merging, Replicating}
use Rattle.reo_net_base.specs.Forms.{HasForm}
use Rattle.reo_net_base.specs.Net.{Net, net_of, behaviour_at}
use Rattle.reo_mark_search.specs.Spots.{AreEndsOf}
use Rattle.reo_mark_search.proofs.Placed.{placed_at, room}
use Rattle.reo_mark_search.proofs.spots.places_at.Goals as goal

pub part_of-requires : goal.part_of-requires
part_of-requires g c =
    let net : Net = net_of g.P.Primitive.behaviour c.args.circuit.now in
    let i : ℕ = c.args.owner.primitive in
    let count : length net.primitives ≡ length c.args.circuit.now.primitives = length-map c.args.circuit.now.primitives g.P.Primitive.behaviour in
    let i_in : i < length net.primitives = omega (arith, count, c.requires.primitive) in
    let all : List ℕ = c.as_slice-all.result.now in
    let all_is : all ≡ slice_index_or c.args.spots.now i [] = c.as_slice-all.ensures ∙ c.at.ensures ∙ get_or_default c.args.spots.now i c.at.result.now [] (omega (arith, i_in, c.requires.spots.one_list)) in
    let form : Form = Single c.in-Single.field-0 in
    let has : HasForm form (behaviour_at net.primitives i) c.args.owner.side = subst (λ (f : Form). HasForm f (behaviour_at net.primitives i) c.args.owner.side) c.in-Single.is c.requires.form in
    let below = room net c.known.ensures.wired c.args.spots.now c.requires.spots i c.args.owner.side i_in form has all all_is 0 (omega arith) in
    omega (arith, below)

pub returns-in-Single : goal.returns-in-Single
returns-in-Single g c =
    let net : Net = net_of g.P.Primitive.behaviour c.args.circuit.now in
    let i : ℕ = c.args.owner.primitive in
    let count : length net.primitives ≡ length c.args.circuit.now.primitives = length-map c.args.circuit.now.primitives g.P.Primitive.behaviour in
    let i_in : i < length net.primitives = omega (arith, count, c.requires.primitive) in
    let all : List ℕ = c.as_slice-all.result.now in
    let all_is : all ≡ slice_index_or c.args.spots.now i [] = c.as_slice-all.ensures ∙ c.at.ensures ∙ get_or_default c.args.spots.now i c.at.result.now [] (omega (arith, i_in, c.requires.spots.one_list)) in
    let form : Form = Single c.in-Single.field-0 in
    let has : HasForm form (behaviour_at net.primitives i) c.args.owner.side = subst (λ (f : Form). HasForm f (behaviour_at net.primitives i) c.args.owner.side) c.in-Single.is c.requires.form in
    subst (λ (f : Form). AreEndsOf net c.args.spots.now i c.args.owner.side f c.part_of.result.now) (sym c.in-Single.is)
    (placed_at net c.known.ensures.wired c.args.spots.now c.requires.spots i c.args.owner.side i_in form has all all_is c.part_of.result.now c.args.owner.side (λ o lt. omega (arith, lt)) c.part_of.ensures.count c.part_of.ensures.each)

pub part_of-requires-in-Double : goal.part_of-requires-in-Double
part_of-requires-in-Double g c =
    let net : Net = net_of g.P.Primitive.behaviour c.args.circuit.now in
    let i : ℕ = c.args.owner.primitive in
    let count : length net.primitives ≡ length c.args.circuit.now.primitives = length-map c.args.circuit.now.primitives g.P.Primitive.behaviour in
    let i_in : i < length net.primitives = omega (arith, count, c.requires.primitive) in
    let all : List ℕ = c.as_slice-all.result.now in
    let all_is : all ≡ slice_index_or c.args.spots.now i [] = c.as_slice-all.ensures ∙ c.at.ensures ∙ get_or_default c.args.spots.now i c.at.result.now [] (omega (arith, i_in, c.requires.spots.one_list)) in
    let form : Form = Double c.in-Double.field-0 in
    let has : HasForm form (behaviour_at net.primitives i) c.args.owner.side = subst (λ (f : Form). HasForm f (behaviour_at net.primitives i) c.args.owner.side) c.in-Double.is c.requires.form in
    let below = room net c.known.ensures.wired c.args.spots.now c.requires.spots i c.args.owner.side i_in form has all all_is 1 (omega arith) in
    omega (arith, below)

pub returns-in-Double : goal.returns-in-Double
returns-in-Double g c =
    let net : Net = net_of g.P.Primitive.behaviour c.args.circuit.now in
    let i : ℕ = c.args.owner.primitive in
    let count : length net.primitives ≡ length c.args.circuit.now.primitives = length-map c.args.circuit.now.primitives g.P.Primitive.behaviour in
    let i_in : i < length net.primitives = omega (arith, count, c.requires.primitive) in
    let all : List ℕ = c.as_slice-all.result.now in
    let all_is : all ≡ slice_index_or c.args.spots.now i [] = c.as_slice-all.ensures ∙ c.at.ensures ∙ get_or_default c.args.spots.now i c.at.result.now [] (omega (arith, i_in, c.requires.spots.one_list)) in
    let form : Form = Double c.in-Double.field-0 in
    let has : HasForm form (behaviour_at net.primitives i) c.args.owner.side = subst (λ (f : Form). HasForm f (behaviour_at net.primitives i) c.args.owner.side) c.in-Double.is c.requires.form in
    subst (λ (f : Form). AreEndsOf net c.args.spots.now i c.args.owner.side f c.part_of-in-Double.result.now) (sym c.in-Double.is)
    (placed_at net c.known.ensures.wired c.args.spots.now c.requires.spots i c.args.owner.side i_in form has all all_is c.part_of-in-Double.result.now 0 (λ o lt. omega (arith, lt)) c.part_of-in-Double.ensures.count c.part_of-in-Double.ensures.each)

pub part_of-requires-in-Merging : goal.part_of-requires-in-Merging
part_of-requires-in-Merging g c =
    let net : Net = net_of g.P.Primitive.behaviour c.args.circuit.now in
    let i : ℕ = c.args.owner.primitive in
    let count : length net.primitives ≡ length c.args.circuit.now.primitives = length-map c.args.circuit.now.primitives g.P.Primitive.behaviour in
    let i_in : i < length net.primitives = omega (arith, count, c.requires.primitive) in
    let all : List ℕ = c.as_slice-all.result.now in
    let all_is : all ≡ slice_index_or c.args.spots.now i [] = c.as_slice-all.ensures ∙ c.at.ensures ∙ get_or_default c.args.spots.now i c.at.result.now [] (omega (arith, i_in, c.requires.spots.one_list)) in
    let form : Form = Merging c.in-Merging.branches in
    let has : HasForm form (behaviour_at net.primitives i) c.args.owner.side = subst (λ (f : Form). HasForm f (behaviour_at net.primitives i) c.args.owner.side) c.in-Merging.is c.requires.form in
    let below = room net c.known.ensures.wired c.args.spots.now c.requires.spots i c.args.owner.side i_in form has all all_is c.in-Merging.branches.count (omega arith) in
    omega (arith, below)

pub returns-in-Merging : goal.returns-in-Merging
returns-in-Merging g c =
    let net : Net = net_of g.P.Primitive.behaviour c.args.circuit.now in
    let i : ℕ = c.args.owner.primitive in
    let count : length net.primitives ≡ length c.args.circuit.now.primitives = length-map c.args.circuit.now.primitives g.P.Primitive.behaviour in
    let i_in : i < length net.primitives = omega (arith, count, c.requires.primitive) in
    let all : List ℕ = c.as_slice-all.result.now in
    let all_is : all ≡ slice_index_or c.args.spots.now i [] = c.as_slice-all.ensures ∙ c.at.ensures ∙ get_or_default c.args.spots.now i c.at.result.now [] (omega (arith, i_in, c.requires.spots.one_list)) in
    let form : Form = Merging c.in-Merging.branches in
    let has : HasForm form (behaviour_at net.primitives i) c.args.owner.side = subst (λ (f : Form). HasForm f (behaviour_at net.primitives i) c.args.owner.side) c.in-Merging.is c.requires.form in
    subst (λ (f : Form). AreEndsOf net c.args.spots.now i c.args.owner.side f c.part_of-in-Merging.result.now) (sym c.in-Merging.is)
    (placed_at net c.known.ensures.wired c.args.spots.now c.requires.spots i c.args.owner.side i_in form has all all_is c.part_of-in-Merging.result.now 0 (λ o lt. omega (arith, lt)) c.part_of-in-Merging.ensures.count c.part_of-in-Merging.ensures.each)

pub part_of-requires-in-Replicating : goal.part_of-requires-in-Replicating
part_of-requires-in-Replicating g c =
    let net : Net = net_of g.P.Primitive.behaviour c.args.circuit.now in
    let i : ℕ = c.args.owner.primitive in
    let count : length net.primitives ≡ length c.args.circuit.now.primitives = length-map c.args.circuit.now.primitives g.P.Primitive.behaviour in
    let i_in : i < length net.primitives = omega (arith, count, c.requires.primitive) in
    let all : List ℕ = c.as_slice-all.result.now in
    let all_is : all ≡ slice_index_or c.args.spots.now i [] = c.as_slice-all.ensures ∙ c.at.ensures ∙ get_or_default c.args.spots.now i c.at.result.now [] (omega (arith, i_in, c.requires.spots.one_list)) in
    let form : Form = Replicating c.in-Replicating.branches in
    let has : HasForm form (behaviour_at net.primitives i) c.args.owner.side = subst (λ (f : Form). HasForm f (behaviour_at net.primitives i) c.args.owner.side) c.in-Replicating.is c.requires.form in
    let below = room net c.known.ensures.wired c.args.spots.now c.requires.spots i c.args.owner.side i_in form has all all_is c.in-Replicating.branches.count (omega arith) in
    omega (arith, below)

pub returns-in-Replicating : goal.returns-in-Replicating
returns-in-Replicating g c =
    let net : Net = net_of g.P.Primitive.behaviour c.args.circuit.now in
    let i : ℕ = c.args.owner.primitive in
    let count : length net.primitives ≡ length c.args.circuit.now.primitives = length-map c.args.circuit.now.primitives g.P.Primitive.behaviour in
    let i_in : i < length net.primitives = omega (arith, count, c.requires.primitive) in
    let all : List ℕ = c.as_slice-all.result.now in
    let all_is : all ≡ slice_index_or c.args.spots.now i [] = c.as_slice-all.ensures ∙ c.at.ensures ∙ get_or_default c.args.spots.now i c.at.result.now [] (omega (arith, i_in, c.requires.spots.one_list)) in
    let form : Form = Replicating c.in-Replicating.branches in
    let has : HasForm form (behaviour_at net.primitives i) c.args.owner.side = subst (λ (f : Form). HasForm f (behaviour_at net.primitives i) c.args.owner.side) c.in-Replicating.is c.requires.form in
    subst (λ (f : Form). AreEndsOf net c.args.spots.now i c.args.owner.side f c.part_of-in-Replicating.result.now) (sym c.in-Replicating.is)
    (placed_at net c.known.ensures.wired c.args.spots.now c.requires.spots i c.args.owner.side i_in form has all all_is c.part_of-in-Replicating.result.now 0 (λ o lt. omega (arith, lt)) c.part_of-in-Replicating.ensures.count c.part_of-in-Replicating.ensures.each)
