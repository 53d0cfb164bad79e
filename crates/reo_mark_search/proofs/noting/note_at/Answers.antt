use Rattle.std.proofs.Common.{◌≡◌, ◌∙◌, ◌<◌, ℕ, length, sym, subst, arith}
use Rattle.std.proofs.lemmas.List.{length-map}
use Rattle.reo_net_base.specs.Behaviour.{Behaviour}
use Rattle.reo_net_base.specs.Forms.{HasForm}
use Rattle.reo_net_base.specs.Net.{Net, net_of, behaviour_at}
use Rattle.reo_net_laws.specs.state_laws.States.{LetsIn}
use Rattle.reo_mark_search.specs.Spots.{IsSeat}
use Rattle.reo_mark_search.proofs.Meeting.{open_next, reset_next}
use Rattle.reo_mark_search.proofs.noting.note_at.Goals as goal

pub places_at-requires-clause-form : goal.places_at-requires-clause-form
places_at-requires-clause-form g c =
    let net : Net = net_of g.P.Primitive.behaviour c.args.circuit.now in
    let is = c.primitive-primitive.ensures.behaviour in
    let lt : c.owner-owner.result.side < (g.P.Primitive.behaviour c.primitive-primitive.result.now).sides = subst (λ (b : Behaviour). c.owner-owner.result.side < b.sides) (sym is) c.owner-owner.ensures.side in
    subst (λ (b : Behaviour). HasForm c.in-Some.form b c.owner-owner.result.side) is
    (g.met.P.Primitive.has_form c.primitive-primitive.result.now c.owner-owner.result.side c.in-Some.form lt (sym c.form.ensures ∙ c.in-Some.is))

pub returns-else-not-is_usual-clause-noted : goal.returns-else-not-is_usual-clause-noted
returns-else-not-is_usual-clause-noted g c = λ done sides n at before.
    let net : Net = net_of g.P.Primitive.behaviour c.args.circuit.now in
    let i : ℕ = c.owner-owner.result.primitive in
    let side : ℕ = c.owner-owner.result.side in
    let is = c.primitive-primitive.ensures.behaviour in
    let lt : side < (g.P.Primitive.behaviour c.primitive-primitive.result.now).sides = subst (λ (b : Behaviour). side < b.sides) (sym is) c.owner-owner.ensures.side in
    let count : length net.primitives ≡ length c.args.circuit.now.primitives = length-map c.args.circuit.now.primitives g.P.Primitive.behaviour in
    let has : HasForm c.in-Some.form (behaviour_at net.primitives i) side = subst (λ (b : Behaviour). HasForm c.in-Some.form b side) is
    (g.met.P.Primitive.has_form c.primitive-primitive.result.now side c.in-Some.form lt (sym c.form.ensures ∙ c.in-Some.is)) in
    let seat : IsSeat net c.args.spots.now c.args.side c.in-Some.form c.places_at.result.now = record {
      primitive = i;
      side = side;
      primitive_in = omega (arith, count, c.owner-owner.ensures.primitive);
      side_in = c.owner-owner.ensures.side;
      number = c.owner-owner.ensures.place;
      form_is = has;
      usual = sym c.is_usual.ensures ∙ c.if-not-is_usual.false;
      ends = c.places_at.ensures;
    } in
    let lets : LetsIn (behaviour_at net.primitives i) side = subst (λ (b : Behaviour). LetsIn b side) is
    (λ row end item row_in is_end takes. g.met.P.Primitive.lets_all_in c.primitive-primitive.result.now side row end item lt row_in is_end takes (sym c.is_open.ensures ∙ c.if-not-is_open.false)) in
    open_next net c.args.spots.now sides n c.args.side at c.in-Some.form c.places_at.result.now seat c.args.forms.now (omega (arith, c.requires.forms, c.requires.side)) lets before

pub returns-else-not-is_usual-clause-reset : goal.returns-else-not-is_usual-clause-reset
returns-else-not-is_usual-clause-reset g c = λ done sides n at before.
    let net : Net = net_of g.P.Primitive.behaviour c.args.circuit.now in
    let i : ℕ = c.owner-owner.result.primitive in
    let side : ℕ = c.owner-owner.result.side in
    let is = c.primitive-primitive.ensures.behaviour in
    let lt : side < (g.P.Primitive.behaviour c.primitive-primitive.result.now).sides = subst (λ (b : Behaviour). side < b.sides) (sym is) c.owner-owner.ensures.side in
    let count : length net.primitives ≡ length c.args.circuit.now.primitives = length-map c.args.circuit.now.primitives g.P.Primitive.behaviour in
    let has : HasForm c.in-Some.form (behaviour_at net.primitives i) side = subst (λ (b : Behaviour). HasForm c.in-Some.form b side) is
    (g.met.P.Primitive.has_form c.primitive-primitive.result.now side c.in-Some.form lt (sym c.form.ensures ∙ c.in-Some.is)) in
    let seat : IsSeat net c.args.spots.now c.args.side c.in-Some.form c.places_at.result.now = record {
      primitive = i;
      side = side;
      primitive_in = omega (arith, count, c.owner-owner.ensures.primitive);
      side_in = c.owner-owner.ensures.side;
      number = c.owner-owner.ensures.place;
      form_is = has;
      usual = sym c.is_usual.ensures ∙ c.if-not-is_usual.false;
      ends = c.places_at.ensures;
    } in
    reset_next net c.args.spots.now sides n c.args.side at c.in-Some.form c.places_at.result.now seat c.known.ensures.wired c.requires.spots c.args.sets.now c.begin.new.self c.begin.ensures.stays c.begin.ensures.here before
