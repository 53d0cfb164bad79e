use Rattle.std.proofs.Common.{◌≡◌, ◌∙◌, false, List, Option, None, get_or, ap, sym, arith}
use Rattle.reo_values.specs.declared.value.Value.{Value}
use Rattle.reo_net_base.specs.declared.colouring.Chosen.{Chosen}
use Rattle.reo_net_base.specs.Behaviour.{Behaviour}
use Rattle.reo_net_base.specs.Net.{Net, Wiring, behaviour_at, net_of}
use Rattle.reo_net_base.specs.Step.{change_at, chosen_for, taken_for}
use Rattle.reo_flows.proofs.stepping.MouthLemmas.{no_mouth}
use Rattle.reo_flows.proofs.stepping.StepLemmas.{change_none}
use Rattle.reo_flows.proofs.stepping.marked.step_one.Goals as goal

pub returns-else-keeps-clause-circuit : goal.returns-else-keeps-clause-circuit
returns-else-keeps-clause-circuit g c =
    let w : Wiring g.row.P.Denot = c.args.circuit.now in
    let net : Net = net_of g.P.Primitive.behaviour w in
    let p : g.row.P.Denot = c.primitive.result.now in
    let chosen : Chosen = chosen_for net c.args.rows.now c.args.index in
    let taken : Option Value = taken_for net c.args.items.now c.args.index in
    let f : g.row.P.Denot → g.row.P.Denot = λ q. g.P.Primitive.settled q chosen taken in
    let keeps : (g.P.Primitive.lasting p).keeps ≡ false = grind (arith, c.keeps.ensures, c.if-keeps.false) in
    let same : get_or w.primitives c.args.index p ≡ p = sym c.primitive.ensures.value in
    ap (λ (ps : List g.row.P.Denot). record w { primitives = ps })
    (sym (change_none f w.primitives c.args.index p (ap f same ∙ g.met.P.Primitive.keeps_nothing p chosen taken keeps ∙ sym same)))

pub returns-else-sides-eq2-clause-circuit : goal.returns-else-sides-eq2-clause-circuit
returns-else-sides-eq2-clause-circuit g c =
    let w : Wiring g.row.P.Denot = c.args.circuit.now in
    let net : Net = net_of g.P.Primitive.behaviour w in
    let one : (behaviour_at net.primitives c.args.index).sides ≡ 2 → ⊥ =
    λ two. c.if-sides-eq2.false (c.sides.ensures ∙ ap (λ (b : Behaviour). b.sides) c.primitive-then-keeps.ensures.behaviour ∙ two) in
    let none : None ≡ taken_for net c.args.items.now c.args.index = sym (no_mouth net c.args.index c.args.items.now c.requires.items one) in
    c.settle-else-sides-eq2.ensures.circuit
    ∙ (λ t. record w { primitives = change_at (λ q. g.P.Primitive.settled q (c.chosen_for-chosen.ensures t) (none t)) w.primitives c.args.index })
