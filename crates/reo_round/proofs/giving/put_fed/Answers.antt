use Rattle.std.proofs.Common.{◌≡◌, ◌∙◌, ℕ, length, get_or, set, ap, sym, subst, arith}
use Rattle.std.specs.Prelude.{Option, Some, option_copied}
use Rattle.reo_values.specs.declared.value.Value.{Value}
use Rattle.reo_net_base.specs.declared.joint.Joint.{Joint}
use Rattle.reo_net_base.specs.Behaviour.{Behaviour}
use Rattle.reo_net_base.specs.Colouring.{given_at}
use Rattle.reo_net_base.specs.Lasting.{GivesFront, GivesWhatItTakes}
use Rattle.reo_net_base.specs.Net.{Net, net_of, behaviour_at, side_at}
use Rattle.reo_joint_values.specs.Standing.{giver_of, no_joint}
use Rattle.reo_round.specs.Feeds.{IsCode}
use Rattle.reo_round.proofs.Fed.{given_fed, given_front}
use Rattle.reo_round.proofs.FeedLemmas.{by_joint, by_state}
use Rattle.reo_round.proofs.giving.put_fed.Goals as goal

pub returns-in-Some-clause-put : goal.returns-in-Some-clause-put
returns-in-Some-clause-put g c = λ rows are flows is.
    let net : Net = net_of g.P.Primitive.behaviour c.args.circuit.now in
    let j : ℕ = c.args.joint in
    let nothing = by_state net (length net.joints) (side_at net (giver_of net j)) (get_or c.args.feeds.now j 0) c.known.ensures.few_joints (sym c.of.ensures ∙ c.in-4294967295.is) (c.requires.feeds.each j c.requires.joint) in
    let alike : g.P.Primitive.behaviour c.primitive-primitive.result.now ≡ behaviour_at net.primitives (giver_of net j).primitive =
    c.primitive-primitive.ensures.behaviour ∙ ap (λ (x : Joint). behaviour_at net.primitives x.giver.primitive) (sym (c.joint.ensures no_joint)) in
    let front = g.P.Primitive.front c.primitive-primitive.result.now in
    let law = subst (λ (b : Behaviour). GivesFront front b) alike (g.met.P.Primitive.gives_front c.primitive-primitive.result.now) in
    let item : Value = c.in-Some.front.now in
    let there : front ≡ Some item = sym c.front.ensures ∙ ap option_copied c.in-Some.is in
    let given : given_at net rows c.args.items.now (giver_of net j) ≡ Some item =
    given_front net c.known.ensures.wired rows are j c.requires.joint (flows no_joint) c.args.items.now nothing front law item there in
    ap (λ (o : Option Value). set c.args.items.now j o) (c.put_plain.ensures.put is ∙ sym given)

pub returns-then-carries-clause-put : goal.returns-then-carries-clause-put
returns-then-carries-clause-put g c = λ rows are flows is.
    let net : Net = net_of g.P.Primitive.behaviour c.args.circuit.now in
    let j : ℕ = c.args.joint in
    let k : ℕ = c.of.result in
    let code : IsCode net (length net.joints) (side_at net (giver_of net j)) k =
    subst (IsCode net (length net.joints) (side_at net (giver_of net j))) (sym c.of.ensures) (c.requires.feeds.each j c.requires.joint) in
    let one = by_joint net (length net.joints) (side_at net (giver_of net j)) k (λ e. omega (arith, e)) (λ e. omega (arith, e)) code in
    let alike : g.P.Primitive.behaviour c.primitive-primitive.result.now ≡ behaviour_at net.primitives (giver_of net j).primitive =
    c.primitive-primitive.ensures.behaviour ∙ ap (λ (x : Joint). behaviour_at net.primitives x.giver.primitive) (sym (c.joint.ensures no_joint)) in
    let lasting = g.P.Primitive.lasting c.primitive-primitive.result.now in
    let law = subst (λ (b : Behaviour). GivesWhatItTakes lasting b) alike (g.met.P.Primitive.carries_on c.primitive-primitive.result.now) in
    let found = c.put_carried.ensures.put is in
    let given : given_at net rows c.args.items.now (giver_of net j) ≡ Some found.0 =
    given_fed net c.known.ensures.wired rows are j c.requires.joint (flows no_joint) c.args.items.now c.requires.items k one lasting law (sym c.carries.ensures ∙ c.if-carries.true) found.0 found.1 in
    found.2 ∙ ap (λ (o : Option Value). set c.args.items.now j o) (sym given)
