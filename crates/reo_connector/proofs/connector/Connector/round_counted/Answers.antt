-- The round that was made is that of the plan of its colouring.
use Rattle.std.proofs.Common.{◌≡◌, ◌+◌, ◌∙◌, ap, arith, rules, sym}
use Rattle.reo_engine.specs.Engine.{Running}
use Rattle.reo_kinds.specs.declared.kind.Kind.{Kind}
use Rattle.reo_connector.specs.Held.{net_in}
use Rattle.reo_connector.proofs.PortsStay.{after_round}
use Rattle.reo_connector.proofs.MadeLemmas.{shown_plan, is_planned}
use Rattle.reo_connector.proofs.connector.Connector.round_counted.Goals as goal

pub returns-clause-exact : goal.returns-clause-exact
returns-clause-exact g c =
    let now = c.args.self.now in
    let net = net_in now in
    let made = c.in_ok-made.made.0 in record {
      plan = shown_plan net made;
      planned = is_planned c.args.budget net now.circuit.ports (now.rounds + 1) made (rw (sym c.self.view_is) c.in_ok-made.ensures.exact);
      made = search rules;
      told = record {
        moves = search rules;
        idle = search rules;
        jammed = search rules;
      };
    }

-- The ports stay through the round.
pub invariant_of-self-2 : goal.invariant_of-self-2
invariant_of-self-2 g c =
    let was = c.self.invariant in
    let done = c.finish_round-idle.ensures in
    let same = c.hand_back.ensures ∙ c.in_ok-made.ensures.stays in
    let rounds : c.hand_back.new.self.rounds ≡ c.self.inside.engine.rounds = ap (λ (e : Running Kind). e.rounds) same in
    let few = rw (← c.self.view_is) at c.requires.few in
    let has = after_round c.self.inside.ports.list c.self.inside.engine.circuit _ _ _ (ap (λ (e : Running Kind). e.circuit) same) done.circuit done.offers.ways (was.2, was.3) in
    (omega (arith, done.rounds, rounds, few), was.1, has.0, has.1)
