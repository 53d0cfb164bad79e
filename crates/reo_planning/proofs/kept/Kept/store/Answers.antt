use Rattle.std.proofs.Common.{ℕ, List, subst, ◌∙◌}
use Rattle.reo_net_base.specs.Net.{Net, net_of}
use Rattle.reo_net_laws.specs.Knots.{knot_count}
use Rattle.reo_planning.specs.Marked.{AreMarked}
use Rattle.reo_planning.proofs.Storing.{kept_stored}
use Rattle.reo_planning.proofs.kept.Kept.store.Goals as goal

pub returns-clause-kept : goal.returns-clause-kept
returns-clause-kept g c = λ turn was planned.
    let net : Net = net_of g.P.Primitive.behaviour c.args.circuit.now in
    rw c.replace.ensures.after (kept_stored c.args.budget net c.known.ensures.wired c.order-order.result.now c.order-order.ensures c.args.knots.now c.requires.knots turn c.args.rows c.args.self.now c.mark_rest.new.self was planned
    (subst (λ (xs : List ℕ). AreMarked net c.args.knots.now xs (knot_count c.args.knots.now) c.args.self.now c.mark_rest.new.self) c.as_slice.ensures c.mark_rest.ensures))

pub mark_rest-requires-clause-rows : goal.mark_rest-requires-clause-rows
mark_rest-requires-clause-rows g c = rw c.as_slice.ensures c.requires.rows

pub mark_rest-requires-clause-flowing : goal.mark_rest-requires-clause-flowing
mark_rest-requires-clause-flowing g c = rw c.as_slice.ensures c.requires.flowing

pub returns-clause-before : goal.returns-clause-before
returns-clause-before g c = c.replace.ensures.value ∙ c.mark_rest.ensures.kept
