use Rattle.std.proofs.Common.{◌+◌, ℕ, sym, subst}
use Rattle.reo_net_base.specs.declared.colouring.Colouring.{Colouring}
use Rattle.reo_net_base.specs.First.{IsFirst}
use Rattle.reo_net_base.specs.Net.{Net, net_of}
use Rattle.reo_net_laws.proofs.FirstInside.{first_inside}
use Rattle.reo_engine.proofs.engine.Engine.plan.Goals as goal

pub returns-in_err-colouring-clause-none : goal.returns-in_err-colouring-clause-none
returns-in_err-colouring-clause-none g c = rw (← c.self.view_is) c.first_colouring.ensures.none

pub returns-in_err-plan_with-clause-none : goal.returns-in_err-plan_with-clause-none
returns-in_err-plan_with-clause-none g c = rw (← c.self.view_is) c.first_colouring.ensures.none

pub returns-clause-none : goal.returns-clause-none
returns-clause-none g c = rw (← c.self.view_is) c.first_colouring.ensures.none

pub returns-clause-exact : goal.returns-clause-exact
returns-clause-exact g c =
    let net : Net = net_of g.P.Primitive.behaviour c.self.inside.circuit in
    let turn : ℕ = c.self.inside.rounds + 1 in
    let first : IsFirst net turn c.in_ok-plan_with.field-0.colouring.rows c.in_ok-plan_with.field-0.colouring.items =
    subst (λ (x : Colouring). IsFirst net turn x.rows x.items) (sym c.in_ok-plan_with.ensures.same) c.in_ok-colouring.ensures.exact.first in
    rw (← c.self.view_is) record { within = c.in_ok-colouring.ensures.exact.within; first = first; shows = c.in_ok-plan_with.ensures.shows }

pub returns-clause-parts : goal.returns-clause-parts
returns-clause-parts g c =
    let net : Net = net_of g.P.Primitive.behaviour c.self.inside.circuit in
    let turn : ℕ = c.self.inside.rounds + 1 in
    let first : IsFirst net turn c.in_ok-plan_with.field-0.colouring.rows c.in_ok-plan_with.field-0.colouring.items =
    subst (λ (x : Colouring). IsFirst net turn x.rows x.items) (sym c.in_ok-plan_with.ensures.same) c.in_ok-colouring.ensures.exact.first in
    rw (← c.self.view_is) (λ inside closed.
    first_inside net c.known.ensures.wired turn c.in_ok-plan_with.field-0.colouring.rows c.in_ok-plan_with.field-0.colouring.items first inside closed)
