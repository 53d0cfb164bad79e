use Rattle.std.proofs.Common.{ℕ, List, ap, sym, subst}
use Rattle.reo_net_base.specs.Net.{Net, net_of}
use Rattle.reo_trace.specs.declared.line.RoundLine.{RoundLine}
use Rattle.reo_trace.specs.cells.Cells.{AreShown}
use Rattle.reo_trace.specs.declared.cells.cells.Cells.{Cells}
use Rattle.reo_net_laws.specs.Knots.{knot_count}
use Rattle.reo_engine.proofs.FlowsLemmas.{flows_texted, lists_moving, served_settled, told_of_all}
use Rattle.reo_engine.proofs.engine.Engine.make_round.Goals as goal

pub invariant_of-self : goal.invariant_of-self
invariant_of-self g c =
    let old = c.self.invariant in (
      old.0,
      old.1,
      old.2,
      record { are_knots = old.3.are_knots; are_ends = old.3.are_ends; is_kept = c.renew_marked.ensures.kept },
      c.renew_marked.ensures.lookups,
      c.renew_marked.ensures.flows,
      old.6,
    )

pub invariant_of-self-2 : goal.invariant_of-self-2
invariant_of-self-2 g c =
    let old = c.self.invariant in (
      old.0,
      old.1,
      old.2,
      record { are_knots = old.3.are_knots; are_ends = old.3.are_ends; is_kept = c.renew_marked.ensures.kept },
      c.renew_marked.ensures.lookups,
      flows_texted (net_of g.P.Primitive.behaviour c.self.inside.circuit) c.self.inside.knots c.renew_marked.new.kept c.make_by.new.flows c.replace-over.new.dest c.make_by.ensures.flows,
      old.6,
    )

pub invariant_of-self-in_err-made_round : goal.invariant_of-self-in_err-made_round
invariant_of-self-in_err-made_round g c =
    let old = c.self.invariant in (
      old.0,
      old.1,
      old.2,
      record { are_knots = old.3.are_knots; are_ends = old.3.are_ends; is_kept = c.renew_marked.ensures.kept },
      c.renew_marked.ensures.lookups,
      c.make_by.ensures.flows,
      old.6,
    )

pub make_by-requires-clause-lists : goal.make_by-requires-clause-lists
make_by-requires-clause-lists g c = rw c.flowing-lists.ensures (told_of_all (net_of g.P.Primitive.behaviour c.self.inside.circuit) c.self.inside.knots c.renew_marked.new.kept c.args.budget c.in_ok-renew_marked.ensures.exact.serve
    c.renew_marked.new.lookups.flowing (c.renew_marked.ensures.lookups.flowing c.in_ok-renew_marked.ensures.told))

pub make_by-requires-clause-moving : goal.make_by-requires-clause-moving
make_by-requires-clause-moving g c =
    let net : Net = net_of g.P.Primitive.behaviour c.self.inside.circuit in
    let exact = c.in_ok-renew_marked.ensures.exact in
    let told = told_of_all net c.self.inside.knots c.renew_marked.new.kept c.args.budget exact.serve c.renew_marked.new.lookups.flowing (c.renew_marked.ensures.lookups.flowing c.in_ok-renew_marked.ensures.told) in
    rw c.flowing-lists.ensures (lists_moving net c.known.ensures.wired c.self.inside.knots c.self.invariant.3.are_knots _ c.renew_marked.new.kept c.renew_marked.ensures.kept exact.first.first.colouring.rows_fit
    (served_settled c.renew_marked.new.kept c.args.budget (knot_count c.self.inside.knots) exact.serve) c.renew_marked.new.lookups.flowing told)

pub make_by-requires-clause-first : goal.make_by-requires-clause-first
make_by-requires-clause-first g c = c.in_ok-renew_marked.ensures.exact.first

pub returns-clause-exact : goal.returns-clause-exact
returns-clause-exact g c = rw (← c.self.view_is) record {
  within = c.in_ok-renew_marked.ensures.exact.within;
  is_made = c.in_ok-made_round.ensures.is_made;
}

pub returns-clause-text : goal.returns-clause-text
returns-clause-text g c =
    let net : Net = net_of g.P.Primitive.behaviour c.self.inside.circuit in
    let rows : List ℕ = c.in_ok-made_round.made_round.colouring.rows in
    let is_made = c.in_ok-made_round.ensures.is_made in
    let cells : Cells = c.make_by.new.flows.cells in
    let shown : AreShown net rows cells =
    subst (λ (xs : List ℕ). AreShown net xs cells) (sym c.in_ok-made_round.ensures.rows)
    (subst (λ (x : Cells). AreShown net c.renew_marked.new.kept.rows x) (sym c.make_by.ensures.cells) c.in_ok-renew_marked.ensures.shown) in
    let idle = ap (λ (line : RoundLine). line.idle) is_made.line in
    let text = c.in_ok-text.ensures net rows c.known.ensures.wired c.make_by.ensures.flows.cells is_made.first.colouring.rows_fit.in_tables shown idle in
    rw (← c.self.view_is) (rw c.as_slice.ensures at text)
