use Rattle.std.proofs.Common.{◌≡◌, ◌+◌, ℕ, Bool, true, false, length, refl, sym, subst}
use Rattle.reo_net_base.specs.Net.{Net, net_of}
use Rattle.reo_net_laws.specs.Knots.{knot_count}
use Rattle.reo_weights.proofs.CauseLemmas.{within_not_over}
use Rattle.reo_settling.specs.Plannings.{Kept, AllServe, is_open}
use Rattle.reo_engine.proofs.Plannings.{all_served}
use Rattle.reo_engine.specs.Flows.{MayBeRows}
use Rattle.reo_engine.proofs.FlowsLemmas.{told_by_test}
use Rattle.reo_engine.proofs.engine.Engine.prepare.Goals as goal

not_both : (b : Bool) → b ≡ false → b ≡ true → ⊥
not_both true h g = cc
not_both false h g = cc

-- Not all parts serve where the answer is no.
not_all : (kept : Kept) (budget count : ℕ) (answer : Bool) → length kept.settled ≡ count → answer ≡ false → (AllServe (length kept.settled) budget kept → answer ≡ true) → AllServe count budget kept → ⊥
not_all kept budget count answer one_each h tells all = not_both answer h (tells (subst (λ (n : ℕ). AllServe n budget kept) (sym one_each) all))

pub returns-then-all_serve-clause-exact : goal.returns-then-all_serve-clause-exact
returns-then-all_serve-clause-exact g c =
    let net : Net = net_of g.P.Primitive.behaviour c.self.inside.circuit in
    let looked = c.self.invariant.3 in
    let all : AllServe (length c.self.inside.kept.settled) c.args.budget c.self.inside.kept = c.all_serve.ensures.0 c.if-all_serve.true in
    let planned = all_served c.args.budget net c.self.inside.knots looked.are_knots (c.self.inside.rounds + 1) c.self.inside.kept looked.is_kept
    (subst (λ (n : ℕ). AllServe n c.args.budget c.self.inside.kept) looked.is_kept.sizes.one_each all) c.self.inside.kept.rows refl in
    rw (← c.self.view_is) (within_not_over c.args.budget net c.known.ensures.wired c.self.inside.knots.numbers (knot_count c.self.inside.knots) looked.are_knots.numbered planned.within)

pub returns-in_err-over-clause-none : goal.returns-in_err-over-clause-none
returns-in_err-over-clause-none g c = rw (← c.self.view_is) (λ all.
    absurd (not_all c.self.inside.kept c.args.budget (knot_count c.self.inside.knots) c.all_serve.result c.self.invariant.3.is_kept.sizes.one_each c.if-all_serve.false c.all_serve.ensures.1 all))

pub returns-in_err-rows-clause-none : goal.returns-in_err-rows-clause-none
returns-in_err-rows-clause-none g c = rw (← c.self.view_is) (λ all.
    absurd (not_all c.self.inside.kept c.args.budget (knot_count c.self.inside.knots) c.all_serve.result c.self.invariant.3.is_kept.sizes.one_each c.if-all_serve.false c.all_serve.ensures.1 all))

pub store-list-requires-clause-flowing : goal.store-list-requires-clause-flowing
store-list-requires-clause-flowing g c = rw c.flowing-flowing.ensures (told_by_test (net_of g.P.Primitive.behaviour c.self.inside.circuit) c.self.inside.knots c.in_ok-rows.rows c.find_rows.new.self.flowing c.in_ok-rows.ensures.flowing (is_open c.self.inside.kept))

pub take_rows-requires : goal.take_rows-requires
take_rows-requires g c = rw c.rows.ensures c.self.invariant.5.rows

pub invariant_of-self : goal.invariant_of-self
invariant_of-self g c =
    let old = c.self.invariant in (
      old.0,
      old.1,
      old.2,
      old.3,
      old.4,
      record { blank = old.5.blank; rows = subst (MayBeRows c.self.inside.kept.rows) (sym c.take_rows.ensures.taken) tt; marks = old.5.marks; one_each = old.5.one_each; cells = old.5.cells; shown = old.5.shown; feeds = old.5.feeds },
      old.6,
    )

pub invariant_of-self-in_err-rows : goal.invariant_of-self-in_err-rows
invariant_of-self-in_err-rows g c =
    let old = c.self.invariant in (
      old.0,
      old.1,
      old.2,
      old.3,
      c.in_err-rows.ensures.refused c.self.inside.kept,
      record { blank = old.5.blank; rows = subst (MayBeRows c.self.inside.kept.rows) (sym c.take_rows.ensures.taken) tt; marks = old.5.marks; one_each = old.5.one_each; cells = old.5.cells; shown = old.5.shown; feeds = old.5.feeds },
      old.6,
    )

pub invariant_of-self-2 : goal.invariant_of-self-2
invariant_of-self-2 g c =
    let old = c.self.invariant in (
      old.0,
      old.1,
      old.2,
      record { are_knots = old.3.are_knots; are_ends = old.3.are_ends; is_kept = c.store-list.ensures.kept (c.self.inside.rounds + 1) old.3.is_kept c.in_ok-rows.ensures.exact },
      c.in_ok-rows.ensures.lookups c.store-list.new.self c.store-list.ensures.rows,
      record { blank = old.5.blank; rows = rw c.rows-2.ensures at c.rewritten.ensures; marks = old.5.marks; one_each = old.5.one_each; cells = old.5.cells; shown = λ e. absurd cc; feeds = old.5.feeds },
      old.6,
    )

pub returns-clause-exact : goal.returns-clause-exact
returns-clause-exact g c =
    let net : Net = net_of g.P.Primitive.behaviour c.self.inside.circuit in
    rw (← c.self.view_is) (within_not_over c.args.budget net c.known.ensures.wired c.self.inside.knots.numbers (knot_count c.self.inside.knots) c.self.invariant.3.are_knots.numbered c.in_ok-rows.ensures.exact.within)

pub returns-clause-none : goal.returns-clause-none
returns-clause-none g c = rw (← c.self.view_is) (λ all.
    absurd (not_all c.self.inside.kept c.args.budget (knot_count c.self.inside.knots) c.all_serve.result c.self.invariant.3.is_kept.sizes.one_each c.if-all_serve.false c.all_serve.ensures.1 all))
