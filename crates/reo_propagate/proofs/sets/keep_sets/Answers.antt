use Rattle.std.proofs.Common.{◌≡◌, ◌∙◌, ◌<◌, ◌+◌, ℕ, Bool, List, true, get_or, take, refl, ap, sym, subst, arith}
use Rattle.std.proofs.lemmas.Bool.{both_ways, eqb-true}
use Rattle.reo_net_base.specs.Net.{Net, net_of}
use Rattle.reo_net_base.specs.Sides.{side_count}
use Rattle.reo_joint_values.specs.declared.value.JointValue.{JointValue}
use Rattle.reo_joint_values.specs.Values.{giver_side}
use Rattle.reo_side_tables.specs.Boards.{IsBoard}
use Rattle.reo_side_tables.specs.Flowing.{gives_at}
use Rattle.reo_propagate.specs.Queues.{among}
use Rattle.reo_propagate.specs.ListedSets.{HaveSome}
use Rattle.reo_propagate.proofs.Among.{among_at}
use Rattle.reo_propagate.proofs.Kept.{sides_more, kept_less, kept_more, some_more, some_less}
use Rattle.reo_propagate.proofs.sets.keep_sets.Goals.{then-not-keep_given, else-not-keep_given}
use Rattle.reo_propagate.proofs.sets.keep_sets.Goals as goal

pub at-requires : goal.at-requires
at-requires g c =
    let net : Net = net_of g.P.Primitive.behaviour c.args.circuit.now in
    let side : ℕ = get_or c.args.sides.now c.loop-side.side-index 0 in
    let lt : side < side_count net = c.requires.sides side (among_at c.args.sides.now c.loop-side.side-index c.loop-side-test.true) in
    omega (arith, lt, c.requires.boards.one_each)

pub keep_given-requires-clause-board : goal.keep_given-requires-clause-board
keep_given-requires-clause-board g c =
    let net : Net = net_of g.P.Primitive.behaviour c.args.circuit.now in
    let side : ℕ = get_or c.args.sides.now c.loop-side.side-index 0 in
    let lt : side < side_count net = c.requires.sides side (among_at c.args.sides.now c.loop-side.side-index c.loop-side-test.true) in
    subst (IsBoard net side) (sym c.at.ensures) (c.requires.boards.each side c.at.result.now lt)

pub keep_given-requires-clause-flags : goal.keep_given-requires-clause-flags
keep_given-requires-clause-flags g c = λ j v gives h.
    let net : Net = net_of g.P.Primitive.behaviour c.args.circuit.now in
    let side : ℕ = get_or c.args.sides.now c.loop-side.side-index 0 in
    let is : among c.args.sides.now (giver_side net j) ≡ true =
    ap (among c.args.sides.now) (eqb-true (giver_side net j) side gives) ∙ among_at c.args.sides.now c.loop-side.side-index c.loop-side-test.true in
    c.requires.flags j v is
    (kept_less (λ k. among (take c.loop-side.side-index c.args.sides.now) (giver_side net k)) c.args.alive.now c.args.sets.now.values c.loop-side.sets.values c.loop-side.invariant.kept j v h)

pub loop-side-preserved : goal.loop-side-preserved
loop-side-preserved g c =
    let net : Net = net_of g.P.Primitive.behaviour c.args.circuit.now in
    let sides : List ℕ = c.args.sides.now in
    let index : ℕ = c.loop-side.side-index in
    let side : ℕ = get_or sides index 0 in
    let alive : List (List Bool) = c.args.alive.now in
    let old : List (List JointValue) = c.args.sets.now.values in
    let mid : List (List JointValue) = c.loop-side.sets.values in
    let new : List (List JointValue) = c.keep_given.new.sets.values in
    let now : ℕ → Bool = λ j. among (take index sides) (giver_side net j) in
    let next : ℕ → Bool = λ j. among (take (index + 1) sides) (giver_side net j) in
    let both = sides_more net sides index side c.loop-side-test.true refl in
    record {
      kept = kept_more now (gives_at net side) next alive old mid new c.loop-side.invariant.kept c.keep_given.ensures.kept both;
      some = elim c.if-not-keep_given.branch [
        | then-not-keep_given w ↦
            let none : HaveSome (gives_at net side) new → ⊥ = λ all. both_ways c.keep_given.result w.if-not-keep_given.true (c.keep_given.ensures.some.1 all) in (
              λ t. absurd (both_ways c.if-not-keep_given.full w.full-is t),
              λ all. absurd (some_less now (gives_at net side) next alive old mid new c.loop-side.invariant.kept c.keep_given.ensures.kept both none all),
            )
        | else-not-keep_given w ↦
            let here : HaveSome (gives_at net side) new = c.keep_given.ensures.some.0 w.if-not-keep_given.false in
            let more = some_more now (gives_at net side) next alive old mid new c.loop-side.invariant.kept c.keep_given.ensures.kept both here in (
              λ t. more.0 (c.loop-side.invariant.some.0 (sym w.full-is ∙ t)),
              λ all. w.full-is ∙ c.loop-side.invariant.some.1 (more.1 all),
            )
      ];
    }
