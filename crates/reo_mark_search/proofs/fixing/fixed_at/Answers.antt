use Rattle.std.proofs.Common.{◌≡◌, ◌<◌, ◌+◌, ℕ, Bool, true, List, length, slice_index, set, sym, ap, ◌∙◌, subst, arith, get_or-set_other}
use Rattle.std.proofs.lemmas.List.{length-set}
use Rattle.reo_net_base.specs.Net.{Net, net_of}
use Rattle.reo_mark_search.specs.Searched.{in_part}
use Rattle.reo_mark_search.specs.Walking.{AreFixed}
use Rattle.reo_mark_search.proofs.Leaving.{fixed_next}
use Rattle.reo_mark_search.proofs.Parts.{side_here, side_below}
use Rattle.reo_mark_search.proofs.fixing.fixed_at.Goals as goal

pub seat_at-seat-requires-clause-side : goal.seat_at-seat-requires-clause-side
seat_at-seat-requires-clause-side g c =
    side_below (net_of g.P.Primitive.behaviour c.args.searched.now.circuit.now) c.args.searched.now.knots.now c.requires.searched.knots c.args.searched.now.part c.requires.searched.part c.sides.result.now c.sides.ensures c.args.index
    (subst (λ (xs : List ℕ). c.args.index < length xs) (sym c.sides.ensures) c.requires.index)

pub seat_at-seat-requires-clause-here : goal.seat_at-seat-requires-clause-here
seat_at-seat-requires-clause-here g c =
    side_here (net_of g.P.Primitive.behaviour c.args.searched.now.circuit.now) c.args.searched.now.knots.now c.requires.searched.knots c.args.searched.now.part c.requires.searched.part c.sides.result.now c.sides.ensures c.args.index
    (subst (λ (xs : List ℕ). c.args.index < length xs) (sym c.sides.ensures) c.requires.index)

pub at_mut-requires : goal.at_mut-requires
at_mut-requires g c =
    let below = side_below (net_of g.P.Primitive.behaviour c.args.searched.now.circuit.now) c.args.searched.now.knots.now c.requires.searched.knots c.args.searched.now.part c.requires.searched.part c.sides.result.now c.sides.ensures c.args.index
    (subst (λ (xs : List ℕ). c.args.index < length xs) (sym c.sides.ensures) c.requires.index) in
    omega (arith, below, c.requires.rows)

pub returns-in-Some-clause-fixed : goal.returns-in-Some-clause-fixed
returns-in-Some-clause-fixed g c = λ _ before.
    let net : Net = net_of g.P.Primitive.behaviour c.args.searched.now.circuit.now in
    let inside : ℕ → Bool = in_part c.args.searched.now in
    let sides : List ℕ = c.sides.result.now in
    let spots : List (List ℕ) = c.args.searched.now.spots.now in
    let n : ℕ = c.args.index in
    let lt : n < length sides = subst (λ (xs : List ℕ). n < length xs) (sym c.sides.ensures) c.requires.index in
    let here = side_here net c.args.searched.now.knots.now c.requires.searched.knots c.args.searched.now.part c.requires.searched.part sides c.sides.ensures n lt in
    let below = side_below net c.args.searched.now.knots.now c.requires.searched.knots c.args.searched.now.part c.requires.searched.part sides c.sides.ensures n lt in
    let rows : List ℕ = set c.args.rows.now (slice_index sides n) c.in-Some.row in
    let old : AreFixed net inside spots sides n c.args.sets.now c.args.rows.now = subst (λ (xs : List ℕ). AreFixed net inside spots xs n c.args.sets.now c.args.rows.now) (sym c.sides.ensures) before in
    subst (λ (xs : List ℕ). AreFixed net inside spots xs (n + 1) c.args.sets.now rows) c.sides.ensures
    (fixed_next net c.known.ensures.wired spots c.requires.searched.spots inside (c.requires.searched.knots.are_knots c.args.searched.now.part c.requires.searched.part).closed sides n lt here c.seat_at-seat.result.form c.seat_at-seat.result.places.now c.seat_at-seat.ensures
    c.args.sets.now c.args.rows.now c.in-Some.row (omega (arith, below, c.requires.rows)) c.in-Some.ensures old)

pub returns-in-Some-clause-elsewhere : goal.returns-in-Some-clause-elsewhere
returns-in-Some-clause-elsewhere g c =
    let net : Net = net_of g.P.Primitive.behaviour c.args.searched.now.circuit.now in
    let inside : ℕ → Bool = in_part c.args.searched.now in
    let sides : List ℕ = c.sides.result.now in
    let lt : c.args.index < length sides = subst (λ (xs : List ℕ). c.args.index < length xs) (sym c.sides.ensures) c.requires.index in
    let here : inside (slice_index sides c.args.index) ≡ true = side_here net c.args.searched.now.knots.now c.requires.searched.knots c.args.searched.now.part c.requires.searched.part sides c.sides.ensures c.args.index lt in
    record {
      one_each = length-set c.args.rows.now (slice_index sides c.args.index) c.in-Some.row;
      others = λ s away. get_or-set_other c.args.rows.now (slice_index sides c.args.index) s c.in-Some.row 0 (λ same. let holds : inside s ≡ true = ap inside same ∙ here in cc);
    }
