use Rattle.std.proofs.Common.{◌≡◌, ◌∙◌, ◌-◌, ℕ, Bool, true, List, slice_index, sym, ap, subst, arith, get_or-set_other}
use Rattle.std.proofs.lemmas.List.{length-set, get_or_default}
use Rattle.reo_net_base.specs.Behaviour.{Behaviour}
use Rattle.reo_net_base.specs.Net.{Net, Side, net_of, no_side, row_count}
use Rattle.reo_net_laws.specs.JamRows.{jam_rows}
use Rattle.reo_net_laws.specs.Knots.{in_knot}
use Rattle.reo_mark_search.proofs.Meeting.{jam_next, jam_row_at}
use Rattle.reo_mark_search.proofs.Parts.{side_here, side_below, side_listed}
use Rattle.reo_mark_search.proofs.walking.jam_all.Goals as goal

pub owner-owner-requires : goal.owner-owner-requires
owner-owner-requires g c =
    side_below (net_of g.P.Primitive.behaviour c.args.circuit.now) c.args.knots.now c.requires.knots c.args.part c.requires.part c.sides-sides.result.now c.sides-sides.ensures c.loop-index.index (omega arith)

pub at_mut-requires : goal.at_mut-requires
at_mut-requires g c =
    let below = side_below (net_of g.P.Primitive.behaviour c.args.circuit.now) c.args.knots.now c.requires.knots c.args.part c.requires.part c.sides-sides.result.now c.sides-sides.ensures c.loop-index.index (omega arith) in
    omega (arith, below, c.requires.rows, c.loop-index.invariant.elsewhere.one_each)

pub loop-index-preserved : goal.loop-index-preserved
loop-index-preserved g c =
    let net : Net = net_of g.P.Primitive.behaviour c.args.circuit.now in
    let inside : ℕ → Bool = in_knot c.args.knots.now.numbers c.args.part in
    let sides : List ℕ = c.sides-sides.result.now in
    let n : ℕ = c.loop-index.index in
    let inv = c.loop-index.invariant in
    let below = side_below net c.args.knots.now c.requires.knots c.args.part c.requires.part sides c.sides-sides.ensures n (omega arith) in
    let here : inside (slice_index sides n) ≡ true = side_here net c.args.knots.now c.requires.knots c.args.part c.requires.part sides c.sides-sides.ensures n (omega arith) in
    let count = c.rows-count.ensures ∙ ap (λ (b : Behaviour). b.rows c.owner-owner.result.side) c.primitive.ensures.behaviour in
    let is : c.rows-count.result - 1 ≡ slice_index (jam_rows net) (slice_index sides n) =
    ap (λ (m : ℕ). m - 1) count ∙ sym (jam_row_at net (slice_index sides n) below ∙ ap (λ (s : Side). row_count s - 1) (c.owner-owner.ensures.owner no_side)) in
    record {
      here = jam_next net sides c.loop-index.rows n (c.rows-count.result - 1) (omega (arith, below, c.requires.rows, inv.elsewhere.one_each)) is inv.here;
      elsewhere = record {
        one_each = length-set c.loop-index.rows (slice_index sides n) (c.rows-count.result - 1) ∙ inv.elsewhere.one_each;
        others = λ s away. get_or-set_other c.loop-index.rows (slice_index sides n) s (c.rows-count.result - 1) 0 (λ same. let holds : inside s ≡ true = ap inside same ∙ here in cc) ∙ inv.elsewhere.others s away;
      };
    }

pub returns-clause-here : goal.returns-clause-here
returns-clause-here g c = λ k h lt.
    let net : Net = net_of g.P.Primitive.behaviour c.args.circuit.now in
    let sides : List ℕ = c.sides-sides.result.now in
    let at = side_listed net c.args.knots.now c.requires.knots c.args.part c.requires.part sides c.sides-sides.ensures k lt h in
    let place : slice_index sides at.0 ≡ k = get_or_default sides at.0 0 k at.1 ∙ at.2 in
    subst (λ (x : ℕ). slice_index c.loop-index.rows x ≡ slice_index (jam_rows net) x) place (c.loop-index.invariant.here at.0 (omega (arith, at.1)))
