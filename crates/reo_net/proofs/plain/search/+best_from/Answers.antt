use Rattle.std.proofs.Common.{◌≡◌, ◌∙◌, ◌<◌, List, Bool, not, true, ℕ, length, get_or, set, arith}
use Rattle.std.specs.List.{count_by}
use Rattle.std.proofs.lemmas.Result.{IfOk-weaker}
use Rattle.std.proofs.lemmas.List.{length-set}
use Rattle.reo_net_base.specs.Net.{Net, net_of, all_sides, no_side}
use Rattle.reo_net_base.specs.Sides.{side_count, AreRowsOf}
use Rattle.reo_net.proofs.Sides.{rows_length, row_below}
use Rattle.reo_net.specs.plain.Chosen.{Agrees, Improves}
use Rattle.reo_net.proofs.plain.ChosenLemmas.{rows_put, agrees_less, left_again, fewer_left, agrees_whole, colouring_length, improves_fewer, improves_more}
use Rattle.reo_net.proofs.plain.search.+best_from.Goals as goal

pub returns-in_default-clause-best : goal.returns-in_default-clause-best
returns-in_default-clause-best g t c =
    let net : Net = net_of g.P.Primitive.behaviour c.args.circuit.now in
    let rows_length = rows_length (all_sides net.primitives) c.args.rows.now c.requires.rows in
    IfOk-weaker c.improved.result _ (λ found. Improves net c.args.turn (Agrees c.args.chosen.now c.args.rows.now) c.args.best.rows found.rows found.items)
    (λ found. improves_fewer net c.args.turn (λ others. others ≡ c.args.rows.now) (Agrees c.args.chosen.now c.args.rows.now) c.args.best.rows found.rows found.items
    (λ others items col agrees. agrees_whole net c.args.chosen.now c.args.rows.now others c.in_default.ensures rows_length (colouring_length net others items col) agrees))
    c.improved.ensures

pub at_mut-requires : goal.at_mut-requires
at_mut-requires g t c =
    let net : Net = net_of g.P.Primitive.behaviour c.args.circuit.now in
    omega (arith, c.in-Some.ensures.in_range, rows_length (all_sides net.primitives) c.loop-row.rows c.loop-row.invariant.rows)

pub best_from-requires : goal.best_from-requires
best_from-requires g t c κs within =
    let net : Net = net_of g.P.Primitive.behaviour c.args.circuit.now in
    let side : ℕ = c.in-Some.side in
    let old : List Bool = c.args.chosen.now in
    let marks = c.loop-row.invariant.chosen in
    let in_chosen : side < length old = omega (arith, c.in-Some.ensures.in_range, c.requires.chosen) in
    let fewer : count_by not c.loop-row.chosen < count_by not old = rw marks (fewer_left old side in_chosen c.in-Some.ensures.left) in
    let many : length c.loop-row.chosen ≡ side_count net = rw marks (length-set old side true ∙ c.requires.chosen) in
    let rows : AreRowsOf net (set c.loop-row.rows side c.loop-row.row) =
    rows_put (all_sides net.primitives) c.loop-row.rows c.loop-row.invariant.rows side c.loop-row.row c.in-Some.ensures.in_range (λ d. omega (arith, c.rows-row-end.ensures.count d, c.loop-row-test.true)) in
    (omega (arith, fewer, c.decreases), (within, (rows, (many, c.loop-row.invariant.best.colouring))))

pub loop-row-preserved : goal.loop-row-preserved
loop-row-preserved g t c =
    let net : Net = net_of g.P.Primitive.behaviour c.args.circuit.now in
    let side : ℕ = c.in-Some.side in
    let old : List Bool = c.args.chosen.now in
    let rows_length = rows_length (all_sides net.primitives) c.loop-row.rows c.loop-row.invariant.rows in
    let in_rows : side < length c.loop-row.rows = omega (arith, c.in-Some.ensures.in_range, rows_length) in
    let in_chosen : side < length old = omega (arith, c.in-Some.ensures.in_range, c.requires.chosen) in
    let marks = c.loop-row.invariant.chosen in
    record {
      chosen = c.in_ok-best.ensures.chosen ∙ marks;
      rows = c.in_ok-best.ensures.rows;
      agree = agrees_less old side c.args.rows.now c.loop-row.rows c.best_from.new.rows c.loop-row.row c.in-Some.ensures.left in_chosen c.loop-row.invariant.agree (rw marks at c.in_ok-best.ensures.agree);
      best = improves_more net c.args.turn old c.args.rows.now c.loop-row.rows side c.loop-row.row c.args.best.rows c.loop-row.best.rows c.in_ok-best.best.rows c.loop-row.best.items c.in_ok-best.best.items in_rows c.loop-row.invariant.agree c.loop-row.invariant.best (rw marks at c.in_ok-best.ensures.best);
    }

pub returns-clause-best : goal.returns-clause-best
returns-clause-best g t c =
    let net : Net = net_of g.P.Primitive.behaviour c.args.circuit.now in
    let side : ℕ = c.in-Some.side in
    improves_fewer net c.args.turn (λ others. Agrees c.args.chosen.now c.args.rows.now others × (get_or others side 0 < c.loop-row.row)) (Agrees c.args.chosen.now c.args.rows.now) c.args.best.rows c.loop-row.best.rows c.loop-row.best.items
    (λ others items col agrees. (agrees, omega (arith, row_below (all_sides net.primitives) others col.rows_fit.in_tables side no_side c.in-Some.ensures.in_range, c.rows-row-end.ensures.count no_side, c.loop-row-test.false)))
    c.loop-row.invariant.best

pub returns-clause-chosen : goal.returns-clause-chosen
returns-clause-chosen g t c = rw c.loop-row.invariant.chosen (left_again c.args.chosen.now c.in-Some.side c.in-Some.ensures.left)
