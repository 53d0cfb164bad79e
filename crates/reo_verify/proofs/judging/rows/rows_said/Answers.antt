use Rattle.std.proofs.Common.{◌≡◌, ◌<◌, ℕ, List, get_or, length, map, take, sym, subst, arith}
use Rattle.std.proofs.lemmas.List.{length-map, take_more, take_all, length-take-le}
use Rattle.reo_net_base.specs.Behaviour.{Behaviour}
use Rattle.reo_net_base.specs.Net.{Net, net_of}
use Rattle.reo_net_base.specs.Behaviour.{nothing}
use Rattle.reo_trace.specs.declared.line.Cell.TheVariants.{Row}
use Rattle.reo_trace.specs.declared.line.Entry.{Entry}
use Rattle.reo_trace.specs.declared.line.Entry.TheVariants.{One}
use Rattle.reo_runs.specs.verdicts.Said.{AreSaid}
use Rattle.reo_verify.specs.judging.Entries.{rows_of}
use Rattle.reo_verify.proofs.judging.SaidLemmas.{rows_more, are_said}
use Rattle.reo_verify.proofs.judging.rows.rows_said.Goals as goal

pub loop-index-preserved : goal.loop-index-preserved
loop-index-preserved g c =
    let bs : List Behaviour = map g.P.Primitive.behaviour c.args.circuit.now.primitives in
    let es : List Entry = c.args.entries.now in
    let i : ℕ = c.loop-index.index in
    let in_es : i < length es = c.loop-index-test.true in
    let in_bs : i < length bs = omega (arith, in_es, c.requires.counted.one_each) in
    let same : length (take i es) ≡ length (take i bs) = omega (arith, length-take-le i es (omega (arith, in_es)), length-take-le i bs (omega (arith, in_bs))) in
    let more = rows_more (take i bs) (take i es) (get_or bs i nothing) (get_or es i (One (Row 0))) same in
    rw (take_more bs i nothing in_bs, take_more es i (One (Row 0)) in_es, more, ← c.loop-index.invariant, ← c.primitive.ensures.behaviour) c.in_ok-push_rows.ensures

pub returns : goal.returns
returns g c =
    let net : Net = net_of g.P.Primitive.behaviour c.args.circuit.now in
    let done : c.loop-index.index ≡ length c.args.entries.now = omega (arith, c.loop-index-test.false, c.loop-index.auto.index-end) in
    let all : take c.loop-index.index net.primitives ≡ net.primitives = take_all c.loop-index.index net.primitives (omega (arith, done, c.requires.counted.one_each)) in
    let every : take c.loop-index.index c.args.entries.now ≡ c.args.entries.now = take_all c.loop-index.index c.args.entries.now (omega (arith, done)) in
    let rows : c.loop-index.rows ≡ rows_of net.primitives c.args.entries.now = rw (all, every) at c.loop-index.invariant in
    subst (AreSaid net c.args.entries.now) (sym rows) (are_said net c.args.entries.now c.known.ensures.wired.lawful c.requires.counted (λ i lt. c.requires.rows i (omega (arith, lt, length-map c.args.circuit.now.primitives g.P.Primitive.behaviour))))
