use Rattle.std.proofs.Common.{◌≡◌, ◌∙◌, ℕ, Some, get_or, length, ap, sym, arith, below_more, refl}
use Rattle.std.specs.Prelude.{slice_get}
use Rattle.std.proofs.lemmas.List.{length-map}
use Rattle.std.proofs.lemmas.Option.{slice_get-get_or, slice_get_within, get_or_from_slice_get}
use Rattle.reo_net_base.specs.Net.{Net, net_of, behaviour_at}
use Rattle.reo_trace.specs.declared.line.Cell.TheVariants.{Row}
use Rattle.reo_trace.specs.declared.line.Entry.{Entry}
use Rattle.reo_trace.specs.declared.line.Entry.TheVariants.{One}
use Rattle.reo_runs.specs.verdicts.Said.{cells_of}
use Rattle.reo_verify.proofs.judging.rows.are_counted.Goals as goal

pub returns-then-entries-primitives : goal.returns-then-entries-primitives
returns-then-entries-primitives g c = (λ h. absurd (cc), λ counted. absurd (c.if-entries-primitives.true (counted.one_each ∙ length-map c.args.circuit.now.primitives g.P.Primitive.behaviour ∙ ap length (sym c.primitives.ensures))))

pub returns-then-cell_count-sides : goal.returns-then-cell_count-sides
returns-then-cell_count-sides g c = (
  λ h. absurd (cc),
  λ counted.
      let lt = c.loop-index-test.true in
      let here = counted.cells c.loop-index.index (get_or c.args.entries.now c.loop-index.index (One (Row 0))) (slice_get-get_or c.args.entries.now c.loop-index.index (One (Row 0)) (omega (arith, lt))) in
      absurd (c.if-cell_count-sides.true (c.cell_count.ensures ∙ here ∙ sym (rw c.primitive.ensures.behaviour at c.sides.ensures))),
)

pub loop-index-preserved : goal.loop-index-preserved
loop-index-preserved g c = λ i lt.
    let net : Net = net_of g.P.Primitive.behaviour c.args.circuit.now in
    let counts : ℕ → Type 0 = λ k. (e : Entry) → slice_get c.args.entries.now k ≡ Some e → length (cells_of e) ≡ (behaviour_at net.primitives k).sides in
    let here : counts c.loop-index.index = λ e is.
    let same : get_or c.args.entries.now c.loop-index.index (One (Row 0)) ≡ e = get_or_from_slice_get c.args.entries.now c.loop-index.index e (One (Row 0)) is in
    ap (λ (e : Entry). length (cells_of e)) (sym same) ∙ sym c.cell_count.ensures ∙ c.if-cell_count-sides.false ∙ rw c.primitive.ensures.behaviour at c.sides.ensures in
    below_more counts c.loop-index.index c.loop-index.invariant here i lt

pub returns : goal.returns
returns g c = (
  λ h. record {
    one_each = c.if-entries-primitives.false ∙ ap length c.primitives.ensures ∙ sym (length-map c.args.circuit.now.primitives g.P.Primitive.behaviour);
    cells = λ i e is. c.loop-index.invariant i (let within = slice_get_within c.args.entries.now i e is in omega (arith, within)) e is;
  },
  λ counted. refl,
)
