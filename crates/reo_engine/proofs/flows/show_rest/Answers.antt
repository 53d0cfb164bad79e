use Rattle.std.proofs.Common.{◌≡◌, ◌∙◌, ◌<◌, ◌+◌, ℕ, Bool, false, List, [], get_or, refl, subst, arith}
use Rattle.reo_net_base.specs.Net.{Net, net_of}
use Rattle.reo_net_laws.specs.Knots.{knot_count}
use Rattle.reo_trace.specs.declared.cells.cells.Cells.{Cells}
use Rattle.reo_trace.specs.cells.Cells.{IsShown}
use Rattle.reo_engine.specs.Flows.{AreShownAt, AreWrittenAt}
use Rattle.reo_engine.proofs.Resting.{done_more, done_none, done_over}
use Rattle.reo_engine.proofs.flows.show_rest.Goals as goal

-- A side is shown by some rows.
abbrev Shows : Net → List ℕ → Cells → ℕ → Type 0
Shows net rows cells s = IsShown net rows s cells

-- A side shows what it showed.
abbrev ShowsAs : Cells → Cells → ℕ → Type 0
ShowsAs old new s = get_or new.shown s 0 ≡ get_or old.shown s 0

-- A list has at a side what another has.
abbrev Has : List ℕ → List ℕ → ℕ → Type 0
Has list other s = get_or list s 0 ≡ get_or other s 0

pub loop-part-init : goal.loop-part-init
loop-part-init g c =
    let net : Net = net_of g.P.Primitive.behaviour c.args.circuit.now in
    let flags : List Bool = c.args.shown_parts.now in
    let cells : Cells = c.args.cells.now in
    let list : List ℕ = c.args.list.now in
    let next = c.next_clear-part.ensures in
    record {
      in_range = next.in_range;
      clear = next.here;
      cells = c.requires.cells;
      at = done_over net c.args.knots.now flags 0 c.next_clear-part.result next.none_before (Shows net c.args.rows.now cells) (ShowsAs cells cells)
          (done_none net c.args.knots.now flags (Shows net c.args.rows.now cells) (ShowsAs cells cells) (λ s. refl));
      written = record {
        one_each = refl;
        at = done_over net c.args.knots.now flags 0 c.next_clear-part.result next.none_before (Has list c.args.rows.now) (Has list list)
            (done_none net c.args.knots.now flags (Has list c.args.rows.now) (Has list list) (λ s. refl));
      };
    }

pub show_part-requires-clause-part : goal.show_part-requires-clause-part
show_part-requires-clause-part g c = omega (arith, c.requires.one_each)

pub show_part-requires-clause-one_row : goal.show_part-requires-clause-one_row
show_part-requires-clause-one_row g c = c.loop-part.invariant.written.one_each ∙ c.requires.one_row

pub loop-part-preserved : goal.loop-part-preserved
loop-part-preserved g c =
    let net : Net = net_of g.P.Primitive.behaviour c.args.circuit.now in
    let rows : List ℕ = c.args.rows.now in
    let flags : List Bool = c.args.shown_parts.now in
    let part : ℕ = c.loop-part.part in
    let part_in : part < knot_count c.args.knots.now = omega (arith, c.requires.one_each) in
    let clear : get_or flags part false ≡ false = c.loop-part.invariant.clear (omega arith) in
    let sides : List ℕ = get_or c.args.knots.now.sides part [] in
    let brought = c.show_part.ensures.brought in
    let written = c.show_part.ensures.written in
    let next = c.next_clear-part-in-loop-part.ensures in
    record {
      in_range = next.in_range;
      clear = next.here;
      cells = c.show_part.ensures.cells;
      at = done_over net c.args.knots.now flags (part + 1) c.next_clear-part-in-loop-part.result next.none_before
          (Shows net rows c.show_part.new.cells) (ShowsAs c.args.cells.now c.show_part.new.cells)
          (done_more net c.args.knots.now c.requires.knots flags part part_in clear sides refl
          (Shows net rows c.loop-part.cells) (ShowsAs c.args.cells.now c.loop-part.cells) (Shows net rows c.show_part.new.cells) (ShowsAs c.args.cells.now c.show_part.new.cells)
          c.loop-part.invariant.at brought.brought brought.stay (λ s not h. brought.others s not ∙ h));
      written = record {
        one_each = written.one_each ∙ c.loop-part.invariant.written.one_each;
        at = done_over net c.args.knots.now flags (part + 1) c.next_clear-part-in-loop-part.result next.none_before
            (Has c.show_part.new.list rows) (Has c.show_part.new.list c.args.list.now)
            (done_more net c.args.knots.now c.requires.knots flags part part_in clear sides refl
            (Has c.loop-part.list rows) (Has c.loop-part.list c.args.list.now) (Has c.show_part.new.list rows) (Has c.show_part.new.list c.args.list.now)
            c.loop-part.invariant.written.at written.brought written.stay (λ s not h. written.others s not ∙ h));
      };
    }

pub returns-clause-written : goal.returns-clause-written
returns-clause-written g c =
    let net : Net = net_of g.P.Primitive.behaviour c.args.circuit.now in
    let last : c.loop-part.part ≡ knot_count c.args.knots.now = omega (arith, c.loop-part.invariant.in_range, c.requires.one_each) in
    subst (λ (n : ℕ). AreWrittenAt net c.args.knots.now c.args.rows.now c.args.shown_parts.now n c.args.list.now c.loop-part.list) last c.loop-part.invariant.written

pub returns-clause-shown : goal.returns-clause-shown
returns-clause-shown g c =
    let net : Net = net_of g.P.Primitive.behaviour c.args.circuit.now in
    let last : c.loop-part.part ≡ knot_count c.args.knots.now = omega (arith, c.loop-part.invariant.in_range, c.requires.one_each) in
    subst (λ (n : ℕ). AreShownAt net c.args.knots.now c.args.rows.now c.args.shown_parts.now n c.args.cells.now c.loop-part.cells) last c.loop-part.invariant.at
