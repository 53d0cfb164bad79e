use Rattle.std.proofs.Common.{◌≡◌, ◌∙◌, ◌+◌, ◌*◌, ◌<◌, ℕ, Bool, List, ap, refl, arith, sym, subst, get_or, set, cond, length}
use Rattle.std.proofs.lemmas.List.{get_or_read, length-set}
use Rattle.std.proofs.lemmas.List.Sums.{count_by-le-length}
use Rattle.reo_net_base.specs.Net.{Net}
use Rattle.reo_trace.specs.cells.Cells.{AreCells}
use Rattle.reo_trace.specs.declared.cells.cells.Cells.{Cells}
use Rattle.reo_trace.specs.cells.Texts.{befores, cell_byte, is_wide}
use Rattle.reo_trace.proofs.cells.Kept.{digit_byte, kept-set, narrow_below, wide-set}
use Rattle.reo_trace.proofs.cells.Laid.{bytes-length}
use Rattle.reo_trace.proofs.cells.cells.Cells.show.Goals as goal

-- Cells stay right where a code and its byte are put at a side, and the wide ones are counted as they are then.
patched : (net : Net) (old : Cells) (side was code byte wide : ℕ) → side < length old.shown → was ≡ get_or old.shown side 0 → byte ≡ cell_byte code
    → wide + cond (is_wide was) 1 0 ≡ old.wide + cond (is_wide code) 1 0 → AreCells net old
    → AreCells net (record { shown = set old.shown side code; text = set old.text (2 * side + 1) byte; wide = wide })
patched net old side was code byte wide lt read byte_is counted are =
    let goes : cond {A = ℕ} (is_wide was) 1 0 ≡ cond {A = ℕ} (is_wide (get_or old.shown side 0)) 1 0 = ap (λ (n : ℕ). cond {A = ℕ} (is_wide n) 1 0) read in
    let more = wide-set old.shown side code lt in
    record {
      one_each = length-set old.shown side code ∙ are.one_each;
      bytes = ap (λ (b : ℕ). set old.text (2 * side + 1) b) byte_is ∙ ap (λ (xs : List ℕ). set xs (2 * side + 1) (cell_byte code)) are.bytes
          ∙ kept-set (befores net) old.shown side (2 * side + 1) code (omega arith);
      counted = omega (arith, more, goes, are.counted, counted);
    }

pub put-requires-clause-place : goal.put-requires-clause-place
put-requires-clause-place c = omega (arith, bytes-length c.requires.cells.0 c.args.self.now c.requires.cells.1, c.requires.side)

pub returns-then-was-lt10-clause-cells : goal.returns-then-was-lt10-clause-cells
returns-then-was-lt10-clause-cells c = λ net are.
    let now : Cells = c.args.self.now in
    let narrow : is_wide c.args.code ≡ is_wide c.at-was.result.now = narrow_below c.args.code c.if-code-lt10.true ∙ sym (narrow_below c.at-was.result.now c.if-was-lt10.true) in
    subst (AreCells net) (sym c.put.ensures)
    (patched net now c.args.side c.at-was.result.now c.args.code (48 + c.args.code) now.wide c.requires.side
    (get_or_read now.shown c.args.side c.at-was.result.now c.requires.side c.at-was.ensures 0)
    (digit_byte c.args.code c.if-code-lt10.true) (ap (λ (b : Bool). now.wide + cond {A = ℕ} b 1 0) (sym narrow)) are)

pub recount-requires-clause-few : goal.recount-requires-clause-few
recount-requires-clause-few c =
    let now = c.args.self.now in
    let are = c.requires.cells.1 in
    omega (arith, bytes-length c.requires.cells.0 now are, c.len-bytes.ensures, c.len-bytes.type_inv, are.counted, count_by-le-length is_wide now.shown)

pub put-requires-2-clause-place : goal.put-requires-2-clause-place
put-requires-2-clause-place c = rw c.recount.ensures.stays (omega (arith, bytes-length c.requires.cells.0 c.args.self.now c.requires.cells.1, c.requires.side))

pub returns-clause-cells : goal.returns-clause-cells
returns-clause-cells c = λ net are.
    let now : Cells = c.args.self.now in
    let put : c.put-2.new.self ≡ record { shown = set now.shown c.args.side c.args.code; text = set now.text (2 * c.args.side + 1) c.byte_of.result; wide = c.recount.new.self.wide } =
    c.put-2.ensures ∙ ap (λ (x : Cells). record { shown = set x.shown c.args.side c.args.code; text = set x.text (2 * c.args.side + 1) c.byte_of.result; wide = x.wide }) c.recount.ensures.stays in
    subst (AreCells net) (sym put)
    (patched net now c.args.side c.at-was.result.now c.args.code c.byte_of.result c.recount.new.self.wide c.requires.side
    (get_or_read now.shown c.args.side c.at-was.result.now c.requires.side c.at-was.ensures 0)
    c.byte_of.ensures c.recount.ensures.counted are)
