use Rattle.std.proofs.Common.{◌≡◌, ◌∙◌, ◌<◌, ◌≤◌, ℕ, sym, refl, arith, length, get_or}
use Rattle.std.proofs.lemmas.List.{get_or_read}
use Rattle.std.proofs.lemmas.Result.{on_ok_weaker}
use Rattle.reo_trace.specs.cells.Texts.{befores}
use Rattle.reo_trace.proofs.cells.Kept.{written-rest, written-run}
use Rattle.reo_trace.proofs.cells.Laid.{befores-length}
use Rattle.reo_trace.proofs.cells.cells.Cells.append_runs.Goals as goal

pub loop-place-preserved : goal.loop-place-preserved
loop-place-preserved c =
    let now = c.args.self.now in
    let from : ℕ = c.loop-place.from in
    let place : ℕ = c.loop-place.place in
    let lt : place < length now.shown = omega arith in
    let next = c.next_wide-place-in-loop-place.ensures in
    let on = next.from_on in
    let code : c.at.result.now ≡ get_or now.shown place 0 = get_or_read now.shown place c.at.result.now lt c.at.ensures 0 in
    record {
      from = omega (arith, on, lt);
      next = next;
      text = λ net are.
          written-run (befores net) now.shown from (befores-length net ∙ sym are.one_each) place c.at.result.now c.as_slice-kept.result.now c.args.text.now c.loop-place.text _ c.append.new.self c.append_code.new.text
          (c.as_slice-kept.ensures ∙ are.bytes) c.loop-place.invariant.from lt c.loop-place.invariant.next.narrow_before (c.loop-place.invariant.text net are) refl c.in_ok-append.ensures.ok code c.in_ok-append_code.ensures;
    }

pub returns : goal.returns
returns c = λ net are.
    let now = c.args.self.now in
    let end : length now.shown ≤ c.loop-place.place = omega arith in
    on_ok_weaker c.append-2.result
    (λ e. written-rest (befores net) now.shown c.loop-place.from (befores-length net ∙ sym are.one_each) c.loop-place.place c.as_slice-kept.result.now c.args.text.now c.loop-place.text _ c.append-2.new.self
    (c.as_slice-kept.ensures ∙ are.bytes) end c.loop-place.invariant.next.narrow_before (c.loop-place.invariant.text net are) refl e)
    c.append-2.ensures.ok
