-- One primitive more.
use Rattle.std.proofs.Common.{arith, ◌≡◌, ◌≤◌, ◌∙◌, ◌++◌, ◌<◌, true, false, length, get_or, sym, subst}
use Rattle.std.proofs.lemmas.List.{take_all}
use Rattle.reo_kinds.specs.Kinds.{behaviour_of}
use Rattle.reo_flat.specs.Unfolding.{Placed}
use Rattle.reo_flat.specs.Ends.{ends_in}
use Rattle.reo_flatten.specs.NodeEnds.{placed_with, name_at, AreEnds}
use Rattle.reo_flatten.proofs.EndLemmas.{ends_from-more, placed_is, many_placed}
use Rattle.reo_flatten.proofs.ends.ends_at_nodes.Goals as goal

pub loop-primitive-preserved : goal.loop-primitive-preserved
loop-primitive-preserved c =
    let names = c.args.names.now in
    let placed = placed_with c.args.kinds.now c.args.ends.now in
    let i = c.loop-primitive.primitive in
    let k = c.index-kinds-primitive.result in
    let e = c.index-ends-primitive.result in
    let p : Placed = record { kind = k; nodes = e } in
    let inv = c.loop-primitive.invariant in
    let more = c.in_ok-add_all.ensures in
    let many = many_placed c.args.kinds.now c.args.ends.now c.requires.even in
    let test = c.loop-primitive-test.true in
    let within : i < length placed = omega arith in
    let at : p ≡ get_or placed i p = placed_is c.args.kinds.now c.args.ends.now i k e c.requires.even test c.index-kinds-primitive.is c.index-ends-primitive.is p in
    record {
      many_ins = more.ins.0 ∙ inv.many_ins;
      many_outs = more.outs.0 ∙ inv.many_outs;
      ins = λ n d here. more.ins.1 n d here ∙ (λ j. inv.ins n d here j ++ ends_in (behaviour_of k) false (name_at names n) i 0 (c.as_slice.ensures j)) ∙ sym (ends_from-more false (name_at names n) placed i p within at);
      outs = λ n d here. more.outs.1 n d here ∙ (λ j. inv.outs n d here j ++ ends_in (behaviour_of k) true (name_at names n) i 0 (c.as_slice.ensures j)) ∙ sym (ends_from-more true (name_at names n) placed i p within at);
    }

pub returns : goal.returns
returns c =
    let placed = placed_with c.args.kinds.now c.args.ends.now in
    let many = many_placed c.args.kinds.now c.args.ends.now c.requires.even in
    let test = c.loop-primitive-test.false in
    let late : length placed ≤ c.loop-primitive.primitive = omega arith in
    subst (λ ps. AreEnds c.args.names.now ps c.loop-primitive.made) (take_all c.loop-primitive.primitive placed late) c.loop-primitive.invariant
