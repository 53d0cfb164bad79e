use Rattle.std.proofs.Common.{◌∙◌, false, length, map, ap, sym, arith}
use Rattle.std.proofs.lemmas.List.{ext_get_or, length-map, length-replicate, length-set}
use Rattle.reo_engine.specs.Goers.{is_keeper}
use Rattle.reo_engine.proofs.Going.{one_more}
use Rattle.reo_engine.proofs.goers.Goers.new.Goals as goal

pub loop-index-init : goal.loop-index-init
loop-index-init g c = record {
  one_each = ap length c.in_ok-keepers.ensures ∙ length-replicate (length c.primitives-count.result.now) false ∙ ap length c.primitives-count.ensures;
  told = λ i lt. absurd (omega (arith, lt));
}

pub loop-index-preserved : goal.loop-index-preserved
loop-index-preserved g c = record {
  one_each = ap length c.put.ensures ∙ length-set c.loop-index.keepers c.loop-index.index c.is_keeper.result ∙ c.loop-index.invariant.one_each;
  told = one_more (is_keeper g.P.Primitive.behaviour g.P.Primitive.lasting) c.args.circuit.now.primitives c.loop-index.index c.primitive.result.now (omega (arith, ap length c.primitives-count.ensures)) c.primitive.ensures.value
      c.loop-index.keepers c.put.new.self c.loop-index.invariant.one_each c.loop-index.invariant.told (rw c.is_keeper.ensures at c.put.ensures);
}

pub returns : goal.returns
returns g c =
    let f = is_keeper g.P.Primitive.behaviour g.P.Primitive.lasting in
    let ps = c.args.circuit.now.primitives in
    let count = ap length c.primitives-count.ensures in
    record {
      keepers = ext_get_or false c.loop-index.keepers (map f ps) (c.loop-index.invariant.one_each ∙ sym (length-map ps f)) (λ i lt. c.loop-index.invariant.told i (omega (arith, lt, count, c.loop-index.invariant.one_each)));
      one_each = ap length c.in_ok-going.ensures ∙ length-replicate (length c.primitives-count.result.now) false ∙ count;
    }
