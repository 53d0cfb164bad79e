use Rattle.std.proofs.Common.{ℕ, ◌<◌, List, [], length, map, arith, ◌∙◌, sym, below_more}
use Rattle.std.proofs.lemmas.List.{get_or_default}
use Rattle.reo_net_base.specs.Behaviour.{Behaviour}
use Rattle.reo_net_base.specs.Net.{net_of, behaviour_at, end_of}
use Rattle.reo_net_circuit.specs.Parts.{wiring_of}
use Rattle.reo_net_circuit.specs.Fault.{IsBound}
use Rattle.reo_net_circuit.proofs.CountLemmas.{joined_of_count, count_of_joined}
use Rattle.reo_net_circuit.proofs.ends.ends_fault.Goals as goal

pub loop-index-preserved : goal.loop-index-preserved
loop-index-preserved g c =
    let bs : List Behaviour = map g.P.Primitive.behaviour c.args.primitives.now in
    let are = c.in_ok-counts.ensures in
    let i : ℕ = c.loop-index.index in
    let in_counts : i < length c.in_ok-counts.counts.items = omega arith in
    let row = c.as_slice.ensures ∙ c.index.ensures ∙ get_or_default c.in_ok-counts.counts.items i c.index.result.now [] in_counts in
    let i_in : i < length bs = omega (arith, are.rows) in
    let ones = rw row at c.in_default.ensures in
    below_more (λ (k : ℕ). IsBound (net_of g.P.Primitive.behaviour (wiring_of c.args.primitives.now 0 c.args.joints.now)) k) i c.loop-index.invariant
    (λ end lt. joined_of_count c.args.joints.now (end_of i end) (sym (are.counted i end i_in lt) ∙ ones end (omega (arith, lt, are.row_length i i_in))))

pub returns : goal.returns
returns g c =
    let bs : List Behaviour = map g.P.Primitive.behaviour c.args.primitives.now in
    λ i lt. c.loop-index.invariant i (omega (arith, c.in_ok-counts.ensures.rows))

pub returns-in-Some : goal.returns-in-Some
returns-in-Some g c =
    let bs : List Behaviour = map g.P.Primitive.behaviour c.args.primitives.now in
    let are = c.in_ok-counts.ensures in
    let i : ℕ = c.loop-index.index in
    let in_counts : i < length c.in_ok-counts.counts.items = omega arith in
    let row = c.as_slice.ensures ∙ c.index.ensures ∙ get_or_default c.in_ok-counts.counts.items i c.index.result.now [] in_counts in
    let i_in : i < length bs = omega (arith, are.rows) in
    let loose = rw row at c.in-Some.ensures in
    let end : ℕ = c.in-Some.field-0 in
    let end_in : end < (behaviour_at bs i).ends = omega (arith, loose.0, are.row_length i i_in) in
    record {
      in_range = i_in;
      loose = record { end = end; is_end = end_in; not_joined = λ one. loose.1 (are.counted i end i_in end_in ∙ count_of_joined c.args.joints.now (end_of i end) one) };
      before = c.loop-index.invariant;
    }
