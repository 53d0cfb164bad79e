use Rattle.std.proofs.Common.{◌≡◌, ◌∙◌, inl, inr, ℕ, ◌+◌, ◌<◌, Bool, false, List, sym, ap, subst, arith, length, get_or, set, get_or-set_other, ◌≢◌}
use Rattle.std.proofs.lemmas.Bool.{cases_eq}
use Rattle.std.proofs.lemmas.List.{length-map}
use Rattle.reo_net_base.specs.Behaviour.{Behaviour}
use Rattle.reo_net_base.specs.Net.{Net, net_of, all_sides, behaviour_at, first_side}
use Rattle.reo_net_laws.proofs.Sides.{side_in}
use Rattle.reo_net_laws.specs.Knots.{Knotted}
use Rattle.reo_planning.specs.Unsettling.{part_at}
use Rattle.reo_planning.proofs.Setting.{fewer_more, fewer_none, clear_still, cleared_here}
use Rattle.reo_planning.proofs.kept.Kept.unsettle.Goals as goal

-- The side is one of the circuit.
side_below : (net : Net) (primitive side first sides : ℕ) → primitive < length net.primitives → side < sides → sides ≡ (behaviour_at net.primitives primitive).sides → first ≡ first_side net.primitives primitive
    → first + side < length (all_sides net.primitives)
side_below net primitive side first sides lt below same is =
    let here = side_in net.primitives primitive side lt (omega (arith, same)) in
    omega (arith, here, is)

-- One part more is not settled.
unsettled_more : (net : Net) (knots : Knotted) (primitive n part : ℕ) (flags : List Bool) → part ≡ part_at net knots primitive n → part < length flags
    → ((side : ℕ) → side < n → get_or flags (part_at net knots primitive side) false ≡ false)
    → (side : ℕ) → side < n + 1 → get_or (set flags part false) (part_at net knots primitive side) false ≡ false
unsettled_more net knots primitive n part flags is lt gone side below = elim (cases_eq side n) [
  | inl e ↦ subst (λ (k : ℕ). get_or (set flags part false) k false ≡ false) (is ∙ ap (part_at net knots primitive) (sym e)) (cleared_here flags part lt)
  | inr ne ↦ clear_still flags part (part_at net knots primitive side) (gone side (omega arith))
]

pub overflow_add-first : goal.overflow_add-first
overflow_add-first g c =
    let net : Net = net_of g.P.Primitive.behaviour c.args.circuit.now in
    let count : length net.primitives ≡ length c.args.circuit.now.primitives = length-map c.args.circuit.now.primitives g.P.Primitive.behaviour in
    let same = c.sides-side-end.ensures ∙ ap (λ (b : Behaviour). b.sides) c.primitive.ensures.behaviour in
    let lt = side_below net c.args.primitive c.loop-side.side c.first_of-first.result c.sides-side-end.result (omega arith) c.loop-side-test.true same c.first_of-first.ensures in
    omega (arith, lt, c.sides-count.ensures)

pub knot_of-requires : goal.knot_of-requires
knot_of-requires g c =
    let net : Net = net_of g.P.Primitive.behaviour c.args.circuit.now in
    let count : length net.primitives ≡ length c.args.circuit.now.primitives = length-map c.args.circuit.now.primitives g.P.Primitive.behaviour in
    let same = c.sides-side-end.ensures ∙ ap (λ (b : Behaviour). b.sides) c.primitive.ensures.behaviour in
    let lt = side_below net c.args.primitive c.loop-side.side c.first_of-first.result c.sides-side-end.result (omega arith) c.loop-side-test.true same c.first_of-first.ensures in
    omega (arith, lt, c.requires.knots.numbered.one_each)

pub put-requires : goal.put-requires
put-requires g c =
    let net : Net = net_of g.P.Primitive.behaviour c.args.circuit.now in
    let count : length net.primitives ≡ length c.args.circuit.now.primitives = length-map c.args.circuit.now.primitives g.P.Primitive.behaviour in
    let same = c.sides-side-end.ensures ∙ ap (λ (b : Behaviour). b.sides) c.primitive.ensures.behaviour in
    let lt = side_below net c.args.primitive c.loop-side.side c.first_of-first.result c.sides-side-end.result (omega arith) c.loop-side-test.true same c.first_of-first.ensures in
    let below = c.requires.knots.numbered.in_range (c.first_of-first.result + c.loop-side.side) lt in
    omega (arith, below, c.knot_of.ensures, c.requires.one_each, c.loop-side.invariant.fewer.one_each)

pub loop-side-init : goal.loop-side-init
loop-side-init g c = record { fewer = fewer_none c.args.self.now; gone = λ side lt. absurd (omega arith); stay = λ k apart h. h }

pub loop-side-preserved : goal.loop-side-preserved
loop-side-preserved g c =
    let net : Net = net_of g.P.Primitive.behaviour c.args.circuit.now in
    let count : length net.primitives ≡ length c.args.circuit.now.primitives = length-map c.args.circuit.now.primitives g.P.Primitive.behaviour in
    let same = c.sides-side-end.ensures ∙ ap (λ (b : Behaviour). b.sides) c.primitive.ensures.behaviour in
    let lt = side_below net c.args.primitive c.loop-side.side c.first_of-first.result c.sides-side-end.result (omega arith) c.loop-side-test.true same c.first_of-first.ensures in
    let below = c.requires.knots.numbered.in_range (c.first_of-first.result + c.loop-side.side) lt in
    let place : c.knot_of.result ≡ part_at net c.args.knots.now c.args.primitive c.loop-side.side = c.knot_of.ensures ∙ ap (λ (first : ℕ). get_or c.args.knots.now.numbers (first + c.loop-side.side) 0) c.first_of-first.ensures in
    let put_in : c.knot_of.result < length c.loop-side.self.settled = omega (arith, below, c.knot_of.ensures, c.requires.one_each, c.loop-side.invariant.fewer.one_each) in
    let flag : (k : ℕ) → get_or c.put.new.self k false ≡ get_or (set c.loop-side.self.settled c.knot_of.result false) k false = λ k. ap (λ (flags : List Bool). get_or flags k false) c.put.ensures in
    record {
      fewer = fewer_more c.args.self.now c.loop-side.self c.knot_of.result c.loop-side.invariant.fewer c.put.new.self c.put.ensures;
      gone = λ side side_in.
          flag (part_at net c.args.knots.now c.args.primitive side)
          ∙ unsettled_more net c.args.knots.now c.args.primitive c.loop-side.side c.knot_of.result c.loop-side.self.settled place put_in c.loop-side.invariant.gone side side_in;
      stay = λ k apart h.
          let other : k ≢ c.knot_of.result = λ e. apart c.loop-side.side (omega arith) (sym place ∙ sym e) in
          flag k ∙ get_or-set_other c.loop-side.self.settled c.knot_of.result k false false other ∙ c.loop-side.invariant.stay k (λ side lt_side. apart side (omega arith)) h;
    }
