use Rattle.std.proofs.Common.{◌≡◌, inl, ℕ, ◌<◌, true, false, get_or, refl, sym, ◌∙◌, subst, arith, below_more}
use Rattle.reo_net_base.specs.Net.{Net, net_of}
use Rattle.reo_net_base.specs.Sides.{side_count}
use Rattle.reo_joint_values.specs.Values.{giver_side}
use Rattle.reo_joint_values.proofs.Inside.{at_inside}
use Rattle.reo_side_tables.specs.declared.board.Board.{Board}
use Rattle.reo_side_tables.specs.Listing.{Lists}
use Rattle.reo_side_tables.specs.Marks.{IsJointOf}
use Rattle.reo_propagate.specs.Queues.{among}
use Rattle.reo_propagate.proofs.Among.{among_at, among_stands}
use Rattle.reo_reach.specs.Supplied.{is_wide}
use Rattle.reo_search.proofs.widths.has_wide.Goals as goal

pub at-requires : goal.at-requires
at-requires g c =
    let net : Net = net_of g.P.Primitive.behaviour c.args.circuit.now in
    let side : ℕ = get_or c.args.sides.now c.loop-side.side-index 0 in
    let is_in : among c.args.sides.now side ≡ true = among_at c.args.sides.now c.loop-side.side-index c.loop-side-test.true in
    let lt : side < side_count net = c.requires.sides side is_in in
    omega (arith, lt, c.requires.boards.one_each)

pub some_wide-requires : goal.some_wide-requires
some_wide-requires g c =
    let net : Net = net_of g.P.Primitive.behaviour c.args.circuit.now in
    let side : ℕ = get_or c.args.sides.now c.loop-side.side-index 0 in
    let is_in : among c.args.sides.now side ≡ true = among_at c.args.sides.now c.loop-side.side-index c.loop-side-test.true in
    let lt : side < side_count net = c.requires.sides side is_in in
    let board : c.at.result.now ≡ get_or c.args.boards.now side c.at.result.now = c.at.ensures in
    let all : Lists (IsJointOf net side) c.as_slice.result.now =
    subst (Lists (IsJointOf net side)) (sym c.as_slice.ensures) (subst (λ (b : Board). Lists (IsJointOf net side) b.joints) (sym board) (c.requires.boards.each side c.at.result.now lt).joints) in
    λ m m_lt. let of = (all.sound m m_lt).in_range in omega (arith, of, c.requires.items)

pub returns-then-some_wide : goal.returns-then-some_wide
returns-then-some_wide g c =
    let net : Net = net_of g.P.Primitive.behaviour c.args.circuit.now in
    let side : ℕ = get_or c.args.sides.now c.loop-side.side-index 0 in
    let is_in : among c.args.sides.now side ≡ true = among_at c.args.sides.now c.loop-side.side-index c.loop-side-test.true in
    let lt : side < side_count net = c.requires.sides side is_in in
    let board : c.at.result.now ≡ get_or c.args.boards.now side c.at.result.now = c.at.ensures in
    let all : Lists (IsJointOf net side) c.as_slice.result.now =
    subst (Lists (IsJointOf net side)) (sym c.as_slice.ensures) (subst (λ (b : Board). Lists (IsJointOf net side) b.joints) (sym board) (c.requires.boards.each side c.at.result.now lt).joints) in (
      λ t.
          let found = c.some_wide.ensures.0 c.if-some_wide.true in
          let j : ℕ = get_or c.as_slice.result.now found.0 0 in
          let of = all.sound found.0 found.1 in
          (j, (of.in_range, at_inside net (among c.args.sides.now) c.requires.closed j side (giver_side net j) of.in_range of.here (inl refl) is_in), found.2),
      λ e. refl,
    )

pub loop-side-preserved : goal.loop-side-preserved
loop-side-preserved g c =
    let net : Net = net_of g.P.Primitive.behaviour c.args.circuit.now in
    let side : ℕ = get_or c.args.sides.now c.loop-side.side-index 0 in
    let is_in : among c.args.sides.now side ≡ true = among_at c.args.sides.now c.loop-side.side-index c.loop-side-test.true in
    let lt : side < side_count net = c.requires.sides side is_in in
    let board : c.at.result.now ≡ get_or c.args.boards.now side c.at.result.now = c.at.ensures in
    let all : Lists (IsJointOf net side) c.as_slice.result.now =
    subst (Lists (IsJointOf net side)) (sym c.as_slice.ensures) (subst (λ (b : Board). Lists (IsJointOf net side) b.joints) (sym board) (c.requires.boards.each side c.at.result.now lt).joints) in
    λ m j m_lt.
    below_more (λ k. IsJointOf net (get_or c.args.sides.now k 0) j → is_wide c.args.supply.now j ≡ true → ⊥) c.loop-side.side-index
    (λ k k_lt of wide. c.loop-side.invariant k j k_lt of wide)
    (λ of wide.
    let there = all.whole j of in
    let again : is_wide c.args.supply.now (get_or c.as_slice.result.now there.0 0) ≡ true = subst (λ (k : ℕ). is_wide c.args.supply.now k ≡ true) (sym there.2) wide in
    let no : c.some_wide.result ≡ true = c.some_wide.ensures.1 (there.0, there.1, again) in
    let wrong : true ≡ false = sym no ∙ c.if-some_wide.false in
    cc)
    m m_lt

pub returns : goal.returns
returns g c =
    let net : Net = net_of g.P.Primitive.behaviour c.args.circuit.now in (
      λ t. cc t,
      λ e.
          let stands = among_stands c.args.sides.now (giver_side net e.0) e.1.1 in
          absurd (c.loop-side.invariant stands.0 e.0 (omega (arith, stands.1, c.loop-side-test.false)) (record { in_range = e.1.0; here = inl (sym stands.2) }) e.2),
    )
