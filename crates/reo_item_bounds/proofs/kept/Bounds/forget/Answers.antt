use Rattle.std.proofs.Common.{◌≡◌, ◌∙◌, ◌<◌, ℕ, None, length, get_or, arith}
use Rattle.std.proofs.lemmas.List.{length-set}
use Rattle.std.proofs.lemmas.List.Elements.{Contains-get_or}
use Rattle.reo_item_bounds.proofs.Bounded.{of_each}
use Rattle.reo_item_bounds.proofs.Noting.{forgotten, unnumbered_more}
use Rattle.reo_item_bounds.proofs.kept.Bounds.forget.Goals as goal

pub at_mut-requires : goal.at_mut-requires
at_mut-requires c =
    let lt = c.requires (get_or c.args.joints.now c.loop-index.index 0) (Contains-get_or c.args.joints.now c.loop-index.index 0 (omega arith)) in
    omega (arith, lt, c.loop-index.invariant.one_number)

pub loop-index-preserved : goal.loop-index-preserved
loop-index-preserved c =
    let joint : ℕ = get_or c.args.joints.now c.loop-index.index 0 in
    let lt : joint < length c.args.self.now.numbers = c.requires joint (Contains-get_or c.args.joints.now c.loop-index.index 0 (omega arith)) in
    let here : joint < length c.loop-index.self.numbers = omega (arith, lt, c.loop-index.invariant.one_number) in
    record {
      kept = λ net are. forgotten net c.loop-index.self (c.loop-index.invariant.kept net are) joint (omega (arith, lt, are.one_number));
      one_number = length-set c.loop-index.self.numbers joint None ∙ c.loop-index.invariant.one_number;
      none = λ m m_in. unnumbered_more c.loop-index.self.numbers c.args.joints.now c.loop-index.index m here c.loop-index.invariant.none m_in;
    }

pub returns-clause-none : goal.returns-clause-none
returns-clause-none c = of_each (λ (j : ℕ). get_or c.loop-index.self.numbers j None ≡ None) c.args.joints.now (λ m lt. c.loop-index.invariant.none m (omega arith))
