use Rattle.std.proofs.Common.{arith, ◌∙◌, ◌≤◌, sym, subst, length, bytes_eq}
use Rattle.std.specs.List.{position_from}
use Rattle.reo_rules.specs.literals.Items.{HasFewNames}
use Rattle.reo_rules.proofs.literals.ItemLemmas.{found_below}
use Rattle.reo_unfold.proofs.exprs.symbol_of.Goals as goal

pub overflow_cast-result : goal.overflow_cast-result
overflow_cast-result c =
    let few : length c.in-Sym.names ≤ 1024 = subst HasFewNames c.in-Sym.is c.requires in
    let below = found_below (bytes_eq c.args.symbol.now) c.in-Sym.names 0 c.in-Some.place (sym (c.place_of.ensures ∙ (λ i. position_from (bytes_eq (c.as_slice-in-Sym.ensures i)) 0 ((c.as_slice.ensures ∙ c.get.ensures) i))) ∙ c.in-Some.is) in
    omega arith
