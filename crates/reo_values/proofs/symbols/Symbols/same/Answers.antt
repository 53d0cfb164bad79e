use Rattle.std.proofs.Common.{◌∙◌, ap}
use Rattle.std.specs.Prelude.{bytes_eq}
use Rattle.std.specs.List.{flat_map}
use Rattle.reo_values.specs.Quoted.{quoted}
use Rattle.reo_values.proofs.SymbolTexts.{seen_by_texts}
use Rattle.reo_values.proofs.symbols.Symbols.same.Goals as goal

pub returns : goal.returns
returns c =
    let left = c.as_slice.ensures ∙ c.self.invariant ∙ ap (flat_map quoted) c.self.view_is in
    let right = c.as_slice-2.ensures ∙ c.other.invariant ∙ ap (flat_map quoted) c.other.view_is in
    c.eq.ensures ∙ (λ i. bytes_eq (left i) (right i)) ∙ seen_by_texts c.args.self.now c.args.other.now
