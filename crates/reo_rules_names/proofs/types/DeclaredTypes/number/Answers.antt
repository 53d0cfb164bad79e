-- A sym type has a new set; a pair has none.
use Rattle.std.proofs.Common.{◌∙◌, Some, sym, ap, subst}
use Rattle.reo_rules.specs.Types.{resolved}
use Rattle.reo_rules.specs.Unknown.{lacking}
use Rattle.reo_rules_names.specs.SameNames.{SameNames}
use Rattle.reo_rules_names.specs.Symbols.{IsSetOf}
use Rattle.reo_rules_names.proofs.SymbolLemmas.{types_kept, new_set, pair_lacks}
use Rattle.reo_rules_names.proofs.types.DeclaredTypes.number.Goals as goal

pub returns-in_ok-push-in-Sym : goal.returns-in_ok-push-in-Sym
returns-in_ok-push-in-Sym c known are =
    let t = c.args.self.now in
    let set = c.in_ok-set-in-Sym.set in
    let pushed = c.in_ok-push-in-Sym.ensures.ok in
    let same = subst (λ ns. SameNames set ns) (c.as_slice.ensures ∙ c.get.ensures) c.in_ok-set-in-Sym.ensures in (
      types_kept known t set c.push.new.self pushed are,
      subst (λ k. IsSetOf c.push.new.self (Some c.len-number.result) k) (ap (resolved known) (sym c.in-Sym.is)) (new_set t.sets c.push.new.self set c.in-Sym.symbols c.len-number.result pushed c.len-number.ensures same),
    )

pub returns-in-Pair : goal.returns-in-Pair
returns-in-Pair c known are = (are, λ line s. ap (λ x. lacking (resolved known x) line s) c.in-Pair.is ∙ pair_lacks known c.in-Pair.field-0 line s)
