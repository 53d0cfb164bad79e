-- A type that is not declared hides its symbol.
use Rattle.std.proofs.Common.{[], ◌∷◌, Bool, true, false, not, cond, inl, inr, List, subst}
use Rattle.reo_rules.specs.declared.fault.FlatFault.{FlatFault}
use Rattle.reo_rules.specs.declared.fault.FlatFault.TheVariants as faults
use Rattle.reo_rules.specs.Lists.{has_name, where_true}
use Rattle.reo_rules.specs.Types.{type_named}
use Rattle.reo_rules.specs.Unknown.{lacking}
use Rattle.reo_rules.specs.Judged.{IsFirst}
use Rattle.reo_rules_names.proofs.AfterLemmas.{judged_err}
use Rattle.reo_rules_names.proofs.unknown.symbol_unknown.Goals as goal

first_missing : (b : Bool) (f e : FlatFault) (rest : List FlatFault) → IsFirst (where_true (not b) f) e → IsFirst (cond b rest (f ∷ [])) e
first_missing true f e rest (inl memory) = inl memory
first_missing true f e rest (inr is) = absurd (cc)
first_missing false f e rest is = is

pub returns-in_err-one_of : goal.returns-in_err-one_of
returns-in_err-one_of c known are =
    let line = c.args.line in
    let type = c.args.of.now in
    let rest = lacking (type_named known type) line c.args.symbol.now in
    let fault = c.in_err-one_of.field-0.0 in
    judged_err c.from_residual.result fault _ c.from_residual.ensures
    (subst (λ b. IsFirst (cond b rest (faults.Unknown line type ∷ [])) fault) (are.names type)
    (first_missing (has_name c.args.types.now.names type) (faults.Unknown line type) fault rest c.in_err-one_of.ensures))
