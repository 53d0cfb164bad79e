-- What a lifted form derives, where rules derive alike.
use Rattle.std.proofs.Common.{sym, subst}
use Rattle.reo_script.specs.scripts.Alike.{within_alike}
use Rattle.reo_script.proofs.scripts.laws.circuits_say_alike.Goals as goal

pub returns : goal.returns
returns c = λ k r ts x. (subst (λ D. D ts x) (within_alike k r), subst (λ D. D ts x) (sym (within_alike k r)))
