-- What stands behind the first place is the whole.
use Rattle.std.proofs.Common.{◌≡◌, ◌∙◌, ℕ, List, ap, subst}
use Rattle.std.specs.Prelude.{reverse}
use Rattle.std.proofs.lemmas.List.{reverse-reverse}
use Rattle.reo_trees.specs.declared.programs.Declaration.{Declaration}
use Rattle.reo_trees.specs.declared.programs_two.DeclarationTwo.{DeclarationTwo}
use Rattle.reo_trees.specs.declared.programs_two.ProgramTwo.{ProgramTwo}
use Rattle.reo_expand.specs.base.Expansion.{expanded}
use Rattle.reo_expand.specs.base.Steps.{IsExpanded}
use Rattle.reo_expand.specs.declared.programs.behind.Behind.{Behind}
use Rattle.reo_expand.specs.programs.Behind.{IsBehind}

from_first : (p : ProgramTwo) (b : Behind) (out : List Declaration) → IsBehind p.declarations 0 b → out ≡ reverse b.made → IsExpanded p (record { declarations = out })
from_first p b out behind made = record {
  count = b.walk.count;
  walked_to = behind.walked_to;
  is = ap (λ ds. record { declarations = ds }) (made ∙ ap reverse behind.made ∙ reverse-reverse (expanded p.declarations));
}

pub whole : (p : ProgramTwo) (ds : List DeclarationTwo) (place : ℕ) (b : Behind) (out : List Declaration) → ds ≡ p.declarations → place ≡ 0 → IsBehind ds place b → out ≡ reverse b.made
    → IsExpanded p (record { declarations = out })
whole p ds place b out same first behind made = from_first p b out (subst (λ l. IsBehind l 0 b) same (subst (λ n. IsBehind ds n b) first behind)) made
