-- No type has two numbers.
use Rattle.std.proofs.Common.{arith, ◌≡◌, ◌∙◌, ℕ, List, true, ◌==◌, sym, ap, subst, slice_get, Some}
use Rattle.std.specs.Cmp.{both_ways}
use Rattle.reo_values.specs.declared.kindred.Kindred.{Kindred}
use Rattle.reo_rules.specs.Types.{is_same}
use Rattle.reo_rules.proofs.Same.{same_types}
use Rattle.std.proofs.lemmas.Option.{same_Some}
use Rattle.reo_rules_types.proofs.Same.{same_self}
use Rattle.reo_rules_types.proofs.types.TypeStore.alike.Goals as goal

told : (a b : ℕ) → (a == b) ≡ true → a ≡ b
told a b e = grind arith

same : (a b : ℕ) → a ≡ b → (a == b) ≡ true
same a b e = grind arith

by_number : (types : List Kindred) (once : (m n : ℕ) (k : Kindred) → slice_get types m ≡ Some k → slice_get types n ≡ Some k → m ≡ n) (a b : ℕ) (k l : Kindred) → slice_get types a ≡ Some k → slice_get types b ≡ Some l
    → (a == b) ≡ is_same k l
by_number types once a b k l p q =
    both_ways (a == b) (is_same k l)
    (λ e. ap (is_same k) (sym (same_Some k l (sym p ∙ ap (slice_get types) (told a b e) ∙ q))) ∙ same_self k)
    (λ e. same a b (once a b l (p ∙ ap Some (same_types k l e)) q))

pub returns : goal.returns
returns c k l p q =
    let once = subst (λ (types : List Kindred). (m n : ℕ) (k : Kindred) → slice_get types m ≡ Some k → slice_get types n ≡ Some k → m ≡ n) c.self.view_is c.self.invariant.once in
    by_number c.args.self.now once c.args.a c.args.b k l p q
