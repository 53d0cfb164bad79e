-- Kinds of operators, by number.
use Rattle.std.proofs.Common.{◌≡◌, ◌∙◌, ◌⊎◌, inl, inr, subst, ℕ, ◌<◌, List, length, Bool, true, false, ◌&&◌, Option, None, Some, refl, sym, ap, slice_get}
use Rattle.std.specs.Cmp.{both_ways}
use Rattle.std.specs.Prelude.{option_map, option_and_then, if◌then◌else◌}
use Rattle.reo_values.specs.declared.kindred.Kindred.{Kindred}
use Rattle.reo_values.specs.declared.kindred.Kindred.TheVariants as kinds
use Rattle.reo_exprs.specs.declared.expr.Expr.{Expr}
use Rattle.reo_exprs.specs.Kinds.{kind_of, joins, is_bool}
use Rattle.reo_values.specs.declared.operator.Binary.TheVariants as binary
use Rattle.reo_values.specs.declared.operator.Binary.{Binary}
use Rattle.reo_exprs.specs.Typing.{binary_kind, if_kind, kind_of_expr}
use Rattle.reo_exprs.proofs.Choices.{choice_kinded}
use Rattle.reo_exprs.proofs.Kinded.{join_by_kind}
use Rattle.reo_exprs.proofs.Options.{from_and_then}
use Rattle.reo_exprs.proofs.Steps.{is_kind}
use Rattle.reo_trees.specs.declared.terms.TermForm.{TermForm}
use Rattle.reo_rules.specs.Types.{Typed, is_same}
use Rattle.reo_rules.specs.Terms.{expr_of}
use Rattle.reo_rules.specs.Mistyped.{is_kind as is_that_kind, has_kind}
use Rattle.reo_rules.proofs.Same.{same_types}
use Rattle.reo_rules_types.specs.Cells.{type_at, Keeps}
use Rattle.reo_rules_types.specs.Kinded.{fits_test, kind_of_form, IsMade}
use Rattle.reo_rules_types.specs.Scoped.{typed, AreKnown}
use Rattle.reo_rules_types.proofs.Scoped.{typed_kept}
use Rattle.reo_rules_types.proofs.Kept.{at_told, at_within, kept_at, kept_below, keeps_both}
use Rattle.reo_rules_types.proofs.Same.{same_self}

-- Kinds join where they are the same.
pub join_kinds : (x y : Kindred) → kind_of x ≡ x → kind_of y ≡ y → joins x y ≡ is_same x y
join_kinds x y f g =
    let told = join_by_kind x y in
    both_ways (joins x y) (is_same x y)
    (λ e. ap (λ k. is_same k y) (sym f ∙ told.0 e ∙ g) ∙ same_self y)
    (λ e. told.1 (ap kind_of (same_types x y e)))

-- A choice of two kinds.
pub chosen : (c x y : Kindred) → kind_of x ≡ x → kind_of y ≡ y → is_bool c ≡ true → is_same x y ≡ true → if_kind c x y ≡ Some x
chosen c x y f g p q = sym (choice_kinded c x y f) ∙ (λ i. if p i && (join_kinds x y f g ∙ q) i then Some x else None)

pub not_chosen : (c x y : Kindred) → kind_of x ≡ x → kind_of y ≡ y → (is_bool c && is_same x y) ≡ false → if_kind c x y ≡ None
not_chosen c x y f g p = sym (choice_kinded c x y f) ∙ (λ i. if is_bool c && join_kinds x y f g i then Some x else None) ∙ ap (λ b. if b then Some x else None) p

-- A number that is made stays made.
pub made_kept : (old new : List Kindred) → Keeps old new → (made : Option ℕ) (k : Option Kindred) → IsMade old made k → IsMade new made k
made_kept old new keeps None k is = is
made_kept old new keeps (Some n) k is = (kept_below old new keeps n is.0, is.1 ∙ ap Some (sym (kept_at old new keeps n is.0)))

-- A number of a type that is there.
pub made_at : (types : List Kindred) (n : ℕ) (k : Kindred) → slice_get types n ≡ Some k → IsMade types (Some n) (Some k)
made_at types n k is = (at_within types n k is, ap Some (sym (at_told types n k is)))

-- What a written expression has as its kind is a kind.
pub form_kind : (known : List Typed) (form : TermForm) (of k : Kindred) → kind_of_form known form of ≡ Some k → kind_of k ≡ k
form_kind known form of k is =
    let h = from_and_then (λ (e : Expr). kind_of_expr e of) (expr_of known form) k is in
    is_kind h.0 of k h.2

-- A number that is none is that of no type.
pub made_none : (types : List Kindred) (made : Option ℕ) (k : Option Kindred) → IsMade types made k → ((n : ℕ) → made ≡ Some n → ⊥) → k ≡ None
made_none types None k is not = is
made_none types (Some n) k is not = absurd (not n refl)

pub made_some : (types : List Kindred) (made : Option ℕ) (k : Option Kindred) (n : ℕ) → made ≡ Some n → IsMade types made k → IsMade types (Some n) k
made_some types made k n at is = subst (λ o. IsMade types o k) at is

-- A written expression that has its kind by its form alone.
pub leaf : (known : List Typed) (of : Kindred) (f g : TermForm) (types : List Kindred) (n : ℕ) (k : Kindred) → f ≡ g → kind_of_form known g of ≡ Some k → slice_get types n ≡ Some k → IsMade types (Some n) (kind_of_form known f of)
leaf known of f g types n k is form at = subst (IsMade types (Some n)) (sym (ap (λ h. kind_of_form known h of) is ∙ form)) (made_at types n k at)

-- What holds of a kind by more types.
module _ (old new : List Kindred) (keeps : Keeps old new) (es : List (List ℕ × ℕ)) (known : AreKnown old es) (of : ℕ) (below : of < length old) where
  pub same_form : (f : TermForm) → kind_of_form (typed new es) f (type_at new of) ≡ kind_of_form (typed old es) f (type_at old of)
  same_form f = λ i. kind_of_form (typed_kept old new keeps es known i) f (kept_at old new keeps of below i)

by_test : (b : Bool) → (if b then Some kinds.Bool else None) ≡ option_map kind_of (if b then Some kinds.Bool else None)
by_test true = refl
by_test false = refl

-- The kind of an operator that gives a truth value.
pub truth_kinded : (op : Binary) (x y : Kindred) → kind_of x ≡ x → kind_of y ≡ y → (op ≡ binary.Or) ⊎ ((op ≡ binary.And) ⊎ ((op ≡ binary.Eq) ⊎ (op ≡ binary.Ne)))
    → (if fits_test op x y then Some kinds.Bool else None) ≡ binary_kind op x y
truth_kinded op x y f g (inl e) = subst (λ o. (if fits_test o x y then Some kinds.Bool else None) ≡ binary_kind o x y) (sym e) (by_test (is_bool x && is_bool y))
truth_kinded op x y f g (inr (inl e)) = subst (λ o. (if fits_test o x y then Some kinds.Bool else None) ≡ binary_kind o x y) (sym e) (by_test (is_bool x && is_bool y))
truth_kinded op x y f g (inr (inr (inl e))) =
    subst (λ o. (if fits_test o x y then Some kinds.Bool else None) ≡ binary_kind o x y) (sym e) (ap (λ b. if b then Some kinds.Bool else None) (sym (join_kinds x y f g)) ∙ by_test (joins x y))
truth_kinded op x y f g (inr (inr (inr e))) =
    subst (λ o. (if fits_test o x y then Some kinds.Bool else None) ≡ binary_kind o x y) (sym e) (ap (λ b. if b then Some kinds.Bool else None) (sym (join_kinds x y f g)) ∙ by_test (joins x y))

-- Two and three kinds that were made one after another.
module _ (t0 t1 t2 : List Kindred) (k1 : Keeps t0 t1) (k2 : Keeps t1 t2) (es : List (List ℕ × ℕ)) (known : AreKnown t0 es) (of : ℕ) (below : of < length t0) where
  abbrev kf : TermForm → Option Kindred
  kf f = kind_of_form (typed t0 es) f (type_at t0 of)

  pub two_made : (f g : TermForm) (o p : Option ℕ) (x y : ℕ) → o ≡ Some x → p ≡ Some y → IsMade t1 o (kf f) → IsMade t2 p (kind_of_form (typed t1 es) g (type_at t1 of)) → IsMade t2 (Some x) (kf f) × IsMade t2 (Some y) (kf g)
  two_made f g o p x y at here first second = (
    made_kept t1 t2 k2 (Some x) (kf f) (made_some t1 o (kf f) x at first),
    subst (IsMade t2 (Some y)) (same_form t0 t1 k1 es known of below g) (made_some t2 p (kind_of_form (typed t1 es) g (type_at t1 of)) y here second),
  )

  module _ (t3 : List Kindred) (k3 : Keeps t2 t3) where
    pub three_made : (f g h : TermForm) (o p q : Option ℕ) (x y z : ℕ) → o ≡ Some x → p ≡ Some y → q ≡ Some z → IsMade t1 o (kf f) → IsMade t2 p (kind_of_form (typed t1 es) g (type_at t1 of))
        → IsMade t3 q (kind_of_form (typed t2 es) h (type_at t2 of)) → IsMade t3 (Some x) (kf f) × IsMade t3 (Some y) (kf g) × IsMade t3 (Some z) (kf h)
    three_made f g h o p q x y z a b d first second third =
        let made = two_made f g o p x y a b first second in
        let keeps = keeps_both t0 t1 t2 k1 k2 in (
          made_kept t2 t3 k3 (Some x) (kf f) made.0,
          made_kept t2 t3 k3 (Some y) (kf g) made.1,
          subst (IsMade t3 (Some z)) (same_form t0 t2 keeps es known of below h) (made_some t3 q (kind_of_form (typed t2 es) h (type_at t2 of)) z d third),
        )

-- The kind that a channel wants.
pub has_kind-form : (known : List Typed) (f : TermForm) (of want : Kindred) → has_kind of want (expr_of known f) ≡ is_that_kind want (kind_of_form known f of)
has_kind-form known f of want = by (expr_of known f)
  where
    by : (o : Option Expr) → has_kind of want o ≡ is_that_kind want (option_and_then (λ (e : Expr). kind_of_expr e of) o)
    by None = refl
    by (Some e) = refl
