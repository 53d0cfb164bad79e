-- What written expressions of several parts stand for.
use Rattle.std.proofs.Common.{◌≡◌, ◌∙◌, List, Option, Some, None, refl, sym, ap}
use Rattle.std.specs.Prelude.{option_map, option_and_then}
use Rattle.reo_values.specs.declared.operator.Unary.{Unary}
use Rattle.reo_values.specs.declared.operator.Binary.{Binary}
use Rattle.reo_exprs.specs.declared.expr.Expr.{Expr}
use Rattle.reo_exprs.specs.declared.expr.Expr.TheVariants as exprs
use Rattle.reo_trees.specs.declared.terms.TermForm.{TermForm}
use Rattle.reo_trees.specs.declared.terms.TermForm.TheVariants as forms
use Rattle.reo_trees.specs.declared.terms.Term.{Term}
use Rattle.reo_trees.specs.declared.terms.TermPair.{TermPair}
use Rattle.reo_trees.specs.declared.terms.TermTriple.{TermTriple}
use Rattle.reo_rules.specs.Types.{Typed}
use Rattle.reo_rules.specs.Terms.{expr_of}
use Rattle.reo_rules.proofs.Forms.{expr_of-One, expr_of-Two, expr_of-If}

-- The same, by what the parts are.
module _ (ts : List Typed) (form : TermForm) where
  pub one_made : (op : Unary) (x : Term) (a : Expr) → form ≡ forms.One op x → expr_of ts x.form ≡ Some a → Some (exprs.One op a) ≡ expr_of ts form
  one_made op x a is made = sym (ap (expr_of ts) is ∙ expr_of-One ts op x ∙ ap (option_map (λ a. exprs.One op a)) made)

  pub one_none : (op : Unary) (x : Term) → form ≡ forms.One op x → expr_of ts x.form ≡ None → None ≡ expr_of ts form
  one_none op x is none = sym (ap (expr_of ts) is ∙ expr_of-One ts op x ∙ ap (option_map (λ a. exprs.One op a)) none)

  two : (op : Binary) (p : TermPair) (l r : Option Expr) → form ≡ forms.Two op p → expr_of ts p.left.form ≡ l → expr_of ts p.right.form ≡ r → expr_of ts form ≡ option_and_then (λ a. option_map (λ b. exprs.Two op (record { left = a; right = b })) r) l
  two op p l r is left right = ap (expr_of ts) is ∙ expr_of-Two ts op p ∙ (λ i. option_and_then (λ a. option_map (λ b. exprs.Two op (record { left = a; right = b })) (right i)) (left i))

  pub two_made : (op : Binary) (p : TermPair) (a b : Expr) → form ≡ forms.Two op p → expr_of ts p.left.form ≡ Some a → expr_of ts p.right.form ≡ Some b → Some (exprs.Two op (record { left = a; right = b })) ≡ expr_of ts form
  two_made op p a b is left right = sym (two op p (Some a) (Some b) is left right)

  pub two_none_left : (op : Binary) (p : TermPair) → form ≡ forms.Two op p → expr_of ts p.left.form ≡ None → None ≡ expr_of ts form
  two_none_left op p is left = sym (two op p None _ is left refl)

  pub two_none_right : (op : Binary) (p : TermPair) (a : Expr) → form ≡ forms.Two op p → expr_of ts p.left.form ≡ Some a → expr_of ts p.right.form ≡ None → None ≡ expr_of ts form
  two_none_right op p a is left right = sym (two op p (Some a) None is left right)

  three : (p : TermTriple) (c y n : Option Expr) → form ≡ forms.If p → expr_of ts p.condition.form ≡ c → expr_of ts p.yes.form ≡ y → expr_of ts p.no.form ≡ n → expr_of ts form ≡ option_and_then (λ a. option_and_then (λ b. option_map (λ d. exprs.If (record { condition = a; yes = b; no = d })) n) y) c
  three p c y n is condition yes_is no_is =
      ap (expr_of ts) is ∙ expr_of-If ts p
      ∙ (λ i. option_and_then (λ a. option_and_then (λ b. option_map (λ d. exprs.If (record { condition = a; yes = b; no = d })) (no_is i)) (yes_is i)) (condition i))

  pub if_made : (p : TermTriple) (a b d : Expr) → form ≡ forms.If p → expr_of ts p.condition.form ≡ Some a → expr_of ts p.yes.form ≡ Some b → expr_of ts p.no.form ≡ Some d → Some (exprs.If (record { condition = a; yes = b; no = d })) ≡ expr_of ts form
  if_made p a b d is x y z = sym (three p (Some a) (Some b) (Some d) is x y z)

  pub if_none_condition : (p : TermTriple) → form ≡ forms.If p → expr_of ts p.condition.form ≡ None → None ≡ expr_of ts form
  if_none_condition p is x = sym (three p None _ _ is x refl refl)

  pub if_none_yes : (p : TermTriple) (a : Expr) → form ≡ forms.If p → expr_of ts p.condition.form ≡ Some a → expr_of ts p.yes.form ≡ None → None ≡ expr_of ts form
  if_none_yes p a is x y = sym (three p (Some a) None _ is x y refl)

  pub if_none_no : (p : TermTriple) (a b : Expr) → form ≡ forms.If p → expr_of ts p.condition.form ≡ Some a → expr_of ts p.yes.form ≡ Some b → expr_of ts p.no.form ≡ None → None ≡ expr_of ts form
  if_none_no p a b is x y z = sym (three p (Some a) (Some b) None is x y z)

  -- A part that was read behind a reference.
  pub part : {P : Type 0} (f : P → TermForm) (behind p : P) (found made : Option Expr) → behind ≡ p → found ≡ expr_of ts (f behind) → found ≡ made → expr_of ts (f p) ≡ made
  part f behind p found made at read is = ap (λ q. expr_of ts (f q)) (sym at) ∙ sym read ∙ is
