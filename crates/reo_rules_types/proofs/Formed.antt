-- The kind of a written expression, by those of its parts.
use Rattle.std.proofs.Common.{◌≡◌, ◌∙◌, ℕ, List, true, false, Option, None, Some, refl, sym, ap, bytes_eq}
use Rattle.std.specs.Prelude.{option_map, option_and_then, is_some}
use Rattle.std.specs.List.{position_from}
use Rattle.reo_values.specs.declared.kindred.Kindred as kindred
use Rattle.reo_values.specs.declared.kindred.Kindred.{Kindred}
use Rattle.reo_values.specs.declared.kindred.Kindred.TheVariants as kinds
use Rattle.reo_values.specs.declared.operator.Unary.{Unary}
use Rattle.reo_values.specs.declared.operator.Binary.{Binary}
use Rattle.reo_exprs.specs.declared.expr.Expr.{Expr}
use Rattle.reo_exprs.specs.declared.expr.Expr.TheVariants as exprs
use Rattle.reo_exprs.specs.Typing.{kind_of_expr, unary_kind, binary_kind, if_kind}
use Rattle.reo_exprs.proofs.Trees.{kind-One, kind-Two, kind-If}
use Rattle.reo_trees.specs.declared.terms.TermForm.{TermForm}
use Rattle.reo_trees.specs.declared.terms.TermForm.TheVariants as forms
use Rattle.reo_trees.specs.declared.terms.Term.{Term}
use Rattle.reo_trees.specs.declared.terms.TermPair.{TermPair}
use Rattle.reo_trees.specs.declared.terms.TermTriple.{TermTriple}
use Rattle.reo_rules.specs.Types.{Typed, type_named}
use Rattle.reo_rules.specs.Terms.{symbol_in, expr_of}
use Rattle.reo_rules.proofs.Forms.{expr_of-One, expr_of-Two, expr_of-If}
use Rattle.reo_rules_types.specs.Cells.{is_symbol}
use Rattle.reo_rules_types.specs.Kinded.{kind_of_form, kind_of_symbol}
use Rattle.reo_exprs.specs.declared.expr.ExprPair.{ExprPair}
use Rattle.reo_rules_types.specs.Resolved.{pair_of}
use Rattle.reo_rules_types.proofs.Places.{from_some}

module _ (of : Kindred) where
  abbrev kinded : Option Expr → Option Kindred
  kinded o = option_and_then (λ (e : Expr). kind_of_expr e of) o

  one : (op : Unary) (o : Option Expr) → kinded (option_map (λ a. exprs.One op a) o) ≡ option_and_then (λ a. unary_kind op a) (kinded o)
  one op None = refl
  one op (Some e) = kind-One op e of

  nothing : {X : Type 0} (o : Option Kindred) → option_and_then {T = Kindred} {U = X} (λ a. None) o ≡ None
  nothing None = refl
  nothing (Some k) = refl

  two : (op : Binary) (o p : Option Expr) → kinded (option_and_then (λ a. option_map (λ b. exprs.Two op (record { left = a; right = b })) p) o)
      ≡ option_and_then (λ a. option_and_then (λ b. binary_kind op a b) (kinded p)) (kinded o)
  two op None p = refl
  two op (Some d) None = sym (nothing (kind_of_expr d of))
  two op (Some d) (Some e) = kind-Two op (record { left = d; right = e }) of

  nothing_two : {X : Type 0} (o p : Option Kindred) → option_and_then {T = Kindred} {U = X} (λ a. option_and_then (λ b. None) p) o ≡ None
  nothing_two None p = refl
  nothing_two (Some k) p = nothing p

  three : (c o p : Option Expr) → kinded (option_and_then (λ a. option_and_then (λ b. option_map (λ d. exprs.If (record { condition = a; yes = b; no = d })) p) o) c)
      ≡ option_and_then (λ a. option_and_then (λ b. option_and_then (λ d. if_kind a b d) (kinded p)) (kinded o)) (kinded c)
  three None o p = refl
  three (Some f) None p = sym (nothing (kind_of_expr f of))
  three (Some f) (Some d) None = sym (nothing_two (kind_of_expr f of) (kind_of_expr d of))
  three (Some f) (Some d) (Some e) = kind-If (record { condition = f; yes = d; no = e }) of

  module _ (known : List Typed) where
    abbrev kf : TermForm → Option Kindred
    kf f = kind_of_form known f of

    pub form-One : (op : Unary) (x : Term) → kf (forms.One op x) ≡ option_and_then (λ a. unary_kind op a) (kf x.form)
    form-One op x = ap kinded (expr_of-One known op x) ∙ one op (expr_of known x.form)

    pub form-Two : (op : Binary) (p : TermPair) → kf (forms.Two op p) ≡ option_and_then (λ a. option_and_then (λ b. binary_kind op a b) (kf p.right.form)) (kf p.left.form)
    form-Two op p = ap kinded (expr_of-Two known op p) ∙ two op (expr_of known p.left.form) (expr_of known p.right.form)

    pub form-If : (p : TermTriple) → kf (forms.If p) ≡ option_and_then (λ a. option_and_then (λ b. option_and_then (λ d. if_kind a b d) (kf p.no.form)) (kf p.yes.form)) (kf p.condition.form)
    form-If p = ap kinded (expr_of-If known p) ∙ three (expr_of known p.condition.form) (expr_of known p.yes.form) (expr_of known p.no.form)

    -- The kind of an operator on kinds that are there, and none where a part has none.
    pub one_some : (f : TermForm) (op : Unary) (x : Term) (a : Kindred) → f ≡ forms.One op x → kf x.form ≡ Some a → unary_kind op a ≡ kf f
    one_some f op x a is p = sym (ap kf is ∙ form-One op x ∙ ap (option_and_then (λ k. unary_kind op k)) p)

    pub one_none : (f : TermForm) (op : Unary) (x : Term) → f ≡ forms.One op x → kf x.form ≡ None → kf f ≡ None
    one_none f op x is p = ap kf is ∙ form-One op x ∙ ap (option_and_then (λ k. unary_kind op k)) p

    pub two_some : (f : TermForm) (op : Binary) (p : TermPair) (a b : Kindred) → f ≡ forms.Two op p → kf p.left.form ≡ Some a → kf p.right.form ≡ Some b → binary_kind op a b ≡ kf f
    two_some f op p a b is q r = sym (ap kf is ∙ form-Two op p ∙ (λ i. option_and_then (λ k. option_and_then (λ l. binary_kind op k l) (r i)) (q i)))

    pub two_left : (f : TermForm) (op : Binary) (p : TermPair) → f ≡ forms.Two op p → kf p.left.form ≡ None → kf f ≡ None
    two_left f op p is q = ap kf is ∙ form-Two op p ∙ ap (option_and_then (λ k. option_and_then (λ l. binary_kind op k l) (kf p.right.form))) q

    pub two_right : (f : TermForm) (op : Binary) (p : TermPair) → f ≡ forms.Two op p → kf p.right.form ≡ None → kf f ≡ None
    two_right f op p is r = ap kf is ∙ form-Two op p ∙ ap (λ o. option_and_then (λ k. option_and_then (λ l. binary_kind op k l) o) (kf p.left.form)) r ∙ nothing (kf p.left.form)

    pub if_some : (f : TermForm) (p : TermTriple) (a b d : Kindred) → f ≡ forms.If p → kf p.condition.form ≡ Some a → kf p.yes.form ≡ Some b → kf p.no.form ≡ Some d → if_kind a b d ≡ kf f
    if_some f p a b d is o q r = sym (ap kf is ∙ form-If p ∙ (λ i. option_and_then (λ k. option_and_then (λ l. option_and_then (λ m. if_kind k l m) (r i)) (q i)) (o i)))

    pub if_condition : (f : TermForm) (p : TermTriple) → f ≡ forms.If p → kf p.condition.form ≡ None → kf f ≡ None
    if_condition f p is o = ap kf is ∙ form-If p ∙ ap (option_and_then (λ k. option_and_then (λ l. option_and_then (λ m. if_kind k l m) (kf p.no.form)) (kf p.yes.form))) o

    pub if_yes : (f : TermForm) (p : TermTriple) → f ≡ forms.If p → kf p.yes.form ≡ None → kf f ≡ None
    if_yes f p is q = ap kf is ∙ form-If p ∙ ap (λ o. option_and_then (λ k. option_and_then (λ l. option_and_then (λ m. if_kind k l m) (kf p.no.form)) o) (kf p.condition.form)) q ∙ nothing (kf p.condition.form)

    pub if_no : (f : TermForm) (p : TermTriple) → f ≡ forms.If p → kf p.no.form ≡ None → kf f ≡ None
    if_no f p is r = ap kf is ∙ form-If p ∙ ap (λ o. option_and_then (λ k. option_and_then (λ l. option_and_then (λ m. if_kind k l m) o) (kf p.yes.form)) (kf p.condition.form)) r ∙ nothing_two (kf p.condition.form) (kf p.yes.form)

-- The kind of a symbol is its type, where the type has it.
module _ (name : List ℕ) (of : Kindred) where
  in_type : (k : Kindred) → is_symbol k name ≡ true → kinded of (symbol_in k name) ≡ Some k
  in_type kindred.Unit is = absurd (cc)
  in_type kindred.Bool is = absurd (cc)
  in_type (kindred.Int a b) is = absurd (cc)
  in_type (kindred.Sym names) is = found (position_from (bytes_eq name) 0 names) (sym (from_some (bytes_eq name) names ∙ is))
    where
      found : (o : Option ℕ) → true ≡ is_some o → kinded of (option_map (λ k. exprs.Sym names k) o) ≡ Some (kinds.Sym names)
      found None e = absurd (cc)
      found (Some k) e = refl
  in_type (kindred.Text m) is = absurd (cc)
  in_type (kindred.Pair' m (kindred.more_of-Twins a b kindred.end_of-Twins)) is = absurd (cc)

  not_in : (k : Kindred) → is_symbol k name ≡ false → kinded of (symbol_in k name) ≡ None
  not_in kindred.Unit is = refl
  not_in kindred.Bool is = refl
  not_in (kindred.Int a b) is = refl
  not_in (kindred.Sym names) is = none (position_from (bytes_eq name) 0 names) (from_some (bytes_eq name) names ∙ is)
    where
      none : (o : Option ℕ) → is_some o ≡ false → kinded of (option_map (λ k. exprs.Sym names k) o) ≡ None
      none None e = refl
      none (Some k) e = absurd (cc)
  not_in (kindred.Text m) is = refl
  not_in (kindred.Pair' m (kindred.more_of-Twins a b kindred.end_of-Twins)) is = refl

pub symbol_kinded : (known : List Typed) (type name : List ℕ) (of : Kindred) → is_symbol (type_named known type) name ≡ true → kind_of_symbol known type name of ≡ Some (type_named known type)
symbol_kinded known type name of is = in_type name of (type_named known type) is

pub symbol_unkinded : (known : List Typed) (type name : List ℕ) (of : Kindred) → is_symbol (type_named known type) name ≡ false → kind_of_symbol known type name of ≡ None
symbol_unkinded known type name of is = not_in name of (type_named known type) is

-- Two expressions together.
two_paired : (op : Binary) (o p : Option Expr) → option_and_then (λ a. option_map (λ b. exprs.Two op (record { left = a; right = b })) p) o ≡ option_map (λ (q : ExprPair). exprs.Two op q) (pair_of o p)
two_paired op None p = refl
two_paired op (Some a) None = refl
two_paired op (Some a) (Some b) = refl

no_more : {X : Type 0} (o : Option Expr) → option_and_then {T = Expr} {U = X} (λ a. None) o ≡ None
no_more None = refl
no_more (Some a) = refl

if_paired : (c o p : Option Expr) → option_and_then (λ a. option_and_then (λ b. option_map (λ d. exprs.If (record { condition = a; yes = b; no = d })) p) o) c
    ≡ option_and_then (λ a. option_map (λ (q : ExprPair). exprs.If (record { condition = a; yes = q.left; no = q.right })) (pair_of o p)) c
if_paired None o p = refl
if_paired (Some a) None p = refl
if_paired (Some a) (Some b) None = refl
if_paired (Some a) (Some b) (Some d) = refl

module _ (known : List Typed) where
  pub one_expr_some : (f : TermForm) (op : Unary) (x : Term) (a : Expr) → f ≡ forms.One op x → Some a ≡ expr_of known x.form → Some (exprs.One op a) ≡ expr_of known f
  one_expr_some f op x a is p = ap (option_map (λ e. exprs.One op e)) p ∙ sym (expr_of-One known op x) ∙ sym (ap (expr_of known) is)

  pub one_expr_none : (f : TermForm) (op : Unary) (x : Term) → f ≡ forms.One op x → None ≡ expr_of known x.form → None ≡ expr_of known f
  one_expr_none f op x is p = ap (option_map (λ e. exprs.One op e)) p ∙ sym (expr_of-One known op x) ∙ sym (ap (expr_of known) is)

  pub two_expr_some : (f : TermForm) (op : Binary) (p : TermPair) (q : ExprPair) → f ≡ forms.Two op p → Some q ≡ pair_of (expr_of known p.left.form) (expr_of known p.right.form) → Some (exprs.Two op q) ≡ expr_of known f
  two_expr_some f op p q is e = ap (option_map (λ (r : ExprPair). exprs.Two op r)) e ∙ sym (two_paired op (expr_of known p.left.form) (expr_of known p.right.form)) ∙ sym (expr_of-Two known op p) ∙ sym (ap (expr_of known) is)

  pub two_expr_none : (f : TermForm) (op : Binary) (p : TermPair) → f ≡ forms.Two op p → None ≡ pair_of (expr_of known p.left.form) (expr_of known p.right.form) → None ≡ expr_of known f
  two_expr_none f op p is e = ap (option_map (λ (r : ExprPair). exprs.Two op r)) e ∙ sym (two_paired op (expr_of known p.left.form) (expr_of known p.right.form)) ∙ sym (expr_of-Two known op p) ∙ sym (ap (expr_of known) is)

  if_whole : (f : TermForm) (p : TermTriple) → f ≡ forms.If p
      → option_and_then (λ a. option_map (λ (q : ExprPair). exprs.If (record { condition = a; yes = q.left; no = q.right })) (pair_of (expr_of known p.yes.form) (expr_of known p.no.form))) (expr_of known p.condition.form) ≡ expr_of known f
  if_whole f p is = sym (if_paired (expr_of known p.condition.form) (expr_of known p.yes.form) (expr_of known p.no.form)) ∙ sym (expr_of-If known p) ∙ sym (ap (expr_of known) is)

  pub if_expr_some : (f : TermForm) (p : TermTriple) (c : Expr) (q : ExprPair) → f ≡ forms.If p → Some c ≡ expr_of known p.condition.form → Some q ≡ pair_of (expr_of known p.yes.form) (expr_of known p.no.form)
      → Some (exprs.If (record { condition = c; yes = q.left; no = q.right })) ≡ expr_of known f
  if_expr_some f p c q is o e = (λ i. option_and_then (λ a. option_map (λ (r : ExprPair). exprs.If (record { condition = a; yes = r.left; no = r.right })) (e i)) (o i)) ∙ if_whole f p is

  pub if_expr_none : (f : TermForm) (p : TermTriple) → f ≡ forms.If p → None ≡ expr_of known p.condition.form → None ≡ expr_of known f
  if_expr_none f p is o =
      ap (option_and_then (λ a. option_map (λ (r : ExprPair). exprs.If (record { condition = a; yes = r.left; no = r.right })) (pair_of (expr_of known p.yes.form) (expr_of known p.no.form)))) o ∙ if_whole f p is

  pub if_expr_part : (f : TermForm) (p : TermTriple) → f ≡ forms.If p → None ≡ pair_of (expr_of known p.yes.form) (expr_of known p.no.form) → None ≡ expr_of known f
  if_expr_part f p is e =
      sym (no_more (expr_of known p.condition.form))
      ∙ ap (λ q. option_and_then (λ a. option_map (λ (r : ExprPair). exprs.If (record { condition = a; yes = r.left; no = r.right })) q) (expr_of known p.condition.form)) e ∙ if_whole f p is
