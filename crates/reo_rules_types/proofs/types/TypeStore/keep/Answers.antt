-- A cell that was found has its type's number; another is the last of the longer table.
use Rattle.std.proofs.Common.{◌≡◌, ◌∙◌, ℕ, List, [], ◌∷◌, ◌++◌, length, Option, Some, None, MatchOption, slice_get, refl, sym, ap, subst, false}
use Rattle.std.specs.Prelude.{unwrap_or, is_some}
use Rattle.std.specs.Map.{keys_of}
use Rattle.reo_values.specs.declared.kindred.Kindred.{Kindred}
use Rattle.reo_exprs.specs.Kinds.{kind_of}
use Rattle.reo_rules_types.specs.declared.cell.TypeParts.{TypeParts}
use Rattle.reo_rules_types.specs.declared.types.Facts.{Facts}
use Rattle.reo_rules_types.specs.Cells.{kindred_of, kindreds_of, Fits}
use Rattle.reo_rules_types.specs.Table.{AreCells}
use Rattle.indexmap.proofs.CallerLemmas.{insert_entry-new}
use Rattle.reo_rules_types.proofs.Lists.{more_keeps, last_is}
use Rattle.reo_rules_types.proofs.Told.{cell_eq}
use Rattle.reo_rules_types.proofs.Tabled.{types_push, found, not_there, added, kind_given}
use Rattle.reo_rules_types.proofs.types.TypeStore.keep.Goals as goal

pub returns-in-Some-clause-number : goal.returns-in-Some-clause-number
returns-in-Some-clause-number c =
    let es = c.self.inside.map.entries in
    let at = found (kindreds_of (keys_of es)) es c.self.invariant c.args.cell c.in-Some.number (sym c.in-Some.ensures.index) in
    subst (λ types. slice_get types c.in-Some.number ≡ Some (kindred_of types c.args.cell)) c.self.view_is at

none_from : {X : Type 0} (o : Option X) → false ≡ is_some o → o ≡ None
none_from None is = refl
none_from (Some x) is = absurd (cc)

-- The entries behind the new one.
grown : (es fs : List (TypeParts × Facts)) (c : TypeParts) (f : Facts) → fs ≡ es ++ (c, f) ∷ [] → kindreds_of (keys_of fs) ≡ kindreds_of (keys_of es) ++ kindred_of (kindreds_of (keys_of es)) c ∷ []
grown es fs c f more = ap (λ e. kindreds_of (keys_of e)) more ∙ types_push es c f

module _ (c : goal.Joined-insert-2) where
  abbrev es : List (TypeParts × Facts)
  es = c.self.inside.map.entries

  abbrev types : List Kindred
  types = kindreds_of (keys_of es)

  abbrev facts : Facts
  facts = record { kind = c.unwrap_or.result; symbols = c.in_ok-symbols.symbols; leaf = c.in_ok-leaf.leaf }

  abbrev k : Kindred
  k = kindred_of types c.args.cell

  more : c.insert.new.self.entries ≡ es ++ (c.args.cell, facts) ∷ []
  more = c.in-Ok.ensures.entries ∙ insert_entry-new cell_eq c.self.inside.map c.args.cell facts (none_from _ c.in_default.ensures.found)

  number_is : c.len-number.result ≡ length types
  number_is = c.len-number.ensures.len ∙ sym c.self.invariant.as_many

pub invariant_of-self : goal.invariant_of-self
invariant_of-self c =
    let cell = c.args.cell in
    let fits = subst (λ t. Fits (length t) cell) (sym c.self.view_is) c.requires.fits in
    let given = subst (λ t. MatchOption c.args.kind (kind_of (kindred_of t cell) ≡ kindred_of t cell) (λ n. slice_get t n ≡ Some (kind_of (kindred_of t cell)))) (sym c.self.view_is) c.requires.kind in
    let kind = kind_given (types c) (k c) c.args.kind c.unwrap_or.result given (c.unwrap_or.ensures ∙ ap (unwrap_or c.args.kind) (number_is c)) in
    let made = added (types c) (es c) c.self.invariant cell (facts c) fits kind (c.in_ok-symbols.ensures (types c)) (c.in_ok-leaf.ensures (types c)) (not_there (types c) (es c) c.self.invariant cell fits c.in_default.ensures.found) in
    subst (λ (fs : List (TypeParts × Facts)). AreCells (kindreds_of (keys_of fs)) fs) (sym (more c))
    (subst (λ t. AreCells t (es c ++ (cell, facts c) ∷ [])) (sym (types_push (es c) cell (facts c))) made)

pub returns-in-Ok-clause-keeps : goal.returns-in-Ok-clause-keeps
returns-in-Ok-clause-keeps c n t is =
    subst (λ ts. slice_get ts n ≡ Some t) (sym (grown (es c) c.insert.new.self.entries c.args.cell (facts c) (more c)))
    (more_keeps (types c) (k c ∷ []) n t (subst (λ ts. slice_get ts n ≡ Some t) (sym c.self.view_is) is))

pub returns-in-Ok-clause-number : goal.returns-in-Ok-clause-number
returns-in-Ok-clause-number c =
    ap (λ ts. slice_get ts c.len-number.result) (grown (es c) c.insert.new.self.entries c.args.cell (facts c) (more c))
    ∙ ap (slice_get (types c ++ k c ∷ [])) (number_is c) ∙ last_is (types c) (k c) ∙ ap (λ ts. Some (kindred_of ts c.args.cell)) c.self.view_is

-- The first type has the number 0.
none_in : (types : List Kindred) (n : ℕ) (t : Kindred) → types ≡ [] → slice_get types n ≡ Some t → ⊥
none_in types n t none is = let h : slice_get [] n ≡ Some t = ap (λ ts. slice_get ts n) (sym none) ∙ is in absurd (cc)

pub returns-in-Some-clause-first : goal.returns-in-Some-clause-first
returns-in-Some-clause-first c none =
    let es = c.self.inside.map.entries in
    let at = found (kindreds_of (keys_of es)) es c.self.invariant c.args.cell c.in-Some.number (sym c.in-Some.ensures.index) in
    absurd (none_in (kindreds_of (keys_of es)) c.in-Some.number _ (c.self.view_is ∙ none) at)

pub returns-in-Ok-clause-first : goal.returns-in-Ok-clause-first
returns-in-Ok-clause-first c none = number_is c ∙ ap length (c.self.view_is ∙ none)
