-- Indexes, and names of nodes with a place, are printed so that their text says them.
use Rattle.std.proofs.Common.{◌≡◌, ℕ, zero, suc, ◌^◌, ◌<◌, Bool, true, false, Option, Some, None, List, [], ◌∷◌, ◌++◌, refl, sym, ◌∙◌, ap, subst, arith, append-nil, codes}
use Rattle.std.proofs.lemmas.List.{map-id}
use Rattle.std.proofs.lemmas.Bool.{and_parts}
use Rattle.std.specs.List.{flat_map}
use Rattle.std.specs.Fmt.{decimal}
use Rattle.reo_grammar.specs.declared.kind.TokenKind.TheVariants as kinds
use Rattle.reo_grammar.specs.Tokens.{Lexeme, matches, is_real, number_from}
use Rattle.reo_grammar.specs.Tokens.Class.{fixed, number}
use Rattle.reo_grammar.proofs.Numbers.{real-number-below}
use Rattle.reo_grammar.proofs.Classes.{number-kind}
use Rattle.reo_lexer.proofs.Cut.{is_cut}
use Rattle.reo_trees.specs.declared.indexes.Index.{Index}
use Rattle.reo_trees.specs.declared.indexes.SignedUnit.{SignedUnit}
use Rattle.reo_trees.specs.declared.indexes.IndexUnit.{IndexUnit}
use Rattle.reo_trees.specs.declared.indexes.IndexUnit.TheVariants as units
use Rattle.reo_trees.specs.declared.indexes.Ref.{Ref}
use Rattle.reo_trees.specs.Forms.{comma_form}
use Rattle.reo_trees.specs.Indexes.{most_place, unit_form, unsigned, sign_form, further_units, index_form, one_unit, place_form, placed_form, ref_form}
use Rattle.reo_syntax.specs.Spread.{spread}
use Rattle.reo_syntax.proofs.Row.{is_apart}
use Rattle.reo_syntax_laws.proofs.Again.{Out, out-both, out-left, out-right, out-made, out-nothing, out-text, out-word, out-word-as, out-name, out-gap, out-weaker}
use Rattle.reo_syntax.proofs.Decimals.{decimal-value}
use Rattle.reo_syntax.proofs.Cuts.{open-cut, close-cut, apart-loose, name-cut}
use Rattle.reo_syntax.proofs.Claims.{Again}
use Rattle.reo_syntax_laws.proofs.Seen.{World, See, see-then, see-both, see-made, see-either, see-word, see-word-as, see-token, see-nothing}
use Rattle.reo_syntax.proofs.Lists.{see-comma}
use Rattle.reo_syntax.proofs.Types.{bare-number}
use Rattle.reo_syntax.proofs.Levels.{out-grouped}
use Rattle.reo_syntax.proofs.Items.{apart-name}
use Rattle.reo_syntax.specs.two.IndexText.{unit_text, sign_text, further_text, index_text, place_text, placed_text, ref_text}
use Rattle.reo_syntax_laws.proofs.syntax_two_laws.Starts.{starts_well, starts-append, digits-start, token-starts, dot-cut}

pub record UnitOut (ts : List Lexeme) (u : IndexUnit) : Type 0 where
  pub first : starts_well (unit_text u) ≡ true
  pub out : Again unit_form unit_text (λ x y. x ≡ y) ts u

number-starts : (t : Lexeme) → matches (number 0 most_place) t ≡ true → is_real t ≡ true → starts_well (decimal (number_from 0 t.bytes)) ≡ true
number-starts t m q =
    let b : number_from 0 t.bytes < 10 ^ 18 = real-number-below t (number-kind t.kind ((and_parts _ _ m).0)) q in
    digits-start (decimal (number_from 0 t.bytes)) (decimal-value (number_from 0 t.bytes) (omega arith)).0

see-unit : {w : World} → See w unit_form UnitOut
see-unit = see-either
    (see-made (see-made (see-token (λ t m q. record {
      first = number-starts t m q;
      out = λ r h. out-left (out-made (λ y. units.Number (number_from 0 t.bytes) ≡ y) (bare-number 0 most_place t r m q (apart-loose r h)) (λ y e. ap units.Number e));
    }))))
    (see-made (see-made (see-token (λ t m q. record {
      first = token-starts t m q;
      out = λ r h. out-right (out-made (λ y. units.Name t.bytes ≡ y) (apart-name t r m q h) (λ y e. ap units.Name e));
    }))))

abbrev signed : Bool → IndexUnit → SignedUnit
signed m u = record { minus = m; unit = u }

record SignOut (m : Bool) (t : Lexeme) : Type 0 where
  pub out : (r : List ℕ) → Out sign_form (sign_text m) (t ∷ []) r (λ y. m ≡ y)

-- Further units: where there is none there are no tokens.
pub record FurtherOut (n : ℕ) (ts : List Lexeme) (us : List SignedUnit) : Type 0 where
  pub none : us ≡ [] → ts ≡ []
  pub out : (r : List ℕ) → is_apart r ≡ true → Out (further_units n) (flat_map further_text us) ts r (λ vs. us ≡ vs)

sign-apart : (m : Bool) (x l r : List ℕ) → is_apart (((sign_text m ++ x) ++ l) ++ r) ≡ true
sign-apart true x l r = refl
sign-apart false x l r = refl

further-apart : (us : List SignedUnit) (r : List ℕ) → is_apart r ≡ true → is_apart (flat_map further_text us ++ r) ≡ true
further-apart [] r h = h
further-apart (u ∷ us) r h = sign-apart u.minus (unit_text u.unit) (flat_map further_text us) r

further-more : (n : ℕ) (m : Bool) (t : Lexeme) (a b : List Lexeme) (u : IndexUnit) (us : List SignedUnit) → SignOut m t → UnitOut a u → FurtherOut n b us
    → FurtherOut (suc n) (((t ∷ []) ++ a) ++ b) (signed m u ∷ us)
further-more n m t a b u us s o p = record {
  none = λ e. absurd (cc);
  out = λ r h. out-left (out-both (λ vs. signed m u ∷ us ≡ vs)
      (out-both (λ y. signed m u ≡ y) (s.out (unit_text u ++ (flat_map further_text us ++ r))) (o.out (flat_map further_text us ++ r) (further-apart us r h)) (λ y z e i. ap (λ v. signed v u) e ∙ ap (signed y) i))
      (p.out r h) (λ y ys e i. ap (λ v. v ∷ us) e ∙ ap (λ v. y ∷ v) i));
}

plus-out : (t : Lexeme) → matches (fixed (codes "+")) t ≡ true → SignOut false t
plus-out t m = record { out = λ r. out-gap (codes " ") refl (out-left (out-word-as false (codes "+") (codes " ") t r m refl refl (λ y. false ≡ y) refl)) }

minus-out : (t : Lexeme) → matches (fixed (codes "-")) t ≡ true → SignOut true t
minus-out t m = record { out = λ r. out-gap (codes " ") refl (out-right (out-word-as true (codes "-") (codes " ") t r m refl refl (λ y. true ≡ y) refl)) }

see-further : {w : World} (n : ℕ) → See w (further_units n) (FurtherOut n)
see-further zero = see-nothing (record { none = λ e. refl; out = λ r h. out-nothing [] r (λ vs. [] ≡ vs) refl })
see-further (suc n) = see-either
    (see-both (see-both (see-either
    (see-word-as (λ t m. see-then see-unit (λ a u o. see-then (see-further n) (λ b us p. further-more n false t a b u us (plus-out t m) o p))))
    (see-word-as (λ t m. see-then see-unit (λ a u o. see-then (see-further n) (λ b us p. further-more n true t a b u us (minus-out t m) o p)))))))
    (see-nothing (record { none = λ e. refl; out = λ r h. out-right (out-nothing [] r (λ vs. [] ≡ vs) refl) }))

abbrev made_index : IndexUnit → List SignedUnit → Index
made_index u us = record { units = unsigned u ∷ us }

abbrev pub placed_units : Index → List ℕ
placed_units i = place_text i.units

-- An index, as it is and in the parentheses of a place, which are taken away round one unit.
pub record IndexOut (ts : List Lexeme) (i : Index) : Type 0 where
  pub first : starts_well (index_text i) ≡ true
  pub out : Again index_form index_text (λ x y. x ≡ y) ts i
  pub dot : (r : List ℕ) → is_cut kinds.Sign (codes ".") (placed_units i ++ r) ≡ true
  pub place : (t c : Lexeme) → matches (fixed (codes "(")) t ≡ true → matches (fixed (codes ")")) c ≡ true → Again place_form placed_units (λ x y. x ≡ y) ((t ∷ []) ++ (ts ++ (c ∷ []))) i

index-out : (a b : List Lexeme) (u : IndexUnit) (us : List SignedUnit) → UnitOut a u → FurtherOut 7 b us → Again index_form index_text (λ x y. x ≡ y) (a ++ b) (made_index u us)
index-out a b u us o p r h =
    out-both (λ y. made_index u us ≡ y) (o.out (flat_map further_text us ++ r) (further-apart us r h)) (p.out r h) (λ y ys e i. ap (λ v. made_index v us) e ∙ ap (made_index y) i)

index-dot : (a : List Lexeme) (u : IndexUnit) (us : List SignedUnit) → UnitOut a u → (r : List ℕ) → is_cut kinds.Sign (codes ".") (placed_units (made_index u us) ++ r) ≡ true
index-dot a u [] o r = dot-cut (unit_text u) r o.first
index-dot a u (v ∷ us) o r = refl

in-place : (a b : List Lexeme) (u : IndexUnit) (us : List SignedUnit) → UnitOut a u → FurtherOut 7 b us → (t c : Lexeme) → matches (fixed (codes "(")) t ≡ true → matches (fixed (codes ")")) c ≡ true
    → Again place_form placed_units (λ x y. x ≡ y) ((t ∷ []) ++ ((a ++ b) ++ (c ∷ []))) (made_index u us)
in-place a b u [] o p t c m n r h =
    let e : a ≡ a ++ b = sym (ap (λ l. a ++ l) (p.none refl) ∙ append-nil a) in
    out-grouped t c m n (out-right (out-made (λ y. made_index u [] ≡ y) (subst (λ l. Out unit_form (unit_text u) l r (λ y. u ≡ y)) e (o.out r h)) (λ y i. ap one_unit i)))
in-place a b u (v ∷ us) o p t c m n r h =
    let S : Index → Type 0 = λ y. made_index u (v ∷ us) ≡ y in
    out-left (out-both S (out-word (codes "(") [] t _ m refl (open-cut _))
    (out-both S (index-out a b u (v ∷ us) o p (codes ")" ++ r) refl) (out-word (codes ")") [] c r n refl (close-cut r)) (λ y z e i. e)) (λ y z e i. i))

pub see-index : {w : World} → See w index_form IndexOut
see-index = see-both (see-then see-unit (λ a u o. see-then (see-further 7) (λ b us p. record {
  first = starts-append (unit_text u) (flat_map further_text us) o.first;
  out = index-out a b u us o p;
  dot = index-dot a u us o;
  place = in-place a b u us o p;
})))

record PlaceOut (ts : List Lexeme) (i : Index) : Type 0 where
  pub dot : (r : List ℕ) → is_cut kinds.Sign (codes ".") (placed_units i ++ r) ≡ true
  pub out : Again place_form placed_units (λ x y. x ≡ y) ts i

see-place : {w : World} → See w place_form PlaceOut
see-place = see-either
    (see-both (see-word (λ t m. see-both (see-then see-index (λ a i o. see-word (λ c n. record { dot = o.dot; out = o.place t c m n }))))))
    (see-made (see-then see-unit (λ a u o. record {
      dot = λ r. dot-cut (unit_text u) r o.first;
      out = λ r h. out-right (out-made (λ y. one_unit u ≡ y) (o.out r h) (λ y e. ap one_unit e));
    })))

see-placed : {w : World} → See w placed_form (Again placed_form placed_text (λ x y. x ≡ y))
see-placed = see-either (see-made (see-both (see-word (λ t m. see-then see-place (λ a i o r h.
    out-left (out-made (λ y. Some i ≡ y) (out-both (λ y. i ≡ y) (out-word (codes ".") [] t (placed_units i ++ r) m refl (o.dot r)) (o.out r h) (λ u y e j. j)) (λ y e. ap Some e)))))))
    (see-nothing (λ r h. out-right (out-nothing None r (λ y. None ≡ y) refl)))

placed-cut : (b : List ℕ) (p : Option Index) (r : List ℕ) → is_apart r ≡ true → is_cut kinds.Name b (placed_text p ++ r) ≡ true
placed-cut b None r h = name-cut b r h
placed-cut b (Some i) r h = refl

abbrev placed_ref : List ℕ → Option Index → Ref
placed_ref n p = record { name = n; place = p }

abbrev pub SameRef : Ref → Ref → Type 0
SameRef x y = x ≡ y

pub see-ref : {w : World} → See w ref_form (Again ref_form ref_text SameRef)
see-ref = see-both (see-made (see-token (λ t m q. see-then see-placed (λ a p o r h.
    out-both (SameRef (placed_ref t.bytes p)) (out-text (append-nil t.bytes) (out-name t [] (placed_text p ++ r) m q refl (placed-cut t.bytes p r h))) (o r h)
    (λ y z e i. ap (λ n. placed_ref n p) e ∙ ap (placed_ref y) i)))))

abbrev pub SameRefs : List Ref → List Ref → Type 0
SameRefs x y = x ≡ y

-- One or more, with commas between them.
pub see-refs : {w : World} → See w (comma_form ref_form) (Again (comma_form ref_form) (spread ref_text) SameRefs)
see-refs = see-then (see-comma see-ref) (λ ts xs p r h. out-weaker (SameRefs xs) (p.again r h) (λ ys e. sym (map-id xs) ∙ e ∙ map-id ys))
