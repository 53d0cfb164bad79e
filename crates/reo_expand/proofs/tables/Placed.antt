-- One declaration more in a table of first places.
use Rattle.std.proofs.Common.{arith, ◌≡◌, ◌∙◌, ◌<◌, ◌≤◌, ◌+◌, ℕ, Bool, true, false, cond, Option, Some, None, is_some, is_none, List, [], ◌∷◌, length, take, position, get_or, length-take, refl, sym, ap}
use Rattle.std.specs.Prelude.{bytes_eq, ◌||◌, ◌&&◌, flat_map}
use Rattle.std.specs.List.{list_any}
use Rattle.std.proofs.lemmas.List.{take_more}
use Rattle.reo_trees.specs.declared.programs_two.ConnectorTwo.{ConnectorTwo}
use Rattle.reo_trees.specs.declared.programs_two.DeclarationTwo.{DeclarationTwo}
use Rattle.reo_trees.specs.declared.programs_two.DeclarationTwo.TheVariants as two
use Rattle.reo_expand.specs.base.Steps.{two_in, of_name}
use Rattle.reo_expand.specs.declared.tables.first_places.FirstPlaces.{FirstPlaces}
use Rattle.reo_expand.specs.tables.Firsts.{or_else, place_in, is_before, has_number}
use Rattle.reo_expand.specs.tables.Knows.{is_made, AreFirst, KnowsPlaces}
use Rattle.reo_expand.proofs.tables.Placing.{position-push, before-is}

or-none : (o : Option ℕ) → or_else o None ≡ o
or-none None = refl
or-none (Some n) = refl

and-true : (b : Bool) → ((b && true) || false) ≡ b
and-true true = refl
and-true false = refl

and-false : (b : Bool) → ((b && false) || false) ≡ false
and-false true = refl
and-false false = refl

module _ (number : Bool) (ds : List DeclarationTwo) (place : ℕ) (d : DeclarationTwo) (lt : place < length ds) (is : d ≡ get_or ds place d) where
  front-length : length (take place ds) ≡ place
  front-length = grind (arith, length-take)

  pushed : (name : List ℕ) → position (is_made number name) (take (place + 1) ds) ≡ or_else (position (is_made number name) (take place ds)) (cond (is_made number name d) (Some place) None)
  pushed name =
      ap (position (is_made number name)) (take_more ds place d lt)
      ∙ position-push (is_made number name) (take place ds) (get_or ds place d)
      ∙ ap (λ n. or_else (position (is_made number name) (take place ds)) (cond (is_made number name (get_or ds place d)) (Some n) None)) front-length
      ∙ ap (λ x. or_else (position (is_made number name) (take place ds)) (cond (is_made number name x) (Some place) None)) (sym is)

  -- A declaration of another kind changes nothing.
  pub other : (t : FirstPlaces) → AreFirst number (take place ds) t → ((name : List ℕ) → is_made number name d ≡ false) → AreFirst number (take (place + 1) ds) t
  other t are none = record {
    even = are.even;
    are = λ name. are.are name ∙ sym (pushed name ∙ ap (λ b. or_else (position (is_made number name) (take place ds)) (cond b (Some place) None)) (none name) ∙ or-none (position (is_made number name) (take place ds)));
  }

  -- A connector of this kind is noted.
  pub one : (t u : FirstPlaces) (given : List ℕ) → AreFirst number (take place ds) t → length u.places ≡ length u.names
      → ((name : List ℕ) → place_in u.names u.places name ≡ or_else (place_in t.names t.places name) (cond (bytes_eq name given) (Some place) None))
      → ((name : List ℕ) → is_made number name d ≡ bytes_eq name given) → AreFirst number (take (place + 1) ds) u
  one t u given are even noted alike = record {
    even = even;
    are = λ name.
        noted name ∙ ap (λ o. or_else o (cond (bytes_eq name given) (Some place) None)) (are.are name)
        ∙ ap (λ b. or_else (position (is_made number name) (take place ds)) (cond b (Some place) None)) (sym (alike name)) ∙ sym (pushed name);
  }

-- A connector with a number, and one without.
pub numbered_made : (name given : List ℕ) (d : DeclarationTwo) (k : ConnectorTwo) (n : List ℕ) → d ≡ two.Made k → k.number ≡ Some n → given ≡ k.name → is_made true name d ≡ bytes_eq name given
numbered_made name given d k n made number is =
    ap (is_made true name) made
    ∙ ap (λ (o : Option (List ℕ)). (bytes_eq name k.name && is_some o) || false) number
    ∙ and-true (bytes_eq name k.name)
    ∙ ap (bytes_eq name) (sym is)

pub plain_made : (name given : List ℕ) (d : DeclarationTwo) (k : ConnectorTwo) → d ≡ two.Made k → k.number ≡ None → given ≡ k.name → is_made false name d ≡ bytes_eq name given
plain_made name given d k made number is =
    ap (is_made false name) made
    ∙ ap (λ (o : Option (List ℕ)). (bytes_eq name k.name && is_none o) || false) number
    ∙ and-true (bytes_eq name k.name)
    ∙ ap (bytes_eq name) (sym is)

module _ (number : Bool) (name : List ℕ) where
  kept : (b : Bool) (c : ConnectorTwo) (cs : List ConnectorTwo) (r : Bool) → list_any (has_number number) (of_name cs name) ≡ r
      → list_any (has_number number) (cond b (c ∷ of_name cs name) (of_name cs name)) ≡ ((b && has_number number c) || r)
  kept true c cs r e = ap (λ s. has_number number c || s) e
  kept false c cs r e = e

  or-false : (a b : Bool) → ((a || false) || b) ≡ (a || b)
  or-false true b = refl
  or-false false b = refl

  pub made-any : (ds : List DeclarationTwo) → list_any (is_made number name) ds ≡ list_any (has_number number) (of_name (flat_map two_in ds) name)
  made-any [] = refl
  made-any (two.Named line n term ∷ ds) = made-any ds
  made-any (two.Made c ∷ ds) =
      or-false (bytes_eq name c.name && has_number number c) (list_any (is_made number name) ds)
      ∙ ap (λ r. (bytes_eq name c.name && has_number number c) || r) (made-any ds)
      ∙ sym (kept (bytes_eq name c.name) c (flat_map two_in ds) _ refl)

-- What a table says of the declarations before a place.
front : (ds : List DeclarationTwo) (p : ℕ) → p ≤ length ds → length (take p ds) ≡ p
front ds p h = grind (arith, length-take)

pub known : (number : Bool) (ds : List DeclarationTwo) (p : ℕ) (t : FirstPlaces) → p ≤ length ds → AreFirst number ds t → KnowsPlaces number (take p ds) t
known number ds p t h are = record {
  even = are.even;
  are = λ name.
      ap (is_before (place_in t.names t.places name)) (front ds p h)
      ∙ ap (λ o. is_before o p) (are.are name)
      ∙ before-is (is_made number name) ds p
      ∙ made-any number name (take p ds);
}
