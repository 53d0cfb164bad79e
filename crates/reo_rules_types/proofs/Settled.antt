-- Types that stay the same, whatever is declared behind.
use Rattle.std.proofs.Common.{◌≡◌, ◌∙◌, ℕ, List, [], ◌∷◌, ◌++◌, map, refl, sym, ap}
use Rattle.std.proofs.lemmas.Bool.{not-false}
use Rattle.std.specs.List.{flat_map}
use Rattle.std.proofs.lemmas.List.{append_assoc}
use denote.Hole.Carrier.{hidden}
use Rattle.reo_values.specs.declared.kindred.Kindred.TheVariants as kinds
use Rattle.reo_rules_types.proofs.Sequences.{left_none}
use Rattle.reo_trees.specs.declared.types.Shape as shape
use Rattle.reo_trees.specs.declared.types.Shape.{Shape}
use Rattle.reo_trees.specs.declared.types.Shape.TheBlock.{hidden-the_row-TypePair-0}
use Rattle.reo_trees.specs.declared.types.TypeTerm.{TypeTerm}
use Rattle.reo_trees.specs.declared.programs.Parameter.{Parameter}
use Rattle.reo_rules.specs.Types.{Typed, names_of, resolved, parts_of}
use Rattle.reo_rules.specs.Unknown.{missing, unknown_in_part, unknown_in_type}
use Rattle.reo_rules_types.proofs.AfterLemmas.{right_none, flat_map-append, where_false}
use Rattle.reo_rules_types.proofs.Declared.{type_named-append}
use Rattle.reo_rules_types.specs.Stands.{IsSettled, AreSettled}

-- A written type without an unknown name is settled.
pub shape_settled : (known : List Typed) (line : ℕ) (s : Shape) → flat_map (λ (part : TypeTerm). unknown_in_part (names_of known) part.line part.shape) (parts_of line s) ≡ [] → IsSettled known s
unfolding hidden-the_row-TypePair-0 hidden
shape_settled known line shape.Unit none more = refl
shape_settled known line shape.Bool none more = refl
shape_settled known line (shape.Int a b) none more = refl
shape_settled known line (shape.Sym names) none more = refl
shape_settled known line (shape.Text m) none more = refl
shape_settled known line (shape.Pair' m (shape.more_of-TypePair k x l y shape.end_of-TypePair)) none more =
    let f = λ (part : TypeTerm). unknown_in_part (names_of known) part.line part.shape in
    let parts = sym (flat_map-append f (parts_of k x) (parts_of l y)) ∙ none in
    λ i. kinds.Pair (record {
      left = shape_settled known k x (left_none (flat_map f (parts_of k x)) (flat_map f (parts_of l y)) parts) more i;
      right = shape_settled known l y (right_none (flat_map f (parts_of k x)) (flat_map f (parts_of l y)) parts) more i;
    })
shape_settled known line (shape.Named name) none more =
    type_named-append known more name (not-false _ (where_false _ _ (left_none (missing (names_of known) line name) [] none)))

-- And so are the parameters of a connector.
pub all_settled : (known : List Typed) (ps : List Parameter) → flat_map (λ (p : Parameter). unknown_in_type (names_of known) p.term) ps ≡ [] → AreSettled known ps
all_settled known [] none = tt
all_settled known (p ∷ ps) none =
    let f = λ (q : Parameter). unknown_in_type (names_of known) q.term in (
      shape_settled known p.term.line p.term.shape (left_none (f p) (flat_map f ps) none),
      all_settled known ps (right_none (f p) (flat_map f ps) none),
    )

-- They stay so where more is declared.
pub settled_more : (known more : List Typed) (s : Shape) → IsSettled known s → IsSettled (known ++ more) s
settled_more known more s is rest = ap (λ k. resolved k s) (append_assoc known more rest) ∙ is (more ++ rest) ∙ sym (is more)

pub all_settled_more : (known more : List Typed) (ps : List Parameter) → AreSettled known ps → AreSettled (known ++ more) ps
all_settled_more known more [] are = tt
all_settled_more known more (p ∷ ps) are = (settled_more known more p.term.shape are.0, all_settled_more known more ps are.1)

pub types_settled : (known more : List Typed) (ps : List Parameter) → AreSettled known ps → map (λ (p : Parameter). resolved (known ++ more) p.term.shape) ps ≡ map (λ (p : Parameter). resolved known p.term.shape) ps
types_settled known more [] are = refl
types_settled known more (p ∷ ps) are = λ i. are.0 more i ∷ types_settled known more ps are.1 i
