-- Types that are known mean the same when more are known.
use Rattle.std.proofs.Common.{◌≡◌, ◌∙◌, ℕ, List, [], ◌∷◌, ◌++◌, Bool, refl, sym, ap}
use Rattle.std.specs.List.{AllByRecursion, flat_map}
use Rattle.std.proofs.lemmas.List.{append_assoc}
use Rattle.reo_values.specs.declared.kindred.Kindred.TheVariants as kinds
use Rattle.reo_trees.specs.declared.types.Shape as shape
use Rattle.reo_trees.specs.declared.types.Shape.{Shape}
use Rattle.reo_trees.specs.declared.types.TypeTerm.{TypeTerm}
use Rattle.reo_trees.specs.declared.programs.Parameter.{Parameter}
use Rattle.reo_trees.specs.declared.programs.Declaration.{Declaration}
use Rattle.reo_rules.specs.declared.fault.FlatFault.{FlatFault}
use Rattle.reo_rules.specs.Lists.{has_name}
use Rattle.reo_rules.specs.Types.{Typed, names_of, resolved, parts_of, types_after, types_of}
use Rattle.reo_rules.specs.Unknown.{missing, unknown_in_part, unknown_in_type}
use Rattle.reo_rules.proofs.Declared.{types_after-append, type_named-append}
use Rattle.reo_flat.proofs.flatten_laws.Breaks.{holds, left_none, right_none, flat_map-append}

abbrev missing_in : List Typed → TypeTerm → List FlatFault
missing_in types part = unknown_in_part (names_of types) part.line part.shape

shape_stays : (types more : List Typed) (line : ℕ) (s : Shape) → flat_map (missing_in types) (parts_of line s) ≡ [] → resolved (types ++ more) s ≡ resolved types s
shape_stays types more line shape.Unit none = refl
shape_stays types more line shape.Bool none = refl
shape_stays types more line (shape.Int low high) none = refl
shape_stays types more line (shape.Sym names) none = refl
shape_stays types more line (shape.Text most) none = refl
shape_stays types more line (shape.Pair' m (shape.more_of-TypePair k x l y shape.end_of-TypePair)) none =
    let both = sym (flat_map-append (missing_in types) (parts_of k x) (parts_of l y)) ∙ none in
    let left = shape_stays types more k x (left_none (flat_map (missing_in types) (parts_of k x)) _ both) in
    let right = shape_stays types more l y (right_none (flat_map (missing_in types) (parts_of k x)) _ both) in
    λ i. kinds.Pair (record { left = left i; right = right i })
shape_stays types more line (shape.Named name) none =
    type_named-append types more name (holds (has_name (names_of types) name) _ (left_none (missing (names_of types) line name) _ none))

pub type_stays : (types more : List Typed) (t : TypeTerm) → unknown_in_type (names_of types) t ≡ [] → resolved (types ++ more) t.shape ≡ resolved types t.shape
type_stays types more t none = shape_stays types more t.line t.shape none

-- So do those of parameters.
abbrev pub Stays : List Typed → List Parameter → Type 0
Stays types ps = (more : List Typed) → AllByRecursion (λ (p : Parameter). resolved (types ++ more) p.term.shape ≡ resolved types p.term.shape) ps

pub parameters_stay : (types : List Typed) (ps : List Parameter) → flat_map (λ (p : Parameter). unknown_in_type (names_of types) p.term) ps ≡ [] → Stays types ps
parameters_stay types [] none more = tt
parameters_stay types (p ∷ ps) none more = (
  type_stays types more p.term (left_none (unknown_in_type (names_of types) p.term) _ none),
  parameters_stay types ps (right_none (unknown_in_type (names_of types) p.term) _ none) more,
)

-- And they go on to.
pub stays_on : (types : List Typed) (e : Typed) (ps : List Parameter) → Stays types ps → Stays (types ++ e ∷ []) ps
stays_on types e ps stays more = step ps (stays (e ∷ [])) (stays (e ∷ more)) where
  step : (qs : List Parameter) → AllByRecursion (λ (p : Parameter). resolved (types ++ e ∷ []) p.term.shape ≡ resolved types p.term.shape) qs
      → AllByRecursion (λ (p : Parameter). resolved (types ++ e ∷ more) p.term.shape ≡ resolved types p.term.shape) qs
      → AllByRecursion (λ (p : Parameter). resolved ((types ++ e ∷ []) ++ more) p.term.shape ≡ resolved (types ++ e ∷ []) p.term.shape) qs
  step [] one all = tt
  step (q ∷ qs) one all = (ap (λ ts. resolved ts q.term.shape) (append_assoc types (e ∷ []) more) ∙ all.0 ∙ sym one.0, step qs one.1 all.1)

-- The types behind one more declaration.

pub one_more_type : (before : List Declaration) (d : Declaration) → types_of (before ++ d ∷ []) ≡ types_after (types_of before) (d ∷ [])
one_more_type before d = types_after-append [] before (d ∷ [])
