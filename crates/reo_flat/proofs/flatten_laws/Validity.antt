-- Types of texts that break no rule are valid, and expressions well formed.
use denote.Hole.Carrier.{hidden}
use Rattle.std.proofs.Common.{arith, ◌≡◌, ◌∙◌, ℕ, ℤ, ◌<◌, suc, ◌+◌, List, [], ◌∷◌, ◌++◌, length, Bool, true, false, not, cond, ◌||◌, nat_lt, Some, find, sym, subst, bytes_eq}
use Rattle.std.specs.Prelude.{unwrap_or, option_map, option_and_then, FitsSigned}
use Rattle.std.specs.Int.{w64}
use Rattle.std.specs.Int.Signed.{le_z}
use Rattle.std.specs.List.{AllByRecursion, flat_map, position_from}
use Rattle.std.proofs.lemmas.Bool.{leb-false, not-false, or_parts}
use Rattle.std.proofs.lemmas.Int.{ints}
use Rattle.std.proofs.lemmas.List.{append-nil, append_assoc}
use Rattle.reo_values.specs.declared.kindred.Kindred as kindred
use Rattle.reo_values.specs.declared.kindred.Kindred.{Kindred}
use Rattle.reo_values.specs.declared.kindred.Kindred.TheVariants as kinds
use Rattle.reo_values.specs.declared.kindred.Kindred.TheBlock.{hidden-the_row-Twins-0}
use Rattle.reo_values.specs.Valid.{IsValid}
use Rattle.reo_exprs.specs.declared.expr.Expr.{Expr}
use Rattle.reo_exprs.specs.declared.expr.Expr.TheVariants as exprs
use Rattle.reo_exprs.specs.declared.expr.Expr.TheBlock.{hidden-the_row-Expr-0, hidden-the_row-ExprPair-1, hidden-the_row-ExprTriple-2}
use Rattle.reo_exprs.specs.WellFormed.{IsWellFormed}
use Rattle.reo_exprs.proofs.Near.{near_fits}
use Rattle.reo_exprs.proofs.Options.{some_same, from_and_then, from_map}
use Rattle.reo_trees.specs.declared.types.Shape as shape
use Rattle.reo_trees.specs.declared.types.Shape.{Shape}
use Rattle.reo_trees.specs.declared.types.TypeTerm.{TypeTerm}
use Rattle.reo_trees.specs.declared.terms.TermForm as form
use Rattle.reo_trees.specs.declared.terms.TermForm.{TermForm}
use Rattle.reo_syntax_laws.specs.trees_laws.Spelled.{LiesNear, IsSpelledShape, IsSpelledTerm}
use Rattle.reo_rules.specs.declared.fault.FlatFault.{FlatFault}
use Rattle.reo_rules.specs.declared.fault.FlatFault.TheVariants as faults
use Rattle.reo_rules.specs.Lists.{each_after, where_true}
use Rattle.reo_rules.specs.Types.{Typed, type_named, resolved, parts_of, depth_of}
use Rattle.reo_rules.specs.Terms.{symbol_in, expr_of}
use Rattle.reo_rules.specs.Twice.{twice_among, twice_in_part, twice_in_type}
use Rattle.reo_rules.specs.Ranges.{is_out, range_in_type}
use Rattle.reo_rules.proofs.AfterLemmas.{where_false}
use Rattle.reo_flat.proofs.flatten_laws.Breaks.{left_none, right_none, flat_map-append}
use Rattle.reo_flat.proofs.flatten_laws.Once.{Once, distinct}
use Rattle.reo_flat.proofs.flatten_laws.OnceTwice.{new_name}
use Rattle.reo_flat.proofs.flatten_laws.Alike.{in_order}

-- The types that are known are valid.
abbrev pub AreValid : List Typed → Type 0
AreValid types = AllByRecursion (λ (e : Typed). IsValid e.kindred) types

pub valid_named : (types : List Typed) → AreValid types → (name : List ℕ) → IsValid (type_named types name)
valid_named [] valid name = tt
valid_named (e ∷ es) valid name = step (bytes_eq name e.name) (valid_named es valid.1 name) where
  step : (b : Bool) → IsValid (type_named es name) → IsValid (unwrap_or (option_map (λ (t : Typed). t.kindred) (cond b (Some e) (find (λ (t : Typed). bytes_eq name t.name) es))) kinds.Unit)
  step true rest = valid.0
  step false rest = rest

names_once : (line : ℕ) (before names : List (List ℕ)) → Once before → each_after (λ b name. twice_among b line name) before names ≡ [] → Once (before ++ names)
names_once line before [] once none = subst Once (sym (append-nil before)) once
names_once line before (n ∷ ns) once none =
    subst Once (append_assoc before (n ∷ []) ns)
    (names_once line (before ++ n ∷ []) ns (new_name before line n once (left_none (twice_among before line n) _ none)) (right_none (twice_among before line n) _ none))

abbrev twice_at : TypeTerm → List FlatFault
twice_at part = twice_in_part part.line part.shape

abbrev out_at : List Typed → TypeTerm → List FlatFault
out_at types part = where_true (is_out part.shape || nat_lt 8 (depth_of (resolved types part.shape))) (faults.Range part.line)

near_64 : (z : ℤ) → LiesNear 1000000000 z → FitsSigned w64 z
near_64 z near = let low = near.0 in let high = near.1 in near_fits z (omega (arith, ints)) (omega (arith, ints))

valid_shape : (types : List Typed) → AreValid types → (line : ℕ) (s : Shape) → IsSpelledShape s → flat_map twice_at (parts_of line s) ≡ [] → flat_map (out_at types) (parts_of line s) ≡ [] → IsValid (resolved types s)
unfolding hidden-the_row-Twins-0 hidden
valid_shape types valid line shape.Unit spelled once bound = tt
valid_shape types valid line shape.Bool spelled once bound = tt
valid_shape types valid line (shape.Int low high) spelled once bound =
    let within = (or_parts (not (le_z low high)) _ (where_false _ _ (left_none (out_at types (record { line = line; shape = shape.Int low high })) _ bound))).0 in
    (near_64 low spelled.0, near_64 high spelled.1, in_order low high (not-false _ within))
valid_shape types valid line (shape.Sym names) spelled once bound =
    let within = (or_parts (nat_lt 1024 (length names)) _ (where_false _ _ (left_none (out_at types (record { line = line; shape = shape.Sym names })) _ bound))).0 in
    let few = leb-false (suc 1024) (length names) within in
    let each = names_once line [] names tt (left_none (each_after (λ b name. twice_among b line name) [] names) _ once) in
    record { few = omega arith; words = λ k d below. (spelled k d below).0; distinct = distinct names each }
valid_shape types valid line (shape.Text most) spelled once bound = tt
valid_shape types valid line (shape.Pair' m (shape.more_of-TypePair k x l y shape.end_of-TypePair)) spelled once bound =
    let first = sym (flat_map-append twice_at (parts_of k x) (parts_of l y)) ∙ once in
    let rest = right_none (out_at types (record { line = line; shape = shape.Pair' m (shape.more_of-TypePair k x l y shape.end_of-TypePair) })) _ bound in
    let second = sym (flat_map-append (out_at types) (parts_of k x) (parts_of l y)) ∙ rest in (
      valid_shape types valid k x spelled.0 (left_none (flat_map twice_at (parts_of k x)) _ first) (left_none (flat_map (out_at types) (parts_of k x)) _ second),
      valid_shape types valid l y spelled.1 (right_none (flat_map twice_at (parts_of k x)) _ first) (right_none (flat_map (out_at types) (parts_of k x)) _ second),
    )
valid_shape types valid line (shape.Named name) spelled once bound = valid_named types valid name

-- A written type that breaks no rule is valid.
pub valid_type : (types : List Typed) → AreValid types → (t : TypeTerm) → IsSpelledShape t.shape → twice_in_type t ≡ [] → range_in_type types t ≡ [] → IsValid (resolved types t.shape)
valid_type types valid t spelled once bound = valid_shape types valid t.line t.shape spelled once bound

place_within : (t : List ℕ → Bool) (i : ℕ) (xs : List (List ℕ)) (k : ℕ) → position_from t i xs ≡ Some k → k < i + length xs
place_within t i [] k is = absurd (cc)
place_within t i (x ∷ xs) k is = step (t x) is (place_within t (i + 1) xs k) where
  step : (b : Bool) → cond b (Some i) (position_from t (i + 1) xs) ≡ Some k → (position_from t (i + 1) xs ≡ Some k → k < (i + 1) + length xs) → k < i + suc (length xs)
  step true h rest = let same = some_same i k h in omega arith
  step false h rest = let more = rest h in omega arith

symbol_well : (k : Kindred) → IsValid k → (symbol : List ℕ) (e : Expr) → symbol_in k symbol ≡ Some e → IsWellFormed e
symbol_well kindred.Unit valid symbol e is = absurd (cc)
symbol_well kindred.Bool valid symbol e is = absurd (cc)
symbol_well (kindred.Int low high) valid symbol e is = absurd (cc)
symbol_well (kindred.Sym names) valid symbol e is =
    let at = from_map (λ k. exprs.Sym names k) (position_from (bytes_eq symbol) 0 names) e is in
    let below = place_within (bytes_eq symbol) 0 names at.0 at.1 in
    subst IsWellFormed at.2 (valid, omega arith)
symbol_well (kindred.Text most) valid symbol e is = absurd (cc)
symbol_well (kindred.Pair' n p) valid symbol e is = absurd (cc)

-- What a written expression stands for is well formed.
pub well_formed : (types : List Typed) → AreValid types → (f : TermForm) → IsSpelledTerm f → (e : Expr) → expr_of types f ≡ Some e → IsWellFormed e
unfolding hidden-the_row-Expr-0 hidden-the_row-ExprPair-1 hidden-the_row-ExprTriple-2 hidden
well_formed types valid form.It spelled e is = subst IsWellFormed (some_same exprs.It e is) tt
well_formed types valid form.Unit spelled e is = subst IsWellFormed (some_same exprs.Unit e is) tt
well_formed types valid (form.Bool b) spelled e is = subst IsWellFormed (some_same (exprs.Bool b) e is) tt
well_formed types valid (form.Int z) spelled e is = subst IsWellFormed (some_same (exprs.Int z) e is) tt
well_formed types valid (form.Text bytes) spelled e is = subst IsWellFormed (some_same (exprs.Text bytes) e is) spelled
well_formed types valid (form.Sym type symbol) spelled e is = symbol_well (type_named types type) (valid_named types valid type) symbol e is
well_formed types valid (form.One' op m (form.more_of-Term k x form.end_of-Term)) spelled e is =
    let a = from_map (λ a. exprs.One op a) (expr_of types x) e is in
    subst IsWellFormed a.2 (well_formed types valid x spelled a.0 a.1)
well_formed types valid (form.Two' op m (form.more_of-TermPair k x l y form.end_of-TermPair)) spelled e is =
    let a = from_and_then (λ a. option_map (λ b. exprs.Two op (record { left = a; right = b })) (expr_of types y)) (expr_of types x) e is in
    let b = from_map (λ b. exprs.Two op (record { left = a.0; right = b })) (expr_of types y) e a.2 in
    subst IsWellFormed b.2 (well_formed types valid x spelled.0 a.0 a.1, well_formed types valid y spelled.1 b.0 b.1)
well_formed types valid (form.If' m (form.more_of-TermTriple k c l x i y form.end_of-TermTriple)) spelled e is =
    let a = from_and_then (λ a. option_and_then (λ b. option_map (λ d. exprs.If (record { condition = a; yes = b; no = d })) (expr_of types y)) (expr_of types x)) (expr_of types c) e is in
    let b = from_and_then (λ b. option_map (λ d. exprs.If (record { condition = a.0; yes = b; no = d })) (expr_of types y)) (expr_of types x) e a.2 in
    let d = from_map (λ d. exprs.If (record { condition = a.0; yes = b.0; no = d })) (expr_of types y) e b.2 in
    subst IsWellFormed d.2 (well_formed types valid c spelled.0 a.0 a.1, well_formed types valid x spelled.1 b.0 b.1, well_formed types valid y spelled.2 d.0 d.1)
