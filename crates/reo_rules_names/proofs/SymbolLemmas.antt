-- Types in a table by name, with their symbols.
use denote.Hole.Carrier.{hidden}
use Rattle.std.proofs.Common.{arith, ◌≡◌, ◌∙◌, ℕ, ◌+◌, List, [], ◌∷◌, ◌++◌, length, get_or, map, true, false, not, cond, Option, Some, None, Bor, refl, sym, ap, subst}
use Rattle.std.specs.Option.{MatchOption, option_copied}
use Rattle.std.specs.Prelude.{unwrap_or}
use Rattle.std.proofs.lemmas.List.{length-append, get_or_append_left, get_or_push}
use Rattle.reo_values.specs.declared.kindred.Kindred.{Kindred}
use Rattle.reo_values.specs.declared.kindred.Kindred.TheVariants as kinds
use Rattle.reo_values.specs.declared.kindred.Kindred.TheBlock.{hidden-the_row-Twins-0}
use Rattle.reo_trees.specs.declared.types.Shape.TheVariants as shapes
use Rattle.reo_trees.specs.declared.types.Shape.TheBlock.{hidden-the_row-TypePair-0}
use Rattle.reo_trees.specs.declared.types.TypePair.{TypePair}
use Rattle.reo_rules.specs.declared.fault.FlatFault.TheVariants as faults
use Rattle.reo_rules.specs.Lists.{has_name, where_true}
use Rattle.reo_rules.specs.Names.{with_name}
use Rattle.reo_rules.specs.Types.{Typed, type_named, resolved}
use Rattle.reo_rules.specs.Unknown.{missing, lacking}
use Rattle.reo_rules_names.specs.declared.types.DeclaredTypes.{DeclaredTypes}
use Rattle.reo_rules_names.specs.SameNames.{SameNames}
use Rattle.reo_rules_names.specs.Values.{value_at}
use Rattle.reo_rules_names.specs.Symbols.{AreTypes, IsSetOf}
use Rattle.reo_rules_names.proofs.ValueLemmas.{named_pushed, named_there, names_grown}
use Rattle.reo_rules_names.proofs.TableLemmas.{type_named-is}

-- Lists with the same names miss the same names.
pub missing-same : (xs ys : List (List ℕ)) (line : ℕ) (name : List ℕ) → SameNames xs ys → missing xs line name ≡ missing ys line name
missing-same xs ys line name same = ap (λ b. where_true (not b) (faults.Unknown line name)) (same name)

-- A set keeps its number when another is put behind.
set_kept : (sets : List (List (List ℕ))) (more : List (List ℕ)) (o : Option ℕ) (k : Kindred) → IsSetOf sets o k → IsSetOf (sets ++ more ∷ []) o k
set_kept sets more None k is = is
set_kept sets more (Some n) k is = (
  omega (arith, length-append sets (more ∷ []), is.0),
  (λ line s. is.1 line s ∙ ap (λ ns. missing ns line s) (sym (get_or_append_left sets (more ∷ []) [] n is.0))),
)

pub types_kept : (known : List Typed) (t : DeclaredTypes) (more : List (List ℕ)) (sets : List (List (List ℕ))) → sets ≡ t.sets ++ more ∷ [] → AreTypes known t → AreTypes known (record { names = t.names; numbers = t.numbers; sets = sets })
types_kept known t more sets is are =
    record {
      names = are.names;
      paired = are.paired;
      symbols = λ n. subst (λ ss. IsSetOf ss (value_at None t.names t.numbers n) (type_named known n)) (sym is) (set_kept t.sets more (value_at None t.names t.numbers n) (type_named known n) (are.symbols n));
    }

-- The set that was put behind is that of the symbols that it holds.
pub new_set : (before sets : List (List (List ℕ))) (set symbols : List (List ℕ)) (n : ℕ) → sets ≡ before ++ set ∷ [] → n ≡ length before → SameNames set symbols → IsSetOf sets (Some n) (kinds.Sym symbols)
new_set before sets set symbols n is last same =
    let long = ap length is ∙ length-append before (set ∷ []) in
    let there : get_or sets n [] ≡ set = ap (λ ss. get_or ss n []) is ∙ get_or_push before set [] n (sym last) in (
      omega (arith, long, last),
      (λ line s. sym (missing-same set symbols line s same) ∙ ap (λ ns. missing ns line s) (sym there)),
    )

-- A pair has no symbols.
pub pair_lacks : (known : List Typed) (p : TypePair) (line : ℕ) (s : List ℕ) → lacking (resolved known (shapes.Pair p)) line s ≡ []
unfolding hidden-the_row-TypePair-0 hidden hidden-the_row-Twins-0
pair_lacks known p line s = refl

-- The set of a number, as a search by number gives it.
pub set_found : (o : Option (Bor (List (List ℕ)))) (x : List (List ℕ)) (P : Type 0) (Q : List (List ℕ) → Type 0) → option_copied o ≡ Some x → Q x → MatchOption o P (λ b. Q b.now)
set_found None x P Q is here = absurd (cc)
set_found (Some b) x P Q is here =
    let same : x ≡ b.now = ap (λ o. unwrap_or o x) (sym is) in
    subst Q same here

module _ (known : List Typed) (e : Typed) (t : DeclaredTypes) (are : AreTypes known t) where
  before : (n : List ℕ) → IsSetOf t.sets (value_at None t.names t.numbers n) (value_at kinds.Unit (map (λ (x : Typed). x.name) known) (map (λ (x : Typed). x.kindred) known) n)
  before n = subst (λ k. IsSetOf t.sets (value_at None t.names t.numbers n) k) (type_named-is known n) (are.symbols n)

  after : (o : Option ℕ) (n : List ℕ) → IsSetOf t.sets o (value_at kinds.Unit (map (λ (x : Typed). x.name) (known ++ e ∷ [])) (map (λ (x : Typed). x.kindred) (known ++ e ∷ [])) n) → IsSetOf t.sets o (type_named (known ++ e ∷ []) n)
  after o n is = subst (λ k. IsSetOf t.sets o k) (sym (type_named-is (known ++ e ∷ []) n)) is

  -- A type whose name is there already changes nothing.
  pub type_there : (names : List (List ℕ)) → names ≡ with_name t.names e.name → has_name t.names e.name ≡ true → AreTypes (known ++ e ∷ []) (record { names = names; numbers = t.numbers; sets = t.sets })
  type_there names is there =
      let kept : names ≡ t.names = is ∙ ap (λ b. cond b t.names (t.names ++ e.name ∷ [])) there in
      record {
        names = λ n. ap (λ xs. has_name xs n) is ∙ names_grown (λ (x : Typed). x.name) known e t.names are.names n;
        paired = ap length kept ∙ are.paired;
        symbols = λ n.
            after (value_at None names t.numbers n) n
            (subst (λ xs. IsSetOf t.sets (value_at None xs t.numbers n) (value_at kinds.Unit (map (λ (x : Typed). x.name) (known ++ e ∷ [])) (map (λ (x : Typed). x.kindred) (known ++ e ∷ [])) n)) (sym kept)
            (named_there (λ (x : Typed). x.name) (λ (x : Typed). x.kindred) None kinds.Unit (IsSetOf t.sets) (λ line s. refl) known e t.names t.numbers are.names there before n));
      }

  -- Another one stands at the end.
  pub type_pushed : (names : List (List ℕ)) (numbers : List (Option ℕ)) (number : Option ℕ) → names ≡ with_name t.names e.name → has_name t.names e.name ≡ false → numbers ≡ t.numbers ++ number ∷ [] → IsSetOf t.sets number e.kindred
      → AreTypes (known ++ e ∷ []) (record { names = names; numbers = numbers; sets = t.sets })
  type_pushed names numbers number is other pushed here =
      let put : names ≡ t.names ++ e.name ∷ [] = is ∙ ap (λ b. cond b t.names (t.names ++ e.name ∷ [])) other in
      record {
        names = λ n. ap (λ xs. has_name xs n) is ∙ names_grown (λ (x : Typed). x.name) known e t.names are.names n;
        paired = ap length put ∙ length-append t.names (e.name ∷ []) ∙ ap (λ k. k + 1) are.paired ∙ sym (length-append t.numbers (number ∷ [])) ∙ sym (ap length pushed);
        symbols = λ n.
            after (value_at None names numbers n) n
            (subst (λ o. IsSetOf t.sets o (value_at kinds.Unit (map (λ (x : Typed). x.name) (known ++ e ∷ [])) (map (λ (x : Typed). x.kindred) (known ++ e ∷ [])) n)) (λ i. value_at None (sym put i) (sym pushed i) n)
            (named_pushed (λ (x : Typed). x.name) (λ (x : Typed). x.kindred) None kinds.Unit (IsSetOf t.sets) (λ line s. refl) known e t.names t.numbers number are.paired are.names before here n));
      }
