-- The text of an item, with what comes after it, tells the item.
use Rattle.std.proofs.Common.{◌≡◌, ◌∙◌, ◌<◌, ◌⊎◌, ℕ, ℤ, List, [], ◌∷◌, ◌++◌, Bool, true, false, inl, inr, length, get_or, drop, ap, refl, sym, subst, append_assoc, arith}
use Rattle.std.specs.Prelude.{codes, FitsSigned}
use Rattle.std.specs.Int.{w64}
use Rattle.std.specs.Fmt.{signed_decimal}
use Rattle.std.proofs.lemmas.Fmt.{signed_decimal_injective}
use Rattle.std.proofs.lemmas.List.{append_cancel_left}
use Rattle.std.proofs.lemmas.List.Elements.{All-get_or}
use denote.Hole.Carrier.{hidden}
use Rattle.reo_values.specs.declared.value.Value.TheBlock.{hidden-the_row-Couple-0}
use Rattle.reo_values.specs.declared.kindred.Kindred.TheBlock.{hidden-the_row-Twins-0}
use Rattle.reo_values.specs.declared.kindred.Kindred as kindred
use Rattle.reo_values.specs.declared.value.Couple.{Couple}
use Rattle.reo_values.specs.declared.kindred.Twins.{Twins}
use Rattle.reo_values.specs.declared.value.Value.{Value}
use Rattle.reo_values.specs.declared.kindred.Kindred.{Kindred}
use Rattle.reo_values.specs.declared.value.Value.TheVariants as values
use Rattle.reo_values.specs.declared.kindred.Kindred.TheVariants as kinds
use Rattle.reo_values.specs.ItemText.{text_of}
use Rattle.reo_values.specs.Kind.{IsIn}
use Rattle.reo_values.specs.Reading.{IsWord, Ends, HasWords}
use Rattle.reo_values.specs.Names.{IsName}
use Rattle.reo_values.specs.Valid.{AreNames, IsValid}
use Rattle.reo_values.proofs.Members.{in_unit, in_bool, in_int, in_sym, in_text, in_pair}
use Rattle.reo_values.proofs.Numbers.{fits_between, mag_small}
use Rattle.reo_values.proofs.Pairs.{Pair_of-equal, text_of-Pair}
use Rattle.reo_values.proofs.Quotes.{quoted_unique}
use Rattle.reo_values.proofs.Words.{first_or, IsWord-tested, word_unique, IsWord-name, IsWord-signed}

-- the text of a pair, with what comes after it
pub pair_text : (x : Couple) (y : Twins) (r : List ℕ)
    → text_of (values.Pair x) (kinds.Pair y) ++ r ≡ 40 ∷ (text_of x.left y.left ++ 44 ∷ (text_of x.right y.right ++ 41 ∷ r))
pair_text x y r =
    ap (λ l. l ++ r) (text_of-Pair x y)
    ∙ ap (λ l. 40 ∷ l) (append_assoc (text_of x.left y.left ++ 44 ∷ text_of x.right y.right) (41 ∷ []) r
    ∙ append_assoc (text_of x.left y.left) (44 ∷ text_of x.right y.right) (41 ∷ r))

-- the same equation where the items are given by equations
along : (k : Kindred) (a b a' b' : Value) (r s : List ℕ) → a ≡ a' → b ≡ b' → text_of a k ++ r ≡ text_of b k ++ s → text_of a' k ++ r ≡ text_of b' k ++ s
along k a b a' b' r s x y e = sym (ap (λ v. text_of v k ++ r) x) ∙ e ∙ ap (λ v. text_of v k ++ s) y

other_heads : {X : Type 0} (x y : ℕ) (xs ys : List ℕ) → (x < y) ⊎ (y < x) → x ∷ xs ≡ y ∷ ys → X
other_heads x y xs ys apart e = let same : x ≡ y = ap first_or e in absurd (grind arith)

bool_unique : (p q : Bool) (r s : List ℕ) → text_of (values.Bool p) kinds.Bool ++ r ≡ text_of (values.Bool q) kinds.Bool ++ s → (p ≡ q) × (r ≡ s)
bool_unique true true r s e = (refl, append_cancel_left (codes "true") r s e)
bool_unique true false r s e = other_heads 116 102 (codes "rue" ++ r) (codes "alse" ++ s) (inr (omega arith)) e
bool_unique false true r s e = other_heads 102 116 (codes "alse" ++ r) (codes "rue" ++ s) (inl (omega arith)) e
bool_unique false false r s e = (refl, append_cancel_left (codes "false") r s e)

number_unique : (y z : ℤ) (r s : List ℕ) → FitsSigned w64 y → FitsSigned w64 z → Ends r → Ends s → signed_decimal y ++ r ≡ signed_decimal z ++ s → (y ≡ z) × (r ≡ s)
number_unique y z r s f g p q e =
    let parts = word_unique (signed_decimal y) (signed_decimal z) r s (IsWord-signed y f) (IsWord-signed z g) p q e in
    (signed_decimal_injective y z (mag_small y f) (mag_small z g) parts.0, parts.1)

-- each name is a word
pub name_at-IsWord : (names : List (List ℕ)) (k : ℕ) → AreNames names → k < length names → IsWord (get_or names k [])
name_at-IsWord names k valid h = IsWord-name _ (All-get_or IsName names k [] h valid.words)

name_unique : (names : List (List ℕ)) (j k : ℕ) (r s : List ℕ) → AreNames names → j < length names → k < length names → Ends r → Ends s
    → get_or names j [] ++ r ≡ get_or names k [] ++ s → (j ≡ k) × (r ≡ s)
name_unique names j k r s valid g h p q e =
    let parts = word_unique (get_or names j []) (get_or names k []) r s (name_at-IsWord names j valid g) (name_at-IsWord names k valid h) p q e in
    (valid.distinct j k g h parts.0, parts.1)

-- two items of one valid type whose texts stand at the front of one text are one item
pub text_unique : (k : Kindred) (a b : Value) (r s : List ℕ) → IsValid k → IsIn a k → IsIn b k → Ends r → Ends s → text_of a k ++ r ≡ text_of b k ++ s → (a ≡ b) × (r ≡ s)
unfolding hidden-the_row-Couple-0 hidden hidden-the_row-Twins-0
text_unique kindred.Unit a b r s valid h g p q e =
    let x = in_unit a h in
    let y = in_unit b g in
    (x ∙ sym y, append_cancel_left (codes "unit") r s (along kinds.Unit a b values.Unit values.Unit r s x y e))
text_unique kindred.Bool a b r s valid h g p q e =
    let x = in_bool a h in
    let y = in_bool b g in
    let same = bool_unique x.0 y.0 r s (along kinds.Bool a b (values.Bool x.0) (values.Bool y.0) r s x.1 y.1 e) in
    (x.1 ∙ ap values.Bool same.0 ∙ sym y.1, same.1)
text_unique (kindred.Int low high) a b r s valid h g p q e =
    let x = in_int low high a h in
    let y = in_int low high b g in
    let same = number_unique x.0 y.0 r s (fits_between low high x.0 valid.0 valid.1 x.2 x.3) (fits_between low high y.0 valid.0 valid.1 y.2 y.3) p q
    (along (kinds.Int low high) a b (values.Int x.0) (values.Int y.0) r s x.1 y.1 e) in
    (x.1 ∙ ap values.Int same.0 ∙ sym y.1, same.1)
text_unique (kindred.Sym names) a b r s valid h g p q e =
    let x = in_sym names a h in
    let y = in_sym names b g in
    let same = name_unique names x.0 y.0 r s valid x.2 y.2 p q (along (kinds.Sym names) a b (values.Sym x.0) (values.Sym y.0) r s x.1 y.1 e) in
    (x.1 ∙ ap values.Sym same.0 ∙ sym y.1, same.1)
text_unique (kindred.Text most) a b r s valid h g p q e =
    let x = in_text most a h in
    let y = in_text most b g in
    let same = quoted_unique x.0 y.0 r s (along (kinds.Text most) a b (values.Text x.0) (values.Text y.0) r s x.1 y.1 e) in
    (x.1 ∙ ap values.Text same.0 ∙ sym y.1, same.1)
text_unique (kindred.Pair' m (kindred.more_of-Twins c d kindred.end_of-Twins)) a b r s valid h g p q e =
    let t : Twins = record { left = c; right = d } in
    let x = in_pair t a h in
    let y = in_pair t b g in
    let both = along (kinds.Pair t) a b (values.Pair x.0) (values.Pair y.0) r s x.1 y.1 e in
    let parts = ap (λ l. drop 1 l) (sym (pair_text x.0 t r) ∙ both ∙ pair_text y.0 t s) in
    let lefts = text_unique c x.0.left y.0.left _ _ valid.0 x.2 y.2 (inl refl) (inl refl) parts in
    let rights = text_unique d x.0.right y.0.right _ _ valid.1 x.3 y.3 (inr refl) (inr refl) (ap (λ l. drop 1 l) lefts.1) in
    (x.1 ∙ Pair_of-equal x.0 y.0 lefts.0 rights.0 ∙ sym y.1, ap (λ l. drop 1 l) rights.1)

-- two items of one valid type with one text are one item
pub text_tells : (k : Kindred) (a b : Value) → IsValid k → IsIn a k → IsIn b k → text_of a k ≡ text_of b k → a ≡ b
text_tells k a b valid h g e = (text_unique k a b [] [] valid h g tt tt (ap (λ l. l ++ []) e)).0

bool_word : (b : Bool) → IsWord (text_of (values.Bool b) kinds.Bool)
bool_word true = IsWord-tested (codes "true") refl
bool_word false = IsWord-tested (codes "false") refl

-- the text of an item of such a type is a word
pub IsWord-text : (k : Kindred) (item : Value) → HasWords k → IsValid k → IsIn item k → IsWord (text_of item k)
IsWord-text kindred.Unit item words valid h = subst (λ v. IsWord (text_of v kinds.Unit)) (sym (in_unit item h)) (IsWord-tested (codes "unit") refl)
IsWord-text kindred.Bool item words valid h = let x = in_bool item h in subst (λ v. IsWord (text_of v kinds.Bool)) (sym x.1) (bool_word x.0)
IsWord-text (kindred.Int low high) item words valid h =
    let x = in_int low high item h in
    subst (λ v. IsWord (text_of v (kinds.Int low high))) (sym x.1) (IsWord-signed x.0 (fits_between low high x.0 valid.0 valid.1 x.2 x.3))
IsWord-text (kindred.Sym names) item words valid h =
    let x = in_sym names item h in
    subst (λ v. IsWord (text_of v (kinds.Sym names))) (sym x.1) (name_at-IsWord names x.0 valid x.2)
IsWord-text (kindred.Text most) item words valid h = absurd words
IsWord-text (kindred.Pair' m (kindred.more_of-Twins c d kindred.end_of-Twins)) item words valid h = absurd words
