-- Where the text of an item ends: at the first space that is in no quotes.
use Rattle.std.proofs.Common.{◌≡◌, ◌∙◌, ◌==◌, not, Bool, true, false, ◌+◌, ℕ, suc, List, [], ◌∷◌, ◌++◌, length, take, drop, ap, refl, sym, subst, append_assoc, length-append, arith}
use Rattle.std.specs.Prelude.{codes, if◌then◌else◌}
use Rattle.std.specs.List.{flat_map}
use Rattle.std.specs.Fmt.{signed_decimal}
use Rattle.std.proofs.lemmas.Bool.{eq-eqb, ne_eqb}
use Rattle.std.proofs.lemmas.Grind.{common_steps}
use Rattle.std.proofs.lemmas.List.{take_at, drop_at}
use Rattle.std.proofs.lemmas.List.Elements.{All-head, All-tail}
use denote.Hole.Carrier.{hidden}
use Rattle.reo_values.specs.declared.value.Value.TheBlock.{hidden-the_row-Couple-0}
use Rattle.reo_values.specs.declared.kindred.Kindred.TheBlock.{hidden-the_row-Twins-0}
use Rattle.reo_values.specs.declared.kindred.Kindred as kindred
use Rattle.reo_values.specs.declared.kindred.Twins.{Twins}
use Rattle.reo_values.specs.declared.value.Value.{Value}
use Rattle.reo_values.specs.declared.kindred.Kindred.{Kindred}
use Rattle.reo_values.specs.declared.value.Value.TheVariants as values
use Rattle.reo_values.specs.declared.kindred.Kindred.TheVariants as kinds
use Rattle.reo_values.specs.ItemText.{escape, quoted, text_of}
use Rattle.reo_values.specs.Kind.{IsIn}
use Rattle.reo_values.specs.Valid.{IsValid}
use Rattle.reo_values.proofs.Members.{in_unit, in_bool, in_int, in_sym, in_text, in_pair}
use Rattle.reo_values.proofs.Numbers.{fits_between}
use Rattle.reo_values.proofs.ItemTexts.{text_tells}
use Rattle.reo_values.proofs.Pairs.{text_of-Pair}
use Rattle.reo_trace_reader.proofs.texts.Tight.{IsTight, AreTight, are_tight, AreTight-tested, AreTight-signed, AreTight-name_at}

-- how many bytes stand before the first space that is in no quotes; whether the first byte is in quotes, and after a backslash
abbrev pub item_length : Bool → Bool → List ℕ → ℕ
item_length is_quoted escaped [] = 0
item_length false escaped (byte ∷ bytes) = if byte == 32 then 0 else suc (item_length (byte == 34) false bytes)
item_length true true (byte ∷ bytes) = suc (item_length true false bytes)
item_length true false (byte ∷ bytes) = suc (item_length (not (byte == 34)) (byte == 92) bytes)

-- what may come after an item: nothing, or a space
abbrev pub Stops : List ℕ → Type 0
Stops [] = Unit {0}
Stops (byte ∷ bytes) = byte ≡ 32

-- no space out of quotes is in these bytes, and no quotes are open after them
abbrev pub Passes : List ℕ → Type 0
Passes bytes = (rest : List ℕ) → item_length false false (bytes ++ rest) ≡ length bytes + item_length false false rest

pub Passes-nil : Passes []
Passes-nil rest = omega arith

pub Passes-append : (xs ys : List ℕ) → Passes xs → Passes ys → Passes (xs ++ ys)
Passes-append xs ys p q rest =
    let whole = ap (λ l. item_length false false l) (append_assoc xs ys rest) in
    let first = p (ys ++ rest) in
    let second = q rest in
    let both = length-append xs ys in
    omega arith

pub tight_step : (byte : ℕ) (bytes : List ℕ) → IsTight byte → item_length false false (byte ∷ bytes) ≡ suc (item_length false false bytes)
tight_step byte bytes h = rw (ne_eqb byte 32 h.0, ne_eqb byte 34 h.1)

pub Passes-tight : (bytes : List ℕ) → AreTight bytes → Passes bytes
Passes-tight [] h = Passes-nil
Passes-tight (byte ∷ bytes) h = λ rest.
    let first = tight_step byte (bytes ++ rest) (All-head IsTight byte bytes h) in
    let more = Passes-tight bytes (All-tail IsTight byte bytes h) rest in
    omega arith

-- in quotes an escaped byte is passed over
escape_inside : (byte : ℕ) (rest : List ℕ) → item_length true false (escape byte ++ rest) ≡ length (escape byte) + item_length true false rest
escape_inside byte rest = grind (arith, common_steps)

inside : (bytes rest : List ℕ) → item_length true false (flat_map escape bytes ++ 34 ∷ rest) ≡ length (flat_map escape bytes) + suc (item_length false false rest)
inside [] rest = omega arith
inside (byte ∷ bytes) rest =
    let whole = ap (λ l. item_length true false l) (append_assoc (escape byte) (flat_map escape bytes) (34 ∷ rest)) in
    let first = escape_inside byte (flat_map escape bytes ++ 34 ∷ rest) in
    let more = inside bytes rest in
    let both = length-append (escape byte) (flat_map escape bytes) in
    omega arith

pub Passes-quoted : (bytes : List ℕ) → Passes (quoted bytes)
Passes-quoted bytes rest =
    let whole = ap (λ l. item_length true false l) (append_assoc (flat_map escape bytes) (34 ∷ []) rest) in
    let more = inside bytes rest in
    let both = length-append (flat_map escape bytes) (34 ∷ []) in
    omega arith

bool_passes : (b : Bool) → Passes (text_of (values.Bool b) kinds.Bool)
bool_passes true = Passes-tight (codes "true") (AreTight-tested (codes "true") refl)
bool_passes false = Passes-tight (codes "false") (AreTight-tested (codes "false") refl)

pair_passes : (left right : List ℕ) → Passes left → Passes right → Passes (40 ∷ left ++ 44 ∷ right ++ 41 ∷ [])
pair_passes left right p q =
    let sign = λ (byte : ℕ) (h : are_tight (byte ∷ []) ≡ true). Passes-tight (byte ∷ []) (AreTight-tested (byte ∷ []) h) in
    let first = Passes-append (40 ∷ []) left (sign 40 refl) p in
    let second = Passes-append (44 ∷ []) right (sign 44 refl) q in
    Passes-append (40 ∷ left ++ 44 ∷ right) (41 ∷ []) (Passes-append (40 ∷ left) (44 ∷ right) first second) (sign 41 refl)

-- the whole text of an item is passed over
pub Passes-item : (k : Kindred) (item : Value) → IsValid k → IsIn item k → Passes (text_of item k)
unfolding hidden-the_row-Couple-0 hidden hidden-the_row-Twins-0
Passes-item kindred.Unit item valid h = subst (λ v. Passes (text_of v kinds.Unit)) (sym (in_unit item h)) (Passes-tight (codes "unit") (AreTight-tested (codes "unit") refl))
Passes-item kindred.Bool item valid h = let x = in_bool item h in subst (λ v. Passes (text_of v kinds.Bool)) (sym x.1) (bool_passes x.0)
Passes-item (kindred.Int low high) item valid h =
    let x = in_int low high item h in
    subst (λ v. Passes (text_of v (kinds.Int low high))) (sym x.1)
    (Passes-tight (signed_decimal x.0) (AreTight-signed x.0 (fits_between low high x.0 valid.0 valid.1 x.2 x.3)))
Passes-item (kindred.Sym names) item valid h =
    let x = in_sym names item h in
    subst (λ v. Passes (text_of v (kinds.Sym names))) (sym x.1) (Passes-tight _ (AreTight-name_at names x.0 valid x.2))
Passes-item (kindred.Text most) item valid h =
    let x = in_text most item h in
    subst (λ v. Passes (text_of v (kinds.Text most))) (sym x.1) (Passes-quoted x.0)
Passes-item (kindred.Pair' m (kindred.more_of-Twins c d kindred.end_of-Twins)) item valid h =
    let t : Twins = record { left = c; right = d } in
    let x = in_pair t item h in
    subst (λ v. Passes (text_of v (kinds.Pair t))) (sym x.1)
    (subst Passes (sym (text_of-Pair x.0 t)) (pair_passes (text_of x.0.left c) (text_of x.0.right d) (Passes-item c x.0.left valid.0 x.2) (Passes-item d x.0.right valid.1 x.3)))

stops_at : (rest : List ℕ) → Stops rest → item_length false false rest ≡ 0
stops_at [] h = refl
stops_at (byte ∷ bytes) h = rw (eq-eqb byte 32 h)

-- and so the first space that is in no quotes stands after it
pub length_of-item : (k : Kindred) (item : Value) (rest : List ℕ) → IsValid k → IsIn item k → Stops rest → item_length false false (text_of item k ++ rest) ≡ length (text_of item k)
length_of-item k item rest valid h stop =
    let whole = Passes-item k item valid h rest in
    let none = stops_at rest stop in
    omega arith

-- texts of one length at the front of one list are one text
fronts : (n : ℕ) (xs ys r s : List ℕ) → length xs ≡ n → length ys ≡ n → xs ++ r ≡ ys ++ s → (xs ≡ ys) × (r ≡ s)
fronts n xs ys r s a b e =
    (sym (take_at xs r n a) ∙ ap (λ l. take n l) e ∙ take_at ys s n b, sym (drop_at xs r n a) ∙ ap (λ l. drop n l) e ∙ drop_at ys s n b)

-- two items of one valid type whose texts stand at the front of one text, before a space, are one item
pub item_unique : (k : Kindred) (a b : Value) (r s : List ℕ) → IsValid k → IsIn a k → IsIn b k → Stops r → Stops s → text_of a k ++ r ≡ text_of b k ++ s → (a ≡ b) × (r ≡ s)
item_unique k a b r s valid h g p q e =
    let parts = fronts (item_length false false (text_of a k ++ r)) (text_of a k) (text_of b k) r s
    (sym (length_of-item k a r valid h p)) (sym (length_of-item k b s valid g q) ∙ sym (ap (λ l. item_length false false l) e)) e in
    (text_tells k a b valid h g parts.0, parts.1)
