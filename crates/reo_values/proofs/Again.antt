-- What is read again from the text of an item.
use Rattle.std.proofs.Common.{◌≡◌, ◌≢◌, ◌∙◌, ◌<◌, ◌≤◌, List, ℕ, ℤ, suc, max, [], ◌∷◌, ◌++◌, Bool, Result, Ok, Err, IfOk, inl, inr, drop, length, get_or, refl, sym, ap, subst, arith}
use Rattle.std.specs.Prelude.{◌≤ℤ◌, codes}
use Rattle.std.specs.List.{All}
use Rattle.std.specs.Fmt.{signed_decimal}
use Rattle.std.specs.Result.{IsErrOf, IsErr, IsErrAnd}
use Rattle.reo_values.specs.declared.fault.ReadFault.{ReadFault}
use Rattle.reo_values.specs.declared.fault.ReadFault.TheVariants as fault
use Rattle.reo_values.specs.declared.value.Value.{Value}
use Rattle.reo_values.specs.declared.value.Value.TheVariants as values
use Rattle.reo_values.specs.declared.value.Couple.{Couple}
use Rattle.reo_values.specs.declared.kindred.Kindred as kindred
use Rattle.reo_values.specs.declared.kindred.Kindred.{Kindred}
use Rattle.reo_values.specs.declared.kindred.Kindred.TheVariants as kinds
use Rattle.reo_values.specs.declared.kindred.Twins.{Twins}
use denote.Hole.Carrier.{hidden}
use Rattle.reo_values.specs.declared.kindred.Kindred.TheBlock.{hidden-the_row-Twins-0}
use Rattle.reo_values.specs.ItemText.{quoted, truth_text, text_of}
use Rattle.reo_values.specs.Kind.{IsIn, IsPlain}
use Rattle.reo_values.specs.Reading.{IsWord, Ends, HasWords, Reads, ReadsAgain}
use Rattle.reo_values.specs.Valid.{IsValid}
use Rattle.reo_values.proofs.ItemTexts.{text_tells, IsWord-text, pair_text}
use Rattle.reo_values.proofs.Members.{in_unit, in_bool, in_int, in_sym, in_text, in_pair}
use Rattle.reo_values.proofs.Pairs.{levels, levels-Pair, IsIn-Pair, IsValid-Pair, Pair_of-equal}
use Rattle.reo_values.proofs.Quotes.{quoted_unique}
use Rattle.reo_values.proofs.Words.{word_unique}

module _ (word new rest : List ℕ) (k : Kindred) (item : Value) (valid : IsValid k) (h : IsIn item k) where
  word_again : (r : Result Value ReadFault) → IfOk r (λ v. IsIn v k × (word ≡ text_of v k)) → (IsErrOf r fault.NotALiteral → (v : Value) → IsIn v k → word ≢ text_of v k)
      → word ≡ text_of item k → new ≡ rest → Reads r new item rest
  word_again (Ok v) found none same left = (text_tells k v item valid found.0 h (sym found.1 ∙ same), left)
  word_again (Err fault.NotALiteral) found none same left = none refl item h same
  word_again (Err fault.NoMemory) found none same left = tt

-- a reader of one exact word reads again what was written, where the word was all up to its end
pub words_again : (result : Result Value ReadFault) (word old new : List ℕ) (k : Kindred) → IsValid k → HasWords k → old ≡ word ++ new → IsWord word → Ends new
    → IfOk result (λ item. IsIn item k × (word ≡ text_of item k))
    → (IsErrOf result fault.NotALiteral → (item : Value) → IsIn item k → word ≢ text_of item k)
    → ReadsAgain result old new k
words_again result word old new k valid words all is_word ends found none item rest h stop e =
    let parts = word_unique word (text_of item k) new rest is_word (IsWord-text k item words valid h) ends stop (sym all ∙ e) in
    word_again word new rest k item valid h result found none parts.0 parts.1

-- the types whose items are words
pub HasWords-other : (k : Kindred) → ((most : ℕ) → k ≡ kinds.Text most → ⊥) → ((y : Twins) → k ≡ kinds.Pair y → ⊥) → HasWords k
unfolding hidden-the_row-Twins-0 hidden
HasWords-other kindred.Unit text pair = tt
HasWords-other kindred.Bool text pair = tt
HasWords-other (kindred.Int low high) text pair = tt
HasWords-other (kindred.Sym names) text pair = tt
HasWords-other (kindred.Text most) text pair = absurd (text most refl)
HasWords-other (kindred.Pair' m (kindred.more_of-Twins a b kindred.end_of-Twins)) text pair = absurd (pair (record { left = a; right = b }) refl)

module _ (k : Kindred) (item : Value) (word : List ℕ) (h : IsIn item k) (e : word ≡ text_of item k) where
  at_item : (t : Kindred) (v : Value) → k ≡ t → item ≡ v → word ≡ text_of v t
  at_item t v p q = e ∙ (λ i. text_of (q i) (p i))

  pub unit_none : k ≡ kinds.Unit → word ≢ codes "unit" → ⊥
  unit_none p other = other (at_item kinds.Unit values.Unit p (in_unit item (subst (λ t. IsIn item t) p h)))

  pub bool_none : k ≡ kinds.Bool → ((b : Bool) → word ≢ truth_text b) → ⊥
  bool_none p none =
      let x = in_bool item (subst (λ t. IsIn item t) p h) in
      none x.0 (at_item kinds.Bool (values.Bool x.0) p x.1)

  pub int_none : (low high : ℤ) → k ≡ kinds.Int low high → ((z : ℤ) → low ≤ℤ z → z ≤ℤ high → word ≢ signed_decimal z) → ⊥
  int_none low high p none =
      let x = in_int low high item (subst (λ t. IsIn item t) p h) in
      none x.0 x.2 x.3 (at_item (kinds.Int low high) (values.Int x.0) p x.1)

  pub sym_none : (names : List (List ℕ)) → k ≡ kinds.Sym names → ((j : ℕ) → j < length names → word ≢ get_or names j []) → ⊥
  sym_none names p none =
      let x = in_sym names item (subst (λ t. IsIn item t) p h) in
      none x.0 x.2 (at_item (kinds.Sym names) (values.Sym x.0) p x.1)

-- an item of a type of texts is that of the quoted bytes at the front
pub text_parts : (most : ℕ) (old new bytes : List ℕ) → old ≡ quoted bytes ++ new → (item : Value) (rest : List ℕ) → IsIn item (kinds.Text most)
    → old ≡ text_of item (kinds.Text most) ++ rest → (values.Text bytes ≡ item) × (new ≡ rest) × (length bytes ≤ most) × All IsPlain bytes
text_parts most old new bytes found item rest h e =
    let x = in_text most item h in
    let same = quoted_unique bytes x.0 new rest (sym found ∙ e ∙ ap (λ v. text_of v (kinds.Text most) ++ rest) x.1) in
    (ap values.Text same.0 ∙ sym x.1, same.1, subst (λ l. length l ≤ most) (sym same.0) x.2, subst (λ l. All IsPlain l) (sym same.0) x.3)

pub text_none : (most : ℕ) (old : List ℕ) → ((bytes rest : List ℕ) → old ≢ quoted bytes ++ rest) → (item : Value) (rest : List ℕ) → IsIn item (kinds.Text most)
    → old ≢ text_of item (kinds.Text most) ++ rest
text_none most old none item rest h e =
    let x = in_text most item h in
    none x.0 rest (e ∙ ap (λ v. text_of v (kinds.Text most) ++ rest) x.1)

-- an item of a type of pairs has two parts, whose texts stand in its own
pub pair_parts : (k : Kindred) (y : Twins) (old : List ℕ) → k ≡ kinds.Pair y → (item : Value) (rest : List ℕ) → IsIn item k → old ≡ text_of item k ++ rest
    → (x : Couple) × (item ≡ values.Pair x) × IsIn x.left y.left × IsIn x.right y.right
    × (old ≡ 40 ∷ (text_of x.left y.left ++ 44 ∷ (text_of x.right y.right ++ 41 ∷ rest)))
pair_parts k y old p item rest h e =
    let x = in_pair y item (subst (λ t. IsIn item t) p h) in
    (x.0, x.1, x.2, x.3, e ∙ (λ i. text_of (x.1 i) (p i) ++ rest) ∙ pair_text x.0 y rest)

-- a fault that says something was there does not say out of memory
pub reads_none : {X : Type 0} (d : ReadFault) (left : List ℕ) (x : X) (rest : List ℕ) → Reads (Err d) left x rest → d ≡ fault.NotALiteral → ⊥
reads_none fault.NotALiteral left x rest reads failed = reads
reads_none fault.NoMemory left x rest reads failed = absurd (cc)

-- and `?` passes it on
pub reads_err : {X : Type 0} (r : Result X ReadFault) (d : ReadFault) (left : List ℕ) (x : X) (rest : List ℕ) → IsErr r × IsErrAnd r (λ y. y ≡ d)
    → (d ≡ fault.NotALiteral → ⊥) → Reads r left x rest
reads_err (Ok v) d left x rest h none = absurd (cc)
reads_err (Err fault.NotALiteral) d left x rest h none = none (sym h.1)
reads_err (Err fault.NoMemory) d left x rest h none = tt

-- the parts of a valid type of pairs are valid
pub pair_valid : (k : Kindred) (y : Twins) → k ≡ kinds.Pair y → IsValid k → IsValid y.left × IsValid y.right
pair_valid k y p valid = rw IsValid-Pair at (subst IsValid p valid)

pub pair_deeper : (k : Kindred) (y : Twins) → k ≡ kinds.Pair y → (levels y.left < levels k) × (levels y.right < levels k)
pair_deeper k y p = let deep : levels k ≡ suc (max (levels y.left) (levels y.right)) = ap levels p ∙ levels-Pair y in (omega arith, omega arith)

after_byte : (byte : ℕ) (old xs ys : List ℕ) → old ≡ byte ∷ xs → old ≡ byte ∷ ys → xs ≡ ys
after_byte byte old xs ys x y = ap (λ l. drop 1 l) (sym x ∙ y)

module _ (k : Kindred) (y : Twins) (old : List ℕ) (p : k ≡ kinds.Pair y) where
  -- two items read between the signs of a pair are a pair that is of the type and has the text read
  pub pair_found : (couple : Couple) (left right : Value) (old1 new1 old2 new2 new : List ℕ) → couple ≡ record { left = left; right = right }
      → IsIn left y.left → IsIn right y.right
      → old ≡ 40 ∷ old1 → old1 ≡ text_of left y.left ++ new1 → new1 ≡ 44 ∷ old2 → old2 ≡ text_of right y.right ++ new2 → new2 ≡ 41 ∷ new
      → IsIn (values.Pair couple) k × (old ≡ text_of (values.Pair couple) k ++ new)
  pair_found couple left right old1 new1 old2 new2 new made g h a b c d e =
      let pair : Couple = record { left = left; right = right } in
      let whole : old ≡ 40 ∷ (text_of left y.left ++ 44 ∷ (text_of right y.right ++ 41 ∷ new)) =
      a ∙ ap (λ l. 40 ∷ l) (b ∙ ap (λ l. text_of left y.left ++ l) (c ∙ ap (λ l. 44 ∷ l) (d ∙ ap (λ l. text_of right y.right ++ l) e))) in
      let member : IsIn (values.Pair pair) (kinds.Pair y) = rw (IsIn-Pair pair y) (g, h) in (
        subst (λ t. IsIn (values.Pair couple) t) (sym p) (subst (λ v. IsIn (values.Pair v) (kinds.Pair y)) (sym made) member),
        whole ∙ sym (pair_text pair y new) ∙ sym (λ i. text_of (values.Pair (made i)) (p i) ++ new),
      )

  module _ (item : Value) (rest : List ℕ) (h : IsIn item k) (e : old ≡ text_of item k ++ rest) where
    abbrev pub couple_of : Couple
    couple_of = (pair_parts k y old p item rest h e).0

    -- the left part is read after the first sign
    pub left_reads : (old1 new1 : List ℕ) (r : Result Value ReadFault) → old ≡ 40 ∷ old1 → ReadsAgain r old1 new1 y.left
        → Reads r new1 couple_of.left (44 ∷ (text_of couple_of.right y.right ++ 41 ∷ rest))
    left_reads old1 new1 r a again =
        let parts = pair_parts k y old p item rest h e in
        again couple_of.left _ parts.2 (inl refl) (after_byte 40 old _ _ a parts.4)

    -- and the right part after the second
    pub right_reads : (old1 new1 old2 new2 : List ℕ) (left : Value) (r : Result Value ReadFault) → old ≡ 40 ∷ old1 → ReadsAgain (Ok left) old1 new1 y.left
        → new1 ≡ 44 ∷ old2 → ReadsAgain r old2 new2 y.right → Reads r new2 couple_of.right (41 ∷ rest)
    right_reads old1 new1 old2 new2 left r a first b again =
        let parts = pair_parts k y old p item rest h e in
        let lefts = left_reads old1 new1 (Ok left) a first in
        again couple_of.right _ parts.3 (inr refl) (after_byte 44 new1 _ _ b lefts.1)

    pub pair_reads : (couple : Couple) (left right : Value) (old1 new1 old2 new2 new : List ℕ) → couple ≡ record { left = left; right = right }
        → old ≡ 40 ∷ old1 → ReadsAgain (Ok left) old1 new1 y.left → new1 ≡ 44 ∷ old2 → ReadsAgain (Ok right) old2 new2 y.right → new2 ≡ 41 ∷ new
        → (values.Pair couple ≡ item) × (new ≡ rest)
    pair_reads couple left right old1 new1 old2 new2 new made a first b second c =
        let parts = pair_parts k y old p item rest h e in
        let lefts = left_reads old1 new1 (Ok left) a first in
        let rights = right_reads old1 new1 old2 new2 left (Ok right) a first b second in
        (ap values.Pair made ∙ Pair_of-equal (record { left = left; right = right }) couple_of lefts.0 rights.0 ∙ sym parts.1, after_byte 41 new2 _ _ c rights.1)
