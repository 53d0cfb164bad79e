-- The entries of a round line.
use Rattle.std.proofs.Common.{◌≡◌, ◌∙◌, ℕ, List, [], ◌∷◌, ◌++◌, inl, inr, drop, ap, refl, sym, append_assoc, arith}
use Rattle.std.specs.Prelude.{codes}
use Rattle.std.specs.List.{All}
use Rattle.std.proofs.lemmas.List.Elements.{All-head}
use Rattle.reo_trace.specs.Spaced.{spaced}
use Rattle.reo_trace_reader.proofs.texts.Rows.{AreToldApart, row_head, row_unique}
use Rattle.reo_trace.specs.declared.line.Cell.{Cell}
use Rattle.reo_trace.specs.declared.line.Cell.TheVariants.{Row, Jam}
use Rattle.reo_trace.specs.declared.line.Entry.{Entry}
use Rattle.reo_trace.specs.declared.line.Entry.TheVariants.{One, Two}
use Rattle.reo_trace.specs.RoundText.{cell_text, entry_text}
use Rattle.reo_trace_reader.specs.texts.Lines.{EndsEntry, IsCell, IsEntry}
use Rattle.reo_values.proofs.Words.{first_or}
use Rattle.reo_values.specs.decimals.Digits.{IsDigit, NoDigit}
use Rattle.reo_trace_reader.proofs.Digits.{decimal_no_other, decimal_unique, dot_no_digit, feed_no_digit}
use Rattle.reo_values.proofs.decimals.Fronts.{heads_apart}

jam_no_digit : IsDigit 106 → ⊥
jam_no_digit h = omega arith

-- a cell and what comes after it, if that begins with no digit
pub cell_unique : (a b : Cell) (r s : List ℕ) → IsCell a → IsCell b → NoDigit r → NoDigit s → cell_text a ++ r ≡ cell_text b ++ s → (a ≡ b) × (r ≡ s)
cell_unique (Row m) (Row n) r s h g p q e =
    let parts = decimal_unique m n r s (omega arith) (omega arith) p q e in
    (ap Row parts.0, parts.1)
cell_unique (Row m) Jam r s h g p q e = absurd (decimal_no_other m r (106 ∷ s) (omega arith) p jam_no_digit e)
cell_unique Jam (Row n) r s h g p q e = absurd (decimal_no_other n s (106 ∷ r) (omega arith) q jam_no_digit (sym e))
cell_unique Jam Jam r s h g p q e = (refl, ap (λ l. drop 1 l) e)

-- the end of an entry is no digit
pub end_no_digit : (r : List ℕ) → EndsEntry r → NoDigit r
end_no_digit [] h = tt
end_no_digit (byte ∷ bytes) h = λ d. grind arith

-- nor a dot
pub dot_no_end : (r s : List ℕ) → EndsEntry r → r ≡ 46 ∷ s → ⊥
dot_no_end [] s h e = absurd (cc)
dot_no_end (byte ∷ bytes) s h e = let same : byte ≡ 46 = ap first_or e in grind arith

-- an entry of one cell, and one of two, with what comes after
pub one_text : (c : Cell) (r : List ℕ) → entry_text (One c) ++ r ≡ cell_text c ++ r
unfolding entry_text
one_text c r = refl

pub two_text : (m t : Cell) (r : List ℕ) → entry_text (Two m t) ++ r ≡ cell_text m ++ (46 ∷ (cell_text t ++ r))
unfolding entry_text
two_text m t r = append_assoc (cell_text m) (46 ∷ cell_text t) r

pub entry_unique : (a b : Entry) (r s : List ℕ) → IsEntry a → IsEntry b → EndsEntry r → EndsEntry s → entry_text a ++ r ≡ entry_text b ++ s → (a ≡ b) × (r ≡ s)
entry_unique (One c) (One d) r s h g p q e =
    let parts = cell_unique c d r s h g (end_no_digit r p) (end_no_digit s q) (sym (one_text c r) ∙ e ∙ one_text d s) in
    (ap One parts.0, parts.1)
entry_unique (One c) (Two m t) r s h g p q e =
    let parts = cell_unique c m r (46 ∷ (cell_text t ++ s)) h g.0 (end_no_digit r p) dot_no_digit (sym (one_text c r) ∙ e ∙ two_text m t s) in
    absurd (dot_no_end r _ p parts.1)
entry_unique (Two m t) (One d) r s h g p q e =
    let parts = cell_unique m d (46 ∷ (cell_text t ++ r)) s h.0 g dot_no_digit (end_no_digit s q) (sym (two_text m t r) ∙ e ∙ one_text d s) in
    absurd (dot_no_end s _ q (sym parts.1))
entry_unique (Two m t) (Two n u) r s h g p q e =
    let mouths = cell_unique m n (46 ∷ (cell_text t ++ r)) (46 ∷ (cell_text u ++ s)) h.0 g.0 dot_no_digit dot_no_digit (sym (two_text m t r) ∙ e ∙ two_text n u s) in
    let tails = cell_unique t u r s h.1 g.1 (end_no_digit r p) (end_no_digit s q) (ap (λ l. drop 1 l) mouths.1) in
    ((λ i. Two (mouths.0 i) (tails.0 i)), tails.1)

-- no entry begins with a line feed
cell_no-feed : (c : Cell) (r s : List ℕ) → IsCell c → NoDigit r → cell_text c ++ r ≡ 10 ∷ s → ⊥
cell_no-feed (Row n) r s h p e = decimal_no_other n r (10 ∷ s) (omega arith) p feed_no_digit e
cell_no-feed Jam r s h p e = heads_apart 106 10 r s refl e

pub entry_no-feed : (a : Entry) (r s : List ℕ) → IsEntry a → EndsEntry r → entry_text a ++ r ≡ 10 ∷ s → ⊥
entry_no-feed (One c) r s h p e = cell_no-feed c r s h (end_no_digit r p) (sym (one_text c r) ∙ e)
entry_no-feed (Two m t) r s h p e = cell_no-feed m (46 ∷ (cell_text t ++ r)) s h.0 dot_no_digit (sym (two_text m t r) ∙ e)

-- entries are told in a row before the line feed
space_no-feed : (a : Entry) (r s : List ℕ) → 32 ∷ (entry_text a ++ r) ≡ codes "\n" ++ s → ⊥
space_no-feed a r s e = heads_apart 32 10 _ _ refl e

pub entries_apart : AreToldApart entry_text IsEntry EndsEntry (codes "\n")
entries_apart = record {
  unique = entry_unique;
  after_space = λ r. inl refl;
  after_last = λ r. inr refl;
  more_no-last = λ a r s h stop e. space_no-feed a r s e;
}

row_no-feed : (x : Entry) (xs : List Entry) (r s : List ℕ) → IsEntry x → 10 ∷ r ≡ spaced entry_text (x ∷ xs) ++ (10 ∷ s) → ⊥
row_no-feed x xs r s h e =
    let head = row_head entry_text IsEntry EndsEntry (codes "\n") entries_apart x xs s in
    entry_no-feed x head.0 r h head.2 (sym (e ∙ head.1))

-- the entries of a line, and what comes after it
pub entries_unique : (xs ys : List Entry) (r s : List ℕ) → All IsEntry xs → All IsEntry ys → spaced entry_text xs ++ (10 ∷ r) ≡ spaced entry_text ys ++ (10 ∷ s) → (xs ≡ ys) × (r ≡ s)
entries_unique [] [] r s h g e = (refl, ap (λ l. drop 1 l) e)
entries_unique [] (y ∷ ys) r s h g e = absurd (row_no-feed y ys r s (All-head IsEntry y ys g) e)
entries_unique (x ∷ xs) [] r s h g e = absurd (row_no-feed x xs s r (All-head IsEntry x xs h) (sym e))
entries_unique (x ∷ xs) (y ∷ ys) r s h g e =
    let parts = row_unique entry_text IsEntry EndsEntry (codes "\n") entries_apart x y xs ys r s h g e in
    (parts.0, ap (λ l. drop 1 l) parts.1)
