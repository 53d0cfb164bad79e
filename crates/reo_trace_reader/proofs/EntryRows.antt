-- The entries of a line at the front of a text.
use Rattle.std.proofs.Common.{◌≡◌, ◌∙◌, ◌<◌, ℕ, List, [], ◌∷◌, ◌++◌, Ok, inl, inr, ap, refl, sym, subst, length, length-append, append_assoc, arith}
use Rattle.std.specs.List.{All}
use Rattle.std.specs.Fmt.{decimal}
use Rattle.std.proofs.lemmas.Fmt.{decimal_nonempty}
use Rattle.std.proofs.lemmas.List.Elements.{All-nil, All-cons, All-push}
use Rattle.reo_values.proofs.Words.{first_or}
use Rattle.reo_trace.specs.declared.line.Cell.{Cell}
use Rattle.reo_trace.specs.declared.line.Cell.TheVariants.{Row, Jam}
use Rattle.reo_trace.specs.declared.line.Entry.{Entry}
use Rattle.reo_trace.specs.declared.line.Entry.TheVariants.{One, Two}
use Rattle.reo_trace.specs.RoundText.{cell_text, entry_text}
use Rattle.reo_trace.specs.Spaced.{spaced}
use Rattle.reo_values.specs.decimals.Digits.{IsSmall}
use Rattle.reo_trace_reader.proofs.Digits.{decimal_first}
use Rattle.reo_trace_reader.specs.texts.Lines.{EndsEntry, IsCell, IsEntry}
use Rattle.reo_trace_reader.specs.Ends.{EndsLine}
use Rattle.reo_trace_reader.proofs.RowTexts.{tails, left_first, left_more, left_less, row_stood, IsLeft}
use Rattle.reo_trace_reader.specs.Reads.{ReadsAgain}

decimal_some : (n : ℕ) (rest : List ℕ) → IsSmall n → [] ≡ decimal n ++ rest → ⊥
decimal_some n rest h e =
    let none : 0 ≡ length (decimal n ++ rest) = ap (λ (l : List ℕ). length l) e in
    let some = decimal_nonempty n (omega arith) in
    let both = length-append (decimal n) rest in
    omega arith

-- no cell is the end of a line
cell_no_end : (c : Cell) (old rest : List ℕ) → IsCell c → old ≡ cell_text c ++ rest → EndsLine old → ⊥
cell_no_end (Row n) [] rest h e ends = decimal_some n rest (omega arith) e
cell_no_end (Row n) (byte ∷ bytes) rest h e ends = let d = decimal_first n byte rest bytes (omega arith) (sym e) in omega arith
cell_no_end Jam [] rest h e ends = absurd (cc)
cell_no_end Jam (byte ∷ bytes) rest h e ends = let f : byte ≡ 106 = ap (λ (l : List ℕ). first_or l) e in omega arith

entry_no_end : (x : Entry) (old rest : List ℕ) → IsEntry x → old ≡ entry_text x ++ rest → EndsLine old → ⊥
unfolding entry_text
entry_no_end (One c) old rest h e ends = cell_no_end c old rest h e ends
entry_no_end (Two m t) old rest h e ends = cell_no_end m old (46 ∷ (cell_text t ++ rest)) h.0 (e ∙ append_assoc (cell_text m) (46 ∷ cell_text t) rest) ends

-- where the line ends there are no entries
pub none_reads : (old : List ℕ) (xs : List Entry) (rest : List ℕ) → EndsLine old → All IsEntry xs → old ≡ spaced entry_text xs ++ rest → ([] ≡ xs) × (old ≡ rest)
none_reads old [] rest ends h e = (refl, e)
none_reads old (x ∷ xs) rest ends h e =
    let first = left_first entry_text IsEntry x xs old old rest h e in
    absurd (entry_no_end x old (tails entry_text xs ++ rest) first.1 first.0 ends)

-- and where it does not there is a first
pub some_reads : (old : List ℕ) (xs : List Entry) (rest : List ℕ) → (EndsLine old → ⊥) → All IsEntry xs → EndsLine rest → old ≡ spaced entry_text xs ++ rest
    → (x : Entry) × (ys : List Entry) × (xs ≡ x ∷ ys) × IsEntry x × All IsEntry ys × (old ≡ entry_text x ++ (tails entry_text ys ++ rest))
some_reads old [] rest goes h ends e = absurd (goes (subst EndsLine (sym e) ends))
some_reads old (x ∷ xs) rest goes h ends e =
    let first = left_first entry_text IsEntry x xs old old rest h e in
    (x, xs, refl, first.1, first.2, first.0)

-- what comes after an entry ends it
pub ends_entry : (xs : List Entry) (rest : List ℕ) → EndsLine rest → EndsEntry (tails entry_text xs ++ rest)
ends_entry [] [] h = tt
ends_entry [] (byte ∷ bytes) h = inr h
ends_entry (x ∷ xs) rest h = inl refl

-- no end of a line is a space
pub ends_no_space : (rest mid : List ℕ) → EndsLine rest → 32 ∷ mid ≡ rest → ⊥
ends_no_space [] mid h e = absurd (cc)
ends_no_space (byte ∷ bytes) mid h e = let f : 32 ≡ byte = ap (λ (l : List ℕ). first_or l) e in omega arith

-- entries that were read
pub record AreRead (old : List ℕ) (made : List Entry) (left : List ℕ) : Type 0 where
  pub some : 0 < length made
  pub fit : All IsEntry made
  pub stood : old ≡ spaced entry_text made ++ left
  pub again : (xs : List Entry) (rest : List ℕ) → All IsEntry xs → EndsLine rest → old ≡ spaced entry_text xs ++ rest → IsLeft entry_text IsEntry xs made left rest

-- the first is read
pub first_read : (old new : List ℕ) (first : Entry) (made : List Entry) → made ≡ first ∷ [] → IsEntry first → old ≡ entry_text first ++ new
    → ((xs : List Entry) (rest : List ℕ) → All IsEntry xs → EndsLine rest → old ≡ spaced entry_text xs ++ rest
    → (ys : List Entry) × (xs ≡ first ∷ ys) × All IsEntry ys × (new ≡ tails entry_text ys ++ rest))
    → AreRead old made new
first_read old new first made e fit stood again = subst (λ l. AreRead old l new) (sym e) (record {
  some = omega arith;
  fit = All-cons IsEntry first [] fit (All-nil IsEntry);
  stood = stood;
  again = λ xs rest h ends f. let parts = again xs rest h ends f in record { more = parts.0; whole = parts.1; fit = parts.2; stands = parts.3 };
})

-- and so is the next behind a space
pub next_read : (old left mid new : List ℕ) (made : List Entry) (next : Entry) (now : List Entry) → AreRead old made left → left ≡ 32 ∷ mid → now ≡ made ++ next ∷ []
    → IsEntry next → mid ≡ entry_text next ++ new → ReadsAgain IsEntry entry_text EndsEntry (Ok next) mid new → AreRead old now new
next_read old left mid new made next now read space e fit stood again = subst (λ l. AreRead old l new) (sym e) (record {
  some = omega (arith, length-append made (next ∷ []));
  fit = All-push IsEntry made next read.fit fit;
  stood = row_stood entry_text old left mid new made next read.some read.stood space stood;
  again = λ xs rest h ends f.
      let more = left_more entry_text IsEntry xs made left rest mid (read.again xs rest h ends f) space (λ same. ends_no_space rest mid ends (sym space ∙ same)) in
      let one = again more.0 _ more.3 (ends_entry more.1 rest ends) more.5 in
      left_less entry_text IsEntry xs made more.0 next more.1 new rest more.2 more.4 one.0 one.1;
})
