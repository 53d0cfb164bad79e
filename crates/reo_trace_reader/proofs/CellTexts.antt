-- Cells and entries at the front of a text.
use Rattle.std.proofs.Common.{◌≡◌, ◌∙◌, ◌<◌, ◌^◌, ◌⊎◌, ℕ, List, ◌∷◌, ◌++◌, Result, inl, inr, ap, refl, sym, drop, append_assoc, arith}
use Rattle.std.specs.Prelude.{codes}
use Rattle.reo_trace.specs.declared.line.Cell.{Cell}
use Rattle.reo_trace.specs.declared.line.Cell.TheVariants.{Row, Jam}
use Rattle.reo_trace.specs.declared.line.Entry.{Entry}
use Rattle.reo_trace.specs.declared.line.Entry.TheVariants.{One, Two}
use Rattle.reo_trace.specs.RoundText.{cell_text, entry_text}
use Rattle.reo_values.specs.decimals.Digits.{IsSmall, NoDigit}
use Rattle.reo_trace_reader.proofs.Digits.{decimal_first, dot_no_digit}
use Rattle.reo_trace_reader.specs.texts.Lines.{EndsEntry, IsCell, IsEntry}
use Rattle.reo_trace_reader.proofs.texts.Entries.{dot_no_end, end_no_digit}
use Rattle.reo_trace_reader.specs.declared.texts.fault.LineFault.{LineFault}
use Rattle.std.specs.Fmt.{decimal}
use Rattle.reo_trace_reader.specs.Reads.{Reads, ReadsAgain}

-- no number begins as the jam row does
pub jam_no_row : (n : ℕ) (new rest : List ℕ) → IsSmall n → codes "j" ++ new ≡ decimal n ++ rest → ⊥
jam_no_row n new rest h e = let d = decimal_first n 106 rest new h (sym e) in omega arith

-- a cell whose letter is not next is a row
pub row_reads : (old new : List ℕ) (r : Result ℕ LineFault) → ((rest : List ℕ) → old ≡ codes "j" ++ rest → ⊥) → ReadsAgain IsSmall decimal NoDigit r old new
    → (x : Cell) (rest : List ℕ) → IsCell x → NoDigit rest → old ≡ cell_text x ++ rest → (n : ℕ) × (x ≡ Row n) × (n < 2 ^ 32) × Reads r new n rest
row_reads old new r none again (Row n) rest h ends e = (n, refl, h, again n rest (omega arith) ends e)
row_reads old new r none again Jam rest h ends e = absurd (none rest e)

-- the first cell of an entry, and what comes after it
pub record AreParts (x : Entry) (rest : List ℕ) (mouth : Cell) (after : List ℕ) : Type 0 where
  pub cell : IsCell mouth
  pub ends : NoDigit after
  pub tells : ((x ≡ One mouth) × (after ≡ rest)) ⊎ ((tail : Cell) × (x ≡ Two mouth tail) × IsCell tail × (after ≡ 46 ∷ (cell_text tail ++ rest)))

pub entry_parts : (old : List ℕ) (x : Entry) (rest : List ℕ) → IsEntry x → EndsEntry rest → old ≡ entry_text x ++ rest
    → (mouth : Cell) × (after : List ℕ) × (old ≡ cell_text mouth ++ after) × AreParts x rest mouth after
unfolding entry_text
entry_parts old (One cell) rest h ends e = (cell, rest, e, record { cell = h; ends = end_no_digit rest ends; tells = inl (refl, refl) })
entry_parts old (Two mouth tail) rest h ends e = (
  mouth,
  46 ∷ (cell_text tail ++ rest),
  e ∙ append_assoc (cell_text mouth) (46 ∷ cell_text tail) rest,
  record { cell = h.0; ends = dot_no_digit; tells = inr (tail, refl, h.1, refl) },
)

-- where a dot is next, the entry has a second cell
pub two_reads : (x : Entry) (rest : List ℕ) (mouth : Cell) (after left : List ℕ) → AreParts x rest mouth after → EndsEntry rest → after ≡ codes "." ++ left
    → (tail : Cell) × (x ≡ Two mouth tail) × IsCell tail × (left ≡ cell_text tail ++ rest)
two_reads x rest mouth after left parts ends e = by parts.tells
  where
    by : ((x ≡ One mouth) × (after ≡ rest)) ⊎ ((tail : Cell) × (x ≡ Two mouth tail) × IsCell tail × (after ≡ 46 ∷ (cell_text tail ++ rest)))
        → (tail : Cell) × (x ≡ Two mouth tail) × IsCell tail × (left ≡ cell_text tail ++ rest)
    by (inl one) = absurd (dot_no_end rest left ends (sym one.1 ∙ e))
    by (inr two) = (two.0, two.1, two.2, ap (λ l. drop 1 l) (sym e ∙ two.3))

-- and where none is, it has none
pub one_reads : (x : Entry) (rest : List ℕ) (mouth : Cell) (after : List ℕ) → AreParts x rest mouth after → ((left : List ℕ) → after ≡ codes "." ++ left → ⊥)
    → (One mouth ≡ x) × (after ≡ rest)
one_reads x rest mouth after parts none = by parts.tells
  where
    by : ((x ≡ One mouth) × (after ≡ rest)) ⊎ ((tail : Cell) × (x ≡ Two mouth tail) × IsCell tail × (after ≡ 46 ∷ (cell_text tail ++ rest)))
        → (One mouth ≡ x) × (after ≡ rest)
    by (inl one) = (sym one.0, one.1)
    by (inr two) = absurd (none _ two.3)

-- where the letter of the jam row is next, the cell is that row
pub jam_reads : (old new : List ℕ) → old ≡ codes "j" ++ new → (x : Cell) (rest : List ℕ) → IsCell x → old ≡ cell_text x ++ rest → (Jam ≡ x) × (new ≡ rest)
jam_reads old new taken (Row n) rest h e = absurd (jam_no_row n new rest (omega arith) (sym taken ∙ e))
jam_reads old new taken Jam rest h e = (refl, ap (λ l. drop 1 l) (sym taken ∙ e))

-- two cells with a dot between them are an entry
pub two_stood : (old mid new : List ℕ) (mouth tail : Cell) → old ≡ cell_text mouth ++ (codes "." ++ mid) → mid ≡ cell_text tail ++ new → old ≡ entry_text (Two mouth tail) ++ new
unfolding entry_text
two_stood old mid new mouth tail e f = e ∙ ap (λ l. cell_text mouth ++ (46 ∷ l)) f ∙ sym (append_assoc (cell_text mouth) (46 ∷ cell_text tail) new)

pub one_stood : (old new : List ℕ) (mouth : Cell) → old ≡ cell_text mouth ++ new → old ≡ entry_text (One mouth) ++ new
unfolding entry_text
one_stood old new mouth e = e
