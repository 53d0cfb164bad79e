-- Marks as bits of a byte.
use Rattle.std.proofs.Common.{◌≡◌, ◌≢◌, ◌↔◌, inl, inr, ℕ, Bool, true, false, not, refl, ap, sym, ◌∙◌}
use Rattle.std.specs.Bool.{◌==◌}
use Rattle.std.specs.Prelude.{bit_and}
use Rattle.reo_net_base.specs.declared.mark.Mark.{Mark}
use Rattle.reo_net_base.specs.declared.mark.Mark.TheVariants.{F, G, R, J}
use Rattle.reo_side_tables.specs.Marks.{byte_of}
use Rattle.reo_side_tables.specs.declared.sets.Marks.{Marks}
use Rattle.reo_side_tables.specs.Sets.{marks_has, marks_byte}
use Rattle.reo_lanes.specs.Rows.{kept_row}
use Rattle.std.proofs.lemmas.Bool.{cases_Bool, cond-true, cond-false}

abbrev set_of : Bool → Bool → Bool → Bool → Marks
set_of f g r j = record { flow = f; given = g; required = r; jam = j }

-- The byte of a mark shares a bit with that of a set exactly where the set has it.
abbrev Shares : Mark → Marks → Type 0
Shares m s = (bit_and (byte_of m) (marks_byte s) == 0) ≡ not (marks_has s m)

by_two : (m : Mark) (f g : Bool) → Shares m (set_of f g true true) → Shares m (set_of f g true false) → Shares m (set_of f g false true) → Shares m (set_of f g false false) → (r j : Bool) → Shares m (set_of f g r j)
by_two m f g a b c d true true = a
by_two m f g a b c d true false = b
by_two m f g a b c d false true = c
by_two m f g a b c d false false = d

shares : (m : Mark) (f g r j : Bool) → Shares m (set_of f g r j)
shares F true true r j = by_two F true true refl refl refl refl r j
shares F true false r j = by_two F true false refl refl refl refl r j
shares F false true r j = by_two F false true refl refl refl refl r j
shares F false false r j = by_two F false false refl refl refl refl r j
shares G true true r j = by_two G true true refl refl refl refl r j
shares G true false r j = by_two G true false refl refl refl refl r j
shares G false true r j = by_two G false true refl refl refl refl r j
shares G false false r j = by_two G false false refl refl refl refl r j
shares R true true r j = by_two R true true refl refl refl refl r j
shares R true false r j = by_two R true false refl refl refl refl r j
shares R false true r j = by_two R false true refl refl refl refl r j
shares R false false r j = by_two R false false refl refl refl refl r j
shares J true true r j = by_two J true true refl refl refl refl r j
shares J true false r j = by_two J true false refl refl refl refl r j
shares J false true r j = by_two J false true refl refl refl refl r j
shares J false false r j = by_two J false false refl refl refl refl r j

byte_shares : (m : Mark) (s : Marks) → (bit_and (byte_of m) (marks_byte s) == 0) ≡ not (marks_has s m)
byte_shares m s = shares m s.flow s.given s.required s.jam

-- A byte that is kept is that of a mark that is left.
pub kept_byte : (m : Mark) (s : Marks) (byte : ℕ) → (kept_row (marks_byte s) (byte_of m) byte ≢ 0) ↔ ((byte ≢ 0) × (marks_has s m ≡ true))
kept_byte m s byte = elim (cases_Bool (marks_has s m)) [
  | inl has ↦
      let test : (bit_and (byte_of m) (marks_byte s) == 0) ≡ false = byte_shares m s ∙ ap not has in
      let is : kept_row (marks_byte s) (byte_of m) byte ≡ byte = cond-false (bit_and (byte_of m) (marks_byte s) == 0) 0 byte test in
      (λ h. (λ e. h (is ∙ e), has), λ h e. h.0 (sym is ∙ e))
  | inr not_has ↦
      let test : (bit_and (byte_of m) (marks_byte s) == 0) ≡ true = byte_shares m s ∙ ap not not_has in
      let is : kept_row (marks_byte s) (byte_of m) byte ≡ 0 = cond-true (bit_and (byte_of m) (marks_byte s) == 0) 0 byte test in
      (λ h. absurd (h is), λ h. let wrong : true ≡ false = sym h.1 ∙ not_has in absurd cc)
]
