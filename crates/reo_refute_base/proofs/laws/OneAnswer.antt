-- A log has one answer.
use Rattle.std.proofs.Common.{◌≡◌, ◌⊎◌, inl, inr, ℕ, ◌+◌, List, [], ◌∷◌, ◌++◌, length, refl, ap, sym, ◌∙◌, subst, append_assoc, arith}
use Rattle.std.specs.List.{All}
use Rattle.std.proofs.lemmas.List.{append-nil}
use Rattle.std.proofs.lemmas.List.Elements.{All-head, All-tail}
use Rattle.reo_values.proofs.Words.{first_or}
use Rattle.reo_net_base.specs.Net.{Net}
use Rattle.reo_refute_base.specs.declared.line.LogLine.{LogLine}
use Rattle.reo_refute_base.specs.declared.line.LogLine.TheVariants.{At, Drop, Empty, Split}
use Rattle.reo_refute_base.specs.Items.{Lists}
use Rattle.reo_refute_base.specs.Logs.{AreParts}
use Rattle.reo_refute_base.specs.Fronts.{ArePartsFront}
use Rattle.reo_refute_base.specs.Texts.{IsNumbered, line_text, log_text}
use Rattle.reo_refute_base.specs.RightTexts.{IsRightText, IsWrongLine}
use Rattle.reo_refute_base.specs.laws.Answers.{RightOrWrong, OneWrongLine}
use Rattle.reo_refute_base.proofs.laws.LineTexts.{lines_are_told, first_byte, begins}
use Rattle.reo_refute_base.proofs.laws.OneList.{item_lists_are_one}
use Rattle.reo_refute_base.proofs.laws.Prefixes.{parts_front, parts_are_front}

-- The first lines go on to the second.
record GoesOn (xs ys : List LogLine) (r s : List ℕ) : Type 0 where
  more : List LogLine
  lines : ys ≡ xs ++ more
  rest : r ≡ log_text more ++ s
  numbered : All IsNumbered more

both_same : (a b : LogLine) (xs ys : List LogLine) → a ≡ b → xs ≡ ys → a ∷ xs ≡ b ∷ ys
both_same a b xs ys e f = cc

nothing_read : (a : LogLine) (r : List ℕ) → [] ≡ line_text a ++ r → ⊥
nothing_read a r e =
    let none : 0 ≡ first_byte a = ap first_or e ∙ begins a r in
    at_once a none
  where
    at_once : (a : LogLine) → 0 ≡ first_byte a → ⊥
    at_once a e = elim a as (λ (a : LogLine). 0 ≡ first_byte a → ⊥) [ At p ↦ λ e. omega (arith, e) | Drop j v side ↦ λ e. omega (arith, e) | Empty j ↦ λ e. omega (arith, e) | Split j ↦ λ e. omega (arith, e) ] e

-- Of two lists of lines with which a text begins, one goes on to the other.
go_on : (xs ys : List LogLine) (r s : List ℕ) → All IsNumbered xs → All IsNumbered ys → log_text xs ++ r ≡ log_text ys ++ s → GoesOn xs ys r s ⊎ GoesOn ys xs s r
go_on [] ys r s a b e = inl (record { more = ys; lines = refl; rest = e; numbered = b })
go_on (x ∷ xs) [] r s a b e = inr (record { more = x ∷ xs; lines = refl; rest = sym e; numbered = a })
go_on (x ∷ xs) (y ∷ ys) r s a b e =
    let both = lines_are_told x y (log_text xs ++ r) (log_text ys ++ s) (All-head IsNumbered x xs a) (All-head IsNumbered y ys b)
    (sym (append_assoc (line_text x) (log_text xs) r) ∙ e ∙ append_assoc (line_text y) (log_text ys) s) in
    elim (go_on xs ys r s (All-tail IsNumbered x xs a) (All-tail IsNumbered y ys b) both.1) [
      | inl g ↦ inl (record { more = g.more; lines = both_same y x ys (xs ++ g.more) (sym both.0) g.lines; rest = g.rest; numbered = g.numbered })
      | inr g ↦ inr (record { more = g.more; lines = both_same x y xs (ys ++ g.more) both.0 g.lines; rest = g.rest; numbered = g.numbered })
    ]

module _ (net : Net) (turn : ℕ) (given log : List ℕ) where
  -- Where right lines go on, the next is right.
  next_right : (lists : Lists) (line : ℕ) (w : IsWrongLine net turn given log line) (others : List LogLine) (s : List ℕ) → ArePartsFront net turn given lists 0 others
      → w.lists ≡ lists → (g : GoesOn w.right others w.rest s) → g.more ≡ []
  next_right lists line w others s front same g = last g.more refl
    where
      last : (m : List LogLine) → g.more ≡ m → g.more ≡ []
      last [] is = is
      last (x ∷ xs) is =
          let numbered : All IsNumbered (x ∷ xs) = subst (λ (l : List LogLine). All IsNumbered l) is g.numbered in
          let text : w.rest ≡ line_text x ++ (log_text xs ++ s) = g.rest ∙ ap (λ (l : List LogLine). log_text l ++ s) is ∙ append_assoc (line_text x) (log_text xs) s in
          let lines : others ≡ (w.right ++ (x ∷ [])) ++ xs = g.lines ∙ ap (λ (l : List LogLine). w.right ++ l) is ∙ sym (append_assoc w.right (x ∷ []) xs) in
          let here = parts_front net turn given lists 0 others front (w.right ++ (x ∷ [])) xs lines in
          absurd (w.wrong x (log_text xs ++ s) (All-head IsNumbered x xs numbered) text
          (subst (λ (l : Lists). ArePartsFront net turn given l 0 (w.right ++ (x ∷ []))) (sym same) here))

  no_more : (xs ys : List LogLine) (r s : List ℕ) → (g : GoesOn xs ys r s) → g.more ≡ [] → (ys ≡ xs) × (r ≡ s)
  no_more xs ys r s g none = (
    g.lines ∙ ap (λ (l : List LogLine). xs ++ l) none ∙ append-nil xs,
    g.rest ∙ ap (λ (l : List LogLine). log_text l ++ s) none,
  )

  right_then : (line : ℕ) → (t : IsRightText net turn given log) → (w : IsWrongLine net turn given log line) → GoesOn w.right t.lines w.rest [] → ⊥
  right_then line t w g =
      let same : w.lists ≡ t.right.lists = item_lists_are_one net w.lists t.right.lists w.item_lists t.right.item_lists in
      let none = next_right t.right.lists line w t.lines [] (parts_are_front net turn given t.right.lists 0 t.lines t.right.parts) same g in
      let both = no_more w.right t.lines w.rest [] g none in
      w.unfinished both.1 (subst (λ (l : List LogLine). AreParts net turn given w.lists 0 l) both.0 (subst (λ (l : Lists). AreParts net turn given l 0 t.lines) (sym same) t.right.parts))

  -- A wrong line does not stand behind a right log.
  wrong_then : (line : ℕ) → (t : IsRightText net turn given log) → (w : IsWrongLine net turn given log line) → GoesOn t.lines w.right [] w.rest → ⊥
  wrong_then line t w g = last g.more refl
    where
      last : (m : List LogLine) → g.more ≡ m → ⊥
      last [] is =
          let both = no_more t.lines w.right [] w.rest g is in
          right_then line t w (record { more = []; lines = sym both.0 ∙ sym (append-nil w.right); rest = sym both.1; numbered = subst (λ (l : List LogLine). All IsNumbered l) is g.numbered })
      last (x ∷ xs) is = nothing_read x (log_text xs ++ w.rest) (g.rest ∙ ap (λ (l : List LogLine). log_text l ++ w.rest) is ∙ append_assoc (line_text x) (log_text xs) w.rest)

pub right_or_wrong : RightOrWrong
right_or_wrong net turn given log line t w =
    elim (go_on w.right t.lines w.rest [] w.text.numbered t.text.numbered (sym w.text.text ∙ t.text.text)) [
      | inl g ↦ right_then net turn given log line t w g
      | inr g ↦ wrong_then net turn given log line t w g
    ]

one_then : (net : Net) (turn : ℕ) (given log : List ℕ) (a b : ℕ) → (v : IsWrongLine net turn given log a) → (w : IsWrongLine net turn given log b) → GoesOn v.right w.right v.rest w.rest → a ≡ b
one_then net turn given log a b v w g =
    let same : v.lists ≡ w.lists = item_lists_are_one net v.lists w.lists v.item_lists w.item_lists in
    let none = next_right net turn given log w.lists a v w.right w.rest w.front same g in
    let both = no_more net turn given log v.right w.right v.rest w.rest g none in
    v.line_is ∙ ap (λ (l : List LogLine). length l + 1) (sym both.0) ∙ sym w.line_is

pub one_wrong_line : OneWrongLine
one_wrong_line net turn given log a b v w =
    elim (go_on v.right w.right v.rest w.rest v.text.numbered w.text.numbered (sym v.text.text ∙ w.text.text)) [
      | inl g ↦ one_then net turn given log a b v w g
      | inr g ↦ sym (one_then net turn given log b a w v g)
    ]
