-- Texts tell their traces.
use Rattle.std.proofs.Common.{◌≡◌, ◌∙◌, ◌+◌, ℕ, List, [], ◌∷◌, ◌++◌, length, ap, refl, sym, subst, append_assoc, arith}
use Rattle.reo_net_base.specs.declared.port.Port.{Port}
use Rattle.reo_trace.specs.declared.line.Ending.{Ending}
use Rattle.reo_trace.specs.declared.line.RoundLine.{RoundLine}
use Rattle.reo_trace.specs.EndingText.{ending_text}
use Rattle.reo_trace.specs.RoundText.{round_text}
use Rattle.reo_trace.specs.TraceText.{rounds_text}
use Rattle.reo_trace_reader.specs.declared.texts.trace.Trace.{Trace}
use Rattle.reo_trace_reader.specs.texts.Laws.{OneTraceOfText, TraceHasNoWrongLine, OneWrongLine}
use Rattle.reo_trace_reader.specs.texts.Lines.{AreTold, IsLine, AreLines}
use Rattle.reo_trace_reader.specs.texts.Texts.{IsTraceText, IsWrongLine}
use Rattle.reo_trace_reader.proofs.texts.Endings.{ending_unique, line_no-ending}
use Rattle.reo_trace_reader.proofs.texts.RoundLines.{line_unique}

-- the text does not begin with the line of the round of this number
abbrev pub NoLine : List Port → ℕ → List ℕ → Type 0
NoLine ports n text = (line : RoundLine) (more : List ℕ) → IsLine ports n line → text ≡ round_text ports line ++ more → ⊥

module _ (ports : List Port) (told : AreTold ports) where
  first_line : (line : RoundLine) (lines : List RoundLine) (more : List ℕ) → rounds_text ports (line ∷ lines) ++ more ≡ round_text ports line ++ (rounds_text ports lines ++ more)
  first_line line lines more = append_assoc (round_text ports line) (rounds_text ports lines) more

  later : (n : ℕ) (lines : List RoundLine) (line : RoundLine) (text : List ℕ) → NoLine ports (n + length (line ∷ lines)) text → NoLine ports (n + 1 + length lines) text
  later n lines line text h = subst (λ k. NoLine ports k text) (omega arith) h

  now : (n : ℕ) (text : List ℕ) → NoLine ports (n + length {A = RoundLine} []) text → NoLine ports n text
  now n text h = subst (λ k. NoLine ports k text) (omega arith) h

  -- round lines, as many as there are, and what comes after them
  pub rounds_unique : (n : ℕ) (xs ys : List RoundLine) (r s : List ℕ) → AreLines ports n xs → AreLines ports n ys
      → NoLine ports (n + length xs) r → NoLine ports (n + length ys) s → rounds_text ports xs ++ r ≡ rounds_text ports ys ++ s → (xs ≡ ys) × (r ≡ s)
  rounds_unique n [] [] r s h g p q e = (refl, e)
  rounds_unique n [] (y ∷ ys) r s h g p q e = absurd (now n r p y _ g.0 (e ∙ first_line y ys s))
  rounds_unique n (x ∷ xs) [] r s h g p q e = absurd (now n s q x _ h.0 (sym e ∙ first_line x xs r))
  rounds_unique n (x ∷ xs) (y ∷ ys) r s h g p q e =
      let first = line_unique ports told n n x y (rounds_text ports xs ++ r) (rounds_text ports ys ++ s) h.0 g.0 (sym (first_line x xs r) ∙ e ∙ first_line y ys s) in
      let more = rounds_unique (n + 1) xs ys r s h.1 g.1 (later n xs x r p) (later n ys y s q) first.1 in
      ((λ i. first.0 i ∷ more.0 i), more.1)

  ending_no-line : (n : ℕ) (b : Ending) → NoLine ports n (ending_text b)
  ending_no-line n b = λ line more h e. line_no-ending ports line more b e

  left_no-line : (text : List ℕ) (wrong : ℕ) (w : IsWrongLine ports text wrong) → NoLine ports (1 + length w.lines) w.left
  left_no-line text wrong w = let place = w.place in subst (λ k. NoLine ports k w.left) (omega arith) w.no_round

  pub one_trace : (text : List ℕ) (t u : Trace) → IsTraceText ports text t → IsTraceText ports text u → t ≡ u
  one_trace text t u h g =
      let parts = rounds_unique 1 t.rounds u.rounds (ending_text t.ending) (ending_text u.ending) h.lines g.lines
      (ending_no-line _ t.ending) (ending_no-line _ u.ending) (sym h.text_is ∙ g.text_is) in
      let ends = ending_unique t.ending u.ending h.ending g.ending parts.1 in
      (λ i. record { rounds = parts.0 i; ending = ends i })

  pub no_wrong : (text : List ℕ) (t : Trace) (line : ℕ) → IsTraceText ports text t → IsWrongLine ports text line → ⊥
  no_wrong text t line h w =
      let parts = rounds_unique 1 w.lines t.rounds w.left (ending_text t.ending) w.right h.lines
      (left_no-line text line w) (ending_no-line _ t.ending) (sym w.cut ∙ h.text_is) in
      w.no_ending t.ending h.ending parts.1

  pub one_wrong : (text : List ℕ) (line other : ℕ) → IsWrongLine ports text line → IsWrongLine ports text other → line ≡ other
  one_wrong text line other w v =
      let parts = rounds_unique 1 w.lines v.lines w.left v.left w.right v.right (left_no-line text line w) (left_no-line text other v) (sym w.cut ∙ v.cut) in
      w.place ∙ ap (λ ls. length ls + 1) parts.0 ∙ sym v.place

pub one_trace_of-text : OneTraceOfText
one_trace_of-text ports text t u told h g = one_trace ports told text t u h g

pub trace_no-wrong_line : TraceHasNoWrongLine
trace_no-wrong_line ports text t line told h w = no_wrong ports told text t line h w

pub one_wrong_line-of_text : OneWrongLine
one_wrong_line-of_text ports text line other told w v = one_wrong ports told text line other w v
