-- What stands next in a proof text is told from it.
use Rattle.std.proofs.Common.{◌≡◌, ◌∙◌, ap, refl, sym, inl, inr, ℕ, ◌<◌, List, [], ◌∷◌, ◌++◌, length, append_assoc, drop, arith}
use Rattle.std.specs.Prelude.{codes}
use Rattle.std.specs.List.{All}
use Rattle.std.proofs.lemmas.List.{append_cancel_left}
use Rattle.std.proofs.lemmas.List.Elements.{All-nil, All-cons, All-head, All-tail}
use Rattle.reo_values.proofs.Words.{first_or}
use Rattle.reo_values.proofs.decimals.Fronts.{front_unique}
use Rattle.reo_net_base.specs.declared.port.Port.{Port}
use Rattle.reo_trace.specs.declared.line.Ending.{Ending}
use Rattle.reo_trace.specs.RoundText.{round_text}
use Rattle.reo_trace_reader.specs.texts.Lines.{AreTold}
use Rattle.reo_trace_reader.proofs.texts.Endings.{ending_unique, line_no-ending}
use Rattle.reo_trace_reader.proofs.texts.RoundLines.{line_unique}
use Rattle.reo_proof_texts.specs.Cuts.{IsInLine, IsLogLine, lines_text, LoggedRound, logged_text, IsLogged, Next, IsNext}

-- A line feed is in no line.
pub feed_ends : IsInLine 10 → ⊥
feed_ends h = h refl

in_line : (byte : ℕ) (bytes : List ℕ) → IsInLine byte → All IsInLine bytes → All IsInLine (byte ∷ bytes)
in_line byte bytes h all = All-cons IsInLine byte bytes h all

apart_from_feed : (byte : ℕ) → 10 < byte → IsInLine byte
apart_from_feed byte above e = omega (arith, above, e)

proved_in_line : All IsInLine (codes "proved")
proved_in_line =
    in_line 112 (codes "roved") (apart_from_feed 112 (omega arith))
    (in_line 114 (codes "oved") (apart_from_feed 114 (omega arith))
    (in_line 111 (codes "ved") (apart_from_feed 111 (omega arith))
    (in_line 118 (codes "ed") (apart_from_feed 118 (omega arith))
    (in_line 101 (codes "d") (apart_from_feed 101 (omega arith))
    (in_line 100 [] (apart_from_feed 100 (omega arith)) (All-nil IsInLine))))))

-- A line and what comes behind it.
line_told : (x y r s : List ℕ) → All IsInLine x → All IsInLine y → x ++ (10 ∷ r) ≡ y ++ (10 ∷ s) → (x ≡ y) × (r ≡ s)
line_told x y r s a b e =
    let parts = front_unique IsInLine x y (10 ∷ r) (10 ∷ s) a b feed_ends feed_ends e in
    (parts.0, ap (λ (l : List ℕ). drop 1 l) parts.1)

-- The first of some lines.
first_line : (x : List ℕ) (xs : List (List ℕ)) (r : List ℕ) → lines_text (x ∷ xs) ++ r ≡ x ++ (10 ∷ (lines_text xs ++ r))
first_line x xs r = append_assoc (x ++ codes "\n") (lines_text xs) r ∙ append_assoc x (codes "\n") (lines_text xs ++ r)

-- What has no line feed has no whole line.
pub no_feed : (x r s : List ℕ) → All IsInLine s → s ≡ x ++ (10 ∷ r) → ⊥
no_feed [] r [] all e = absurd cc
no_feed [] r (b ∷ s) all e = All-head IsInLine b s all (ap first_or e)
no_feed (c ∷ x) r [] all e = absurd cc
no_feed (c ∷ x) r (b ∷ s) all e = no_feed x r s (All-tail IsInLine b s all) (ap (λ (l : List ℕ). drop 1 l) e)

-- A log up to the next line `proved`, and what comes behind that.
log_told : (xs ys : List (List ℕ)) (r s : List ℕ) → All IsLogLine xs → All IsLogLine ys
    → lines_text xs ++ (codes "proved\n" ++ r) ≡ lines_text ys ++ (codes "proved\n" ++ s) → (xs ≡ ys) × (r ≡ s)
log_told [] [] r s a b e = (refl, append_cancel_left (codes "proved\n") r s e)
log_told [] (y ∷ ys) r s a b e =
    let head = All-head IsLogLine y ys b in
    absurd (head.not_last (sym (line_told (codes "proved") y r _ proved_in_line head.one_line (e ∙ first_line y ys _)).0))
log_told (x ∷ xs) [] r s a b e =
    let head = All-head IsLogLine x xs a in
    absurd (head.not_last (line_told x (codes "proved") _ s head.one_line proved_in_line (sym (first_line x xs _) ∙ e)).0)
log_told (x ∷ xs) (y ∷ ys) r s a b e =
    let line = line_told x y _ _ (All-head IsLogLine x xs a).one_line (All-head IsLogLine y ys b).one_line (sym (first_line x xs _) ∙ e ∙ first_line y ys _) in
    let rest = log_told xs ys r s (All-tail IsLogLine x xs a) (All-tail IsLogLine y ys b) line.1 in
    (λ i. line.0 i ∷ rest.0 i, rest.1)

-- Where `proved` follows, it does not fail to.
log_ends : (xs ys : List (List ℕ)) (r s : List ℕ) → All IsLogLine xs → All IsLogLine ys → All IsInLine s
    → lines_text xs ++ (codes "proved\n" ++ r) ≡ lines_text ys ++ s → ⊥
log_ends [] [] r s a b open' e = no_feed (codes "proved") r s open' (sym e)
log_ends [] (y ∷ ys) r s a b open' e =
    let head = All-head IsLogLine y ys b in
    head.not_last (sym (line_told (codes "proved") y r _ proved_in_line head.one_line (e ∙ first_line y ys _)).0)
log_ends (x ∷ xs) [] r s a b open' e = no_feed x _ s open' (sym e ∙ first_line x xs _)
log_ends (x ∷ xs) (y ∷ ys) r s a b open' e =
    let line = line_told x y _ _ (All-head IsLogLine x xs a).one_line (All-head IsLogLine y ys b).one_line (sym (first_line x xs _) ∙ e ∙ first_line y ys _) in
    log_ends xs ys r s (All-tail IsLogLine x xs a) (All-tail IsLogLine y ys b) open' line.1

-- How many whole lines there are.
lines_told : (xs ys : List (List ℕ)) (r s : List ℕ) → All IsLogLine xs → All IsLogLine ys → All IsInLine r → All IsInLine s
    → lines_text xs ++ r ≡ lines_text ys ++ s → length xs ≡ length ys
lines_told [] [] r s a b h k e = refl
lines_told [] (y ∷ ys) r s a b h k e = absurd (no_feed y _ r h (e ∙ first_line y ys s))
lines_told (x ∷ xs) [] r s a b h k e = absurd (no_feed x _ s k (sym e ∙ first_line x xs r))
lines_told (x ∷ xs) (y ∷ ys) r s a b h k e =
    let line = line_told x y _ _ (All-head IsLogLine x xs a).one_line (All-head IsLogLine y ys b).one_line (sym (first_line x xs r) ∙ e ∙ first_line y ys s) in
    let rest = lines_told xs ys r s (All-tail IsLogLine x xs a) (All-tail IsLogLine y ys b) h k line.1 in
    omega (arith, rest)

module _ (ports : List Port) (told : AreTold ports) where
  parts_of : (x : LoggedRound) (r : List ℕ) → logged_text ports x ++ r ≡ round_text ports x.line ++ (lines_text x.log ++ (codes "proved\n" ++ r))
  parts_of x r = append_assoc (round_text ports x.line) (lines_text x.log ++ codes "proved\n") r ∙ ap (λ (l : List ℕ). round_text ports x.line ++ l) (append_assoc (lines_text x.log) (codes "proved\n") r)

  -- A round with its log, and what comes behind it.
  pub logged_told : (m n : ℕ) (x y : LoggedRound) (r s : List ℕ) → IsLogged ports m x → IsLogged ports n y → logged_text ports x ++ r ≡ logged_text ports y ++ s → (x ≡ y) × (r ≡ s)
  logged_told m n x y r s h g e =
      let line = line_unique ports told m n x.line y.line _ _ h.line g.line (sym (parts_of x r) ∙ e ∙ parts_of y s) in
      let log = log_told x.log y.log r s h.log g.log line.1 in
      (λ i. record { line = line.0 i; log = log.0 i }, log.1)

  no_end : (n : ℕ) (x : LoggedRound) (r text : List ℕ) (e : Ending) → text ≡ logged_text ports x ++ r → IsNext ports n text (Next.ending e) → ⊥
  no_end n x r text e is ends = line_no-ending ports x.line _ e (sym ends.1 ∙ is ∙ parts_of x r)

  round_right : (n line : ℕ) (x : LoggedRound) (r text : List ℕ) → IsNext ports n text (Next.round x r) → IsNext ports n text (Next.wrong line) → ⊥
  round_right n line x r text h (inl none) = none.1.no_round x.line _ h.0.line (h.1 ∙ parts_of x r)
  round_right n line x r text h (inr open') =
      let same = line_unique ports told n n x.line open'.round _ _ h.0.line open'.is_round (sym (h.1 ∙ parts_of x r) ∙ open'.cut) in
      log_ends x.log open'.log r open'.last h.0.log open'.log_lines open'.unfinished same.1

  ending_right : (n line : ℕ) (e : Ending) (text : List ℕ) → IsNext ports n text (Next.ending e) → IsNext ports n text (Next.wrong line) → ⊥
  ending_right n line e text h (inl none) = none.1.no_ending e h.0 h.1
  ending_right n line e text h (inr open') = line_no-ending ports open'.round _ e (sym h.1 ∙ open'.cut)

  one_wrong_line : (n line other : ℕ) (text : List ℕ) → IsNext ports n text (Next.wrong line) → IsNext ports n text (Next.wrong other) → line ≡ other
  one_wrong_line n line other text (inl h) (inl g) = h.0 ∙ sym g.0
  one_wrong_line n line other text (inl h) (inr g) = absurd (h.1.no_round g.round _ g.is_round g.cut)
  one_wrong_line n line other text (inr h) (inl g) = absurd (g.1.no_round h.round _ h.is_round h.cut)
  one_wrong_line n line other text (inr h) (inr g) =
      let same = line_unique ports told n n h.round g.round _ _ h.is_round g.is_round (sym h.cut ∙ g.cut) in
      let count = lines_told h.log g.log h.last g.last h.log_lines g.log_lines h.unfinished g.unfinished same.1 in
      omega (arith, count, h.line_is, g.line_is)

  -- One thing stands next.
  pub one_next : (n : ℕ) (text : List ℕ) (a b : Next) → IsNext ports n text a → IsNext ports n text b → a ≡ b
  one_next n text (Next.round x r) (Next.round y s) h g =
      let same = logged_told n n x y r s h.0 g.0 (sym h.1 ∙ g.1) in
      λ i. Next.round (same.0 i) (same.1 i)
  one_next n text (Next.round x r) (Next.ending e) h g = absurd (no_end n x r text e h.1 g)
  one_next n text (Next.round x r) (Next.wrong line) h g = absurd (round_right n line x r text h g)
  one_next n text (Next.ending e) (Next.round y s) h g = absurd (no_end n y s text e g.1 h)
  one_next n text (Next.ending e) (Next.ending d) h g = ap Next.ending (ending_unique e d h.0 g.0 (sym h.1 ∙ g.1))
  one_next n text (Next.ending e) (Next.wrong line) h g = absurd (ending_right n line e text h g)
  one_next n text (Next.wrong line) (Next.round y s) h g = absurd (round_right n line y s text g h)
  one_next n text (Next.wrong line) (Next.ending d) h g = absurd (ending_right n line d text g h)
  one_next n text (Next.wrong line) (Next.wrong other) h g = ap Next.wrong (one_wrong_line n line other text h g)
