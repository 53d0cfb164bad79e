-- Endings at the front of a text.
use Rattle.std.proofs.Common.{◌≡◌, ◌∙◌, ℕ, List, [], ◌∷◌, ◌++◌, Result, Ok, Err, ap, refl, sym, drop, append_assoc, arith}
use Rattle.std.specs.Prelude.{codes}
use Rattle.std.specs.Fmt.{decimal}
use Rattle.std.proofs.lemmas.List.{append_cancel_left}
use Rattle.reo_trace.specs.declared.line.Ending.{Ending}
use Rattle.reo_trace.specs.declared.line.Ending.TheVariants.{Done, Stuck, Limit, Spent, Wide}
use Rattle.reo_values.specs.decimals.Digits.{IsSmall, NoDigit}
use Rattle.reo_trace_reader.proofs.Digits.{space_no_digit}
use Rattle.reo_values.proofs.decimals.Fronts.{heads_apart}
use Rattle.reo_trace_reader.specs.texts.Lines.{IsEnding}
use Rattle.reo_trace_reader.specs.declared.texts.fault.LineFault.{LineFault}
use Rattle.reo_trace_reader.specs.Reads.{Stood}
use Rattle.reo_trace_reader.specs.declared.lines.PartNumbers.{PartNumbers}
use Rattle.reo_trace_reader.specs.declared.lines.Load.{Load}
use Rattle.reo_trace_reader.specs.Ends.{EndsLine}
use Rattle.reo_trace_reader.specs.Fronts.{IsPart, IsLoad, IsSpent, part_text, load_text, spent_text, ending_front}

-- no digit begins the end of a line
pub ends_no_digit : (rest : List ℕ) → EndsLine rest → NoDigit rest
ends_no_digit [] h = tt
ends_no_digit (byte ∷ bytes) h = λ d. omega arith

pub load_no_digit : (load : Load) (rest : List ℕ) → NoDigit (load_text load ++ rest)
load_no_digit load rest = space_no_digit

-- the parts of the ending of a part that is too heavy
pub spent_parts : (old : List ℕ) (e : Ending) (rest : List ℕ) → IsSpent e → old ≡ spent_text e ++ rest
    → (p : PartNumbers) × (l : Load) × (e ≡ Spent p.round p.knot l.weight l.budget) × IsPart p × IsLoad l × (old ≡ part_text p ++ (load_text l ++ rest))
spent_parts old (Done n) rest h e = absurd h
spent_parts old (Stuck n) rest h e = absurd h
spent_parts old (Limit n) rest h e = absurd h
spent_parts old (Wide r k) rest h e = absurd h
spent_parts old (Spent r k w b) rest h e =
    let p : PartNumbers = record { round = r; knot = k } in
    let l : Load = record { weight = w; budget = b } in
    (p, l, refl, (h.0, h.1), (h.2, h.3), e ∙ append_assoc (part_text p) (load_text l) rest)

module _ (old left : List ℕ) (x : Ending) (rest : List ℕ) where
  -- the word that is next tells the kind of the ending
  pub done_reads : old ≡ codes "done after " ++ left → IsEnding x → old ≡ ending_front x ++ rest
      → (n : ℕ) × (x ≡ Done n) × IsSmall n × (left ≡ (decimal n ++ codes " rounds") ++ rest)
  unfolding ending_front
  done_reads taken h e = by x h (sym taken ∙ e)
    where
      by : (y : Ending) → IsEnding y → codes "done after " ++ left ≡ ending_front y ++ rest → (n : ℕ) × (y ≡ Done n) × IsSmall n × (left ≡ (decimal n ++ codes " rounds") ++ rest)
      by (Done n) h f = (n, refl, h, append_cancel_left (codes "done after ") left _ f)
      by (Stuck n) h f = absurd (heads_apart 100 115 _ _ refl f)
      by (Limit n) h f = absurd (heads_apart 100 108 _ _ refl f)
      by (Spent r k w b) h f = absurd (heads_apart 100 115 _ _ refl f)
      by (Wide r k) h f = absurd (heads_apart 100 119 _ _ refl f)

  pub stuck_reads : old ≡ codes "stuck after " ++ left → IsEnding x → old ≡ ending_front x ++ rest
      → (n : ℕ) × (x ≡ Stuck n) × IsSmall n × (left ≡ (decimal n ++ codes " rounds") ++ rest)
  unfolding ending_front
  stuck_reads taken h e = by x h (sym taken ∙ e)
    where
      by : (y : Ending) → IsEnding y → codes "stuck after " ++ left ≡ ending_front y ++ rest → (n : ℕ) × (y ≡ Stuck n) × IsSmall n × (left ≡ (decimal n ++ codes " rounds") ++ rest)
      by (Stuck n) h f = (n, refl, h, append_cancel_left (codes "stuck after ") left _ f)
      by (Done n) h f = absurd (heads_apart 115 100 _ _ refl f)
      by (Limit n) h f = absurd (heads_apart 115 108 _ _ refl f)
      by (Spent r k w b) h f = absurd (heads_apart 116 112 _ _ refl (ap (λ l. drop 1 l) f))
      by (Wide r k) h f = absurd (heads_apart 115 119 _ _ refl f)

  pub limit_reads : old ≡ codes "limit after " ++ left → IsEnding x → old ≡ ending_front x ++ rest
      → (n : ℕ) × (x ≡ Limit n) × IsSmall n × (left ≡ (decimal n ++ codes " rounds") ++ rest)
  unfolding ending_front
  limit_reads taken h e = by x h (sym taken ∙ e)
    where
      by : (y : Ending) → IsEnding y → codes "limit after " ++ left ≡ ending_front y ++ rest → (n : ℕ) × (y ≡ Limit n) × IsSmall n × (left ≡ (decimal n ++ codes " rounds") ++ rest)
      by (Limit n) h f = (n, refl, h, append_cancel_left (codes "limit after ") left _ f)
      by (Done n) h f = absurd (heads_apart 108 100 _ _ refl f)
      by (Stuck n) h f = absurd (heads_apart 108 115 _ _ refl f)
      by (Spent r k w b) h f = absurd (heads_apart 108 115 _ _ refl f)
      by (Wide r k) h f = absurd (heads_apart 108 119 _ _ refl f)

  pub wide_reads : old ≡ codes "wide in round " ++ left → IsEnding x → old ≡ ending_front x ++ rest
      → (p : PartNumbers) × (x ≡ Wide p.round p.knot) × IsPart p × (left ≡ part_text p ++ rest)
  unfolding ending_front
  wide_reads taken h e = by x h (sym taken ∙ e)
    where
      by : (y : Ending) → IsEnding y → codes "wide in round " ++ left ≡ ending_front y ++ rest → (p : PartNumbers) × (y ≡ Wide p.round p.knot) × IsPart p × (left ≡ part_text p ++ rest)
      by (Wide r k) h f = let p : PartNumbers = record { round = r; knot = k } in (p, refl, h, append_cancel_left (codes "wide in round ") left (part_text p ++ rest) f)
      by (Done n) h f = absurd (heads_apart 119 100 _ _ refl f)
      by (Stuck n) h f = absurd (heads_apart 119 115 _ _ refl f)
      by (Limit n) h f = absurd (heads_apart 119 108 _ _ refl f)
      by (Spent r k w b) h f = absurd (heads_apart 119 115 _ _ refl f)

  pub spent_reads : old ≡ codes "spent in round " ++ left → IsEnding x → old ≡ ending_front x ++ rest → IsSpent x × (left ≡ spent_text x ++ rest)
  unfolding ending_front
  spent_reads taken h e = by x h (sym taken ∙ e)
    where
      by : (y : Ending) → IsEnding y → codes "spent in round " ++ left ≡ ending_front y ++ rest → IsSpent y × (left ≡ spent_text y ++ rest)
      by (Spent r k w b) h f = (h, append_cancel_left (codes "spent in round ") left (spent_text (Spent r k w b) ++ rest) f)
      by (Done n) h f = absurd (heads_apart 115 100 _ _ refl f)
      by (Stuck n) h f = absurd (heads_apart 112 116 _ _ refl (ap (λ l. drop 1 l) f))
      by (Limit n) h f = absurd (heads_apart 115 108 _ _ refl f)
      by (Wide r k) h f = absurd (heads_apart 115 119 _ _ refl f)

-- where no such word is next there is no ending
pub ending_none : (old : List ℕ) → ((left : List ℕ) → old ≡ codes "done after " ++ left → ⊥) → ((left : List ℕ) → old ≡ codes "stuck after " ++ left → ⊥)
    → ((left : List ℕ) → old ≡ codes "limit after " ++ left → ⊥) → ((left : List ℕ) → old ≡ codes "wide in round " ++ left → ⊥) → ((left : List ℕ) → old ≡ codes "spent in round " ++ left → ⊥)
    → (x : Ending) (rest : List ℕ) → old ≡ ending_front x ++ rest → ⊥
unfolding ending_front
ending_none old a b c d f (Done n) rest e = a _ e
ending_none old a b c d f (Stuck n) rest e = b _ e
ending_none old a b c d f (Limit n) rest e = c _ e
ending_none old a b c d f (Wide r k) rest e = d _ e
ending_none old a b c d f (Spent r k w l) rest e = f _ e

module _ (old left new : List ℕ) where
  pub done_stood : (n : ℕ) → old ≡ codes "done after " ++ left → left ≡ (decimal n ++ codes " rounds") ++ new → old ≡ ending_front (Done n) ++ new
  unfolding ending_front
  done_stood n e f = e ∙ ap (λ l. codes "done after " ++ l) f

  pub stuck_stood : (n : ℕ) → old ≡ codes "stuck after " ++ left → left ≡ (decimal n ++ codes " rounds") ++ new → old ≡ ending_front (Stuck n) ++ new
  unfolding ending_front
  stuck_stood n e f = e ∙ ap (λ l. codes "stuck after " ++ l) f

  pub limit_stood : (n : ℕ) → old ≡ codes "limit after " ++ left → left ≡ (decimal n ++ codes " rounds") ++ new → old ≡ ending_front (Limit n) ++ new
  unfolding ending_front
  limit_stood n e f = e ∙ ap (λ l. codes "limit after " ++ l) f

  pub wide_stood : (p : PartNumbers) → old ≡ codes "wide in round " ++ left → left ≡ part_text p ++ new → old ≡ ending_front (Wide p.round p.knot) ++ new
  unfolding ending_front
  wide_stood p e f = e ∙ ap (λ l. codes "wide in round " ++ l) f

  spent_here : (x : Ending) → IsSpent x → old ≡ codes "spent in round " ++ left → left ≡ spent_text x ++ new → IsEnding x × (old ≡ ending_front x ++ new)
  unfolding ending_front
  spent_here (Spent r k w b) h e f = (h, e ∙ ap (λ l. codes "spent in round " ++ l) f)
  spent_here (Done n) h e f = absurd h
  spent_here (Stuck n) h e f = absurd h
  spent_here (Limit n) h e f = absurd h
  spent_here (Wide r k) h e f = absurd h

  pub spent_stood : (r : Result Ending LineFault) → old ≡ codes "spent in round " ++ left → Stood IsSpent spent_text r left new → Stood IsEnding ending_front r old new
  spent_stood (Ok x) e stood = spent_here x stood.0 e stood.1
  spent_stood (Err fault) e stood = tt
