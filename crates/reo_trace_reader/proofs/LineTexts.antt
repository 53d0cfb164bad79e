-- Whole lines, with their line feeds.
use Rattle.std.proofs.Common.{◌≡◌, ◌==◌, ◌∙◌, ℕ, Bool, true, false, length, append-nil, arith, List, [], ◌∷◌, ◌++◌, ap, refl, sym, subst, append_assoc}
use Rattle.std.specs.Prelude.{codes}
use Rattle.reo_net_base.specs.declared.port.Port.{Port}
use Rattle.reo_trace.specs.declared.line.RoundLine.{RoundLine}
use Rattle.reo_trace.specs.declared.line.Ending.{Ending}
use Rattle.reo_trace.specs.declared.line.Ending.TheVariants.{Done, Stuck, Limit, Spent, Wide}
use Rattle.reo_trace.specs.EndingText.{ending_text}
use Rattle.reo_trace.specs.RoundText.{round_text}
use Rattle.reo_values.specs.decimals.Digits.{IsSmall}
use Rattle.reo_trace_reader.specs.texts.Lines.{IsLine, IsEnding}
use Rattle.reo_trace_reader.specs.texts.Texts.{IsEndingText, IsRoundText}
use Rattle.std.proofs.lemmas.List.{append_cancel_right}
use Rattle.reo_trace_reader.specs.Fronts.{IsAnyLine, round_front, ending_front}

pub round_line : (ports : List Port) (line : RoundLine) → round_text ports line ≡ round_front ports line ++ codes "\n"
unfolding round_text round_front
round_line ports line = simp append_assoc

pub ending_line : (e : Ending) → ending_text e ≡ ending_front e ++ codes "\n"
unfolding ending_text ending_front
ending_line (Done n) = simp append_assoc
ending_line (Stuck n) = simp append_assoc
ending_line (Limit n) = simp append_assoc
ending_line (Spent r k w b) = simp append_assoc
ending_line (Wide r k) = simp append_assoc

-- a line of this number is one of any number
pub any_line : (ports : List Port) (number : ℕ) (line : RoundLine) → IsLine ports number line → IsAnyLine ports line
any_line ports number line h = record {
  number_is = refl;
  small = subst IsSmall (sym h.number_is) h.small;
  moves = h.moves;
  rising = h.rising;
  still = h.still;
  entries = h.entries;
}

pub this_line : (ports : List Port) (number : ℕ) (line : RoundLine) → line.round ≡ number → IsAnyLine ports line → IsLine ports number line
this_line ports number line e h = record {
  number_is = e;
  small = subst IsSmall e h.small;
  moves = h.moves;
  rising = h.rising;
  still = h.still;
  entries = h.entries;
}

-- what comes after a line
pub round_then : (ports : List Port) (old : List ℕ) (line : RoundLine) (more : List ℕ) → old ≡ round_text ports line ++ more → old ≡ round_front ports line ++ (10 ∷ more)
round_then ports old line more e = e ∙ ap (λ l. l ++ more) (round_line ports line) ∙ append_assoc (round_front ports line) (codes "\n") more

pub round_of : (ports : List Port) (old mid more : List ℕ) (line : RoundLine) → old ≡ round_front ports line ++ mid → mid ≡ codes "\n" ++ more → old ≡ round_text ports line ++ more
round_of ports old mid more line e f =
    e ∙ ap (λ l. round_front ports line ++ l) f ∙ sym (append_assoc (round_front ports line) (codes "\n") more) ∙ sym (ap (λ l. l ++ more) (round_line ports line))

pub ending_then : (old : List ℕ) (e : Ending) (more : List ℕ) → old ≡ ending_text e ++ more → old ≡ ending_front e ++ (10 ∷ more)
ending_then old x more e = e ∙ ap (λ l. l ++ more) (ending_line x) ∙ append_assoc (ending_front x) (codes "\n") more

pub ending_of : (old mid more : List ℕ) (x : Ending) → old ≡ ending_front x ++ mid → mid ≡ codes "\n" ++ more → old ≡ ending_text x ++ more
ending_of old mid more x e f =
    e ∙ ap (λ l. ending_front x ++ l) f ∙ sym (append_assoc (ending_front x) (codes "\n") more) ∙ sym (ap (λ l. l ++ more) (ending_line x))

-- a line without its line feed, and the whole of what was read
pub ending_whole : (line : List ℕ) (e : Ending) → IsEndingText line e → line ≡ ending_front e ++ []
ending_whole line e h = append_cancel_right line (ending_front e) (codes "\n") (h.text_is ∙ ending_line e) ∙ sym (append-nil (ending_front e))

pub ending_is : (line left : List ℕ) (e : Ending) → IsEnding e → line ≡ ending_front e ++ left → left ≡ [] → IsEndingText line e
ending_is line left e h f none = record {
  fits = h;
  text_is = ap (λ l. l ++ codes "\n") (f ∙ ap (λ l. ending_front e ++ l) none ∙ append-nil (ending_front e)) ∙ sym (ending_line e);
}

pub round_whole : (ports : List Port) (line : List ℕ) (r : RoundLine) → IsRoundText ports line r → line ≡ round_front ports r ++ []
round_whole ports line r h = append_cancel_right line (round_front ports r) (codes "\n") (h.text_is ∙ round_line ports r) ∙ sym (append-nil (round_front ports r))

pub round_is : (ports : List Port) (line left : List ℕ) (r : RoundLine) → IsAnyLine ports r → line ≡ round_front ports r ++ left → left ≡ [] → IsRoundText ports line r
round_is ports line left r h f none = record {
  fits = h;
  text_is = ap (λ l. l ++ codes "\n") (f ∙ ap (λ l. round_front ports r ++ l) none ∙ append-nil (round_front ports r)) ∙ sym (round_line ports r);
}

-- nothing is left, or something
pub done_nil : (left : List ℕ) (t : Bool) → t ≡ (length left == 0) → t ≡ true → left ≡ []
done_nil [] t e h = refl
done_nil (byte ∷ bytes) t e h = absurd (grind arith)

pub not_done : (left : List ℕ) (t : Bool) → t ≡ (length left == 0) → t ≡ false → left ≡ [] → ⊥
not_done [] t e h none = absurd (grind arith)
not_done (byte ∷ bytes) t e h none = absurd (cc)
