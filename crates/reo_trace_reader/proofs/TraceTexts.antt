-- The lines of a trace.
use Rattle.std.proofs.Common.{◌≡◌, ◌∙◌, ◌+◌, ◌<◌, ℕ, List, [], ◌∷◌, ◌++◌, ap, sym, subst, length, append_assoc, append-nil, length-append, arith}
use Rattle.std.proofs.lemmas.Grind.{flat_map-append}
use Rattle.reo_net_base.specs.declared.port.Port.{Port}
use Rattle.reo_trace.specs.declared.line.RoundLine.{RoundLine}
use Rattle.reo_trace.specs.RoundText.{round_text}
use Rattle.reo_trace.specs.TraceText.{rounds_text}
use Rattle.reo_trace_reader.specs.texts.Lines.{IsLine, AreLines, IsEnding}
use Rattle.reo_trace_reader.specs.texts.Texts.{IsTraceText, IsWrongLine}
use Rattle.reo_trace.specs.declared.line.Ending.{Ending}
use Rattle.reo_trace.specs.EndingText.{ending_text}
use Rattle.reo_trace_reader.specs.Fronts.{NoRound, NoEnding}

-- lines that were read
pub record AreRead (ports : List Port) (text : List ℕ) (rounds : List RoundLine) (number : ℕ) (left : List ℕ) : Type 0 where
  pub stood : text ≡ rounds_text ports rounds ++ left
  pub fit : AreLines ports 1 rounds
  pub next : number ≡ length rounds + 1

-- one more line
pub lines_push : (ports : List Port) (n number : ℕ) (rounds : List RoundLine) (line : RoundLine) → AreLines ports n rounds → number ≡ n + length rounds → IsLine ports number line
    → AreLines ports n (rounds ++ line ∷ [])
lines_push ports n number [] line h e is = (subst (λ (k : ℕ). IsLine ports k line) (omega arith) is, tt)
lines_push ports n number (r ∷ rs) line h e is = (h.0, lines_push ports (n + 1) number rs line h.1 (omega arith) is)

pub more_read : (ports : List Port) (text : List ℕ) (rounds : List RoundLine) (number : ℕ) (left new : List ℕ) (line : RoundLine) (now : List RoundLine) (later : ℕ)
    → AreRead ports text rounds number left → IsLine ports number line → left ≡ round_text ports line ++ new → now ≡ rounds ++ line ∷ [] → later ≡ number + 1 → AreRead ports text now later new
more_read ports text rounds number left new line now later read is e f g =
    subst (λ l. AreRead ports text l later new) (sym f) (record {
      stood = read.stood ∙ ap (λ l. rounds_text ports rounds ++ l) e ∙ sym (append_assoc (rounds_text ports rounds) (round_text ports line) new)
          ∙ sym (ap (λ l. l ++ new) (flat_map-append (round_text ports) rounds (line ∷ []) ∙ ap (λ l. rounds_text ports rounds ++ l) (append-nil (round_text ports line))));
      fit = lines_push ports 1 number rounds line read.fit (let n = read.next in omega arith) is;
      next = let n = read.next in omega (arith, length-append rounds (line ∷ []));
    })

round_some : (ports : List Port) (line : RoundLine) → 0 < length (round_text ports line)
unfolding round_text
round_some ports line = omega arith

-- a line is not empty
pub round_longer : (ports : List Port) (old new : List ℕ) (line : RoundLine) → old ≡ round_text ports line ++ new → length new < length old
round_longer ports old new line e =
    let same : length old ≡ length (round_text ports line ++ new) = ap (λ (l : List ℕ). length l) e in
    let both = length-append (round_text ports line) new in
    let some = round_some ports line in
    omega arith

-- the text is a trace
pub trace_is : (ports : List Port) (text : List ℕ) (rounds : List RoundLine) (number : ℕ) (left : List ℕ) (e : Ending) → AreRead ports text rounds number left
    → IsEnding e → left ≡ ending_text e → IsTraceText ports text (record { rounds = rounds; ending = e })
trace_is ports text rounds number left e read h f = record {
  text_is = read.stood ∙ ap (λ l. rounds_text ports rounds ++ l) f;
  lines = read.fit;
  ending = h;
}

-- or has a first wrong line
pub wrong_is : (ports : List Port) (text : List ℕ) (rounds : List RoundLine) (number : ℕ) (left : List ℕ) → AreRead ports text rounds number left → NoRound ports number left → NoEnding left
    → IsWrongLine ports text number
wrong_is ports text rounds number left read no_round no_ending = record {
  lines = rounds;
  left = left;
  cut = read.stood;
  right = read.fit;
  place = read.next;
  no_round = no_round;
  no_ending = no_ending;
}
