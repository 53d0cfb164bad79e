-- The lines of a log, taken one after another.
use Rattle.std.proofs.Common.{◌≡◌, ◌≢◌, ◌∙◌, ap, refl, sym, subst, ℕ, zero, suc, ◌+◌, ◌<◌, ◌≤◌, ◌^◌, List, [], ◌∷◌, ◌++◌, length, take, drop, append_assoc, append-nil, length-append, arith}
use Rattle.std.specs.Prelude.{codes, slice_index}
use Rattle.std.specs.List.{All}
use Rattle.std.proofs.lemmas.List.{take_at, length_push}
use Rattle.std.proofs.lemmas.List.Elements.{All-nil, All-push}
use Rattle.reo_proof_texts.specs.Cuts.{IsInLine, IsLogLine, lines_text}
use Rattle.reo_proof_reader.specs.Reads.{IsFeedAt, IsLineTaken, IsLogTaken, IsUnfinished}

feed_cut : (text : List ℕ) (at : ℕ) → at < length text → slice_index text at ≡ 10 → text ≡ take at text ++ (10 ∷ drop (suc at) text)
feed_cut [] at lt is = absurd (omega (arith, lt))
feed_cut (x ∷ xs) zero lt is = ap (λ (b : ℕ). b ∷ xs) is
feed_cut (x ∷ xs) (suc at) lt is = ap (λ (l : List ℕ). x ∷ l) (feed_cut xs at (omega (arith, lt)) is)

-- The line up to the first line feed.
pub line_cut : (text : List ℕ) (at : ℕ) → IsFeedAt text at → IsLineTaken text (drop (at + 1) text) (take at text)
line_cut text at feed =
    let next : suc at ≡ at + 1 = omega arith in
    record {
      in_line = feed.before;
      text_is = subst (λ (n : ℕ). text ≡ take at text ++ (10 ∷ drop n text)) next (feed_cut text at feed.in_range feed.here);
    }

-- Where a line was taken, less is left.
pub line_less : (old new line : List ℕ) → IsLineTaken old new line → length old ≡ length line + 1 + length new
line_less old new line taken =
    let both = length-append line (10 ∷ new) in
    let whole = ap (λ (l : List ℕ). length l) taken.text_is in
    omega (arith, both, whole)

-- So far these lines of a log were taken.
pub record LogSoFar (whole left : List ℕ) (lines size : ℕ) : Type 0 where
  pub log : List (List ℕ)
  pub text_is : whole ≡ lines_text log ++ left
  pub log_lines : All IsLogLine log
  pub count_is : lines ≡ length log
  pub size_is : size ≡ length (lines_text log)
  pub few : lines ≤ size

pub so_far_none : (whole : List ℕ) → LogSoFar whole whole 0 0
so_far_none whole = record { log = []; text_is = refl; log_lines = All-nil IsLogLine; count_is = refl; size_is = refl; few = omega arith }

-- What was taken and what is left are the whole.
pub so_far_fits : (whole left : List ℕ) (lines size : ℕ) → LogSoFar whole left lines size → size + length left ≡ length whole
so_far_fits whole left lines size so_far =
    let both = length-append (lines_text so_far.log) left in
    let all = ap (λ (l : List ℕ). length l) so_far.text_is in
    omega (arith, both, all, so_far.size_is)

last_line : (log : List (List ℕ)) (line : List ℕ) → lines_text (log ++ line ∷ []) ≡ lines_text log ++ (line ++ codes "\n")
last_line [] line = append-nil (line ++ codes "\n")
last_line (x ∷ xs) line = ap (λ (l : List ℕ). (x ++ codes "\n") ++ l) (last_line xs line) ∙ sym (append_assoc (x ++ codes "\n") (lines_text xs) (line ++ codes "\n"))

-- A line more.
pub so_far_more : (whole old new line : List ℕ) (lines size : ℕ) → LogSoFar whole old lines size → IsLineTaken old new line → line ≢ codes "proved"
    → LogSoFar whole new (lines + 1) (size + (length line + 1))
so_far_more whole old new line lines size so_far taken other =
    let log : List (List ℕ) = so_far.log ++ line ∷ [] in
    let text = last_line so_far.log line in
    let long = length-append (lines_text so_far.log) (line ++ codes "\n") in
    let line_long = length-append line (codes "\n") in
    let text_long = ap (λ (l : List ℕ). length l) text in
    let joined : lines_text so_far.log ++ (line ++ (10 ∷ new)) ≡ (lines_text so_far.log ++ (line ++ codes "\n")) ++ new =
    sym (append_assoc (lines_text so_far.log) (line ++ codes "\n") new ∙ ap (λ (l : List ℕ). lines_text so_far.log ++ l) (append_assoc line (codes "\n") new)) in
    record {
      log = log;
      text_is = so_far.text_is ∙ ap (λ (l : List ℕ). lines_text so_far.log ++ l) taken.text_is ∙ joined ∙ ap (λ (l : List ℕ). l ++ new) (sym text);
      log_lines = All-push IsLogLine so_far.log line so_far.log_lines (record { one_line = taken.in_line; not_last = other });
      count_is = omega (arith, so_far.count_is, length_push so_far.log line);
      size_is = omega (arith, so_far.size_is, long, line_long, text_long);
      few = omega (arith, so_far.few);
    }

-- The line that ends the log.
pub log_taken : (whole old new line : List ℕ) (lines size : ℕ) → LogSoFar whole old lines size → IsLineTaken old new line → line ≡ codes "proved" → IsLogTaken whole new (take size whole) lines
log_taken whole old new line lines size so_far taken is = record {
  log = so_far.log;
  text_is = ap (λ (l : List ℕ). take size l) so_far.text_is ∙ take_at (lines_text so_far.log) old size (sym so_far.size_is);
  count_is = so_far.count_is;
  log_lines = so_far.log_lines;
  cut = so_far.text_is ∙ ap (λ (l : List ℕ). lines_text so_far.log ++ l) (taken.text_is ∙ ap (λ (l : List ℕ). l ++ (10 ∷ new)) is);
}

-- No line is left.
pub log_open : (whole left : List ℕ) (lines size : ℕ) → LogSoFar whole left lines size → All IsInLine left → length whole < 2 ^ 63 → IsUnfinished whole lines
log_open whole left lines size so_far all short = record {
  log = so_far.log;
  last = left;
  count_is = so_far.count_is;
  log_lines = so_far.log_lines;
  unfinished = all;
  cut = so_far.text_is;
  small = omega (arith, so_far.few, so_far_fits whole left lines size so_far, short);
}
