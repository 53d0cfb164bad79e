-- Rounds with their logs, one more, and how long they are.
use Rattle.std.proofs.Common.{◌≡◌, ◌∙◌, inl, inr, ap, refl, sym, subst, ℕ, ◌+◌, ◌≤◌, List, [], ◌∷◌, ◌++◌, length, append-nil, length-append, arith}
use Rattle.std.proofs.lemmas.Grind.{flat_map-append}
use Rattle.std.specs.Prelude.{None, codes}
use Rattle.reo_net_base.specs.declared.port.Port.{Port}
use Rattle.reo_trace.specs.declared.line.RoundLine.{RoundLine}
use Rattle.reo_trace.specs.RoundText.{round_text}
use Rattle.reo_rounds.specs.Rules.{Rules}
use Rattle.reo_runs.specs.Round.{State}
use Rattle.reo_runs.specs.Run.{Place, place_after}
use Rattle.reo_runs.specs.verdicts.Replays.{colourings}
use Rattle.reo_proof_texts.specs.Cuts.{LoggedRound, lines_text, logged_text, all_logged, lines_in, IsLogged, AreLogged, Next, IsNext}
use Rattle.reo_proof_texts.specs.Proven.{IsProven, AreProven}
use Rattle.reo_proof_reader.specs.Found.{IsRoundFound}

-- A round more.
pub lines_more : (xs : List LoggedRound) (x : LoggedRound) → lines_in (xs ++ x ∷ []) ≡ lines_in xs + (length x.log + 2)
lines_more [] x = omega arith
lines_more (y ∷ ys) x = omega (arith, lines_more ys x)

pub text_more : (ports : List Port) (xs : List LoggedRound) (x : LoggedRound) → all_logged ports (xs ++ x ∷ []) ≡ all_logged ports xs ++ logged_text ports x
text_more ports xs x = flat_map-append (logged_text ports) xs (x ∷ []) ∙ ap (λ (t : List ℕ). all_logged ports xs ++ t) (append-nil (logged_text ports x))

pub logged_more : (ports : List Port) (n : ℕ) (xs : List LoggedRound) (x : LoggedRound) → AreLogged ports n xs → IsLogged ports (n + length xs) x → AreLogged ports n (xs ++ x ∷ [])
logged_more ports n [] x are is =
    let none : List LoggedRound = [] in
    let same : n + length none ≡ n = omega arith in
    (subst (λ (m : ℕ). IsLogged ports m x) same is, tt)
logged_more ports n (y ∷ ys) x are is =
    let same : n + length (y ∷ ys) ≡ n + 1 + length ys = omega arith in
    (are.0, logged_more ports (n + 1) ys x are.1 (subst (λ (m : ℕ). IsLogged ports m x) same is))

module _ {P : Type 0} (r : Rules P) (q : Place P) (x : LoggedRound) (b : State P) (on : q.over ≡ None) where
  pub proven_more : (turn : ℕ) (p : Place P) (xs : List LoggedRound) → AreProven colourings r turn p xs q → IsProven colourings r (turn + length xs) q.state x b
      → AreProven colourings r turn p (xs ++ x ∷ []) (place_after (turn + length xs) x.line q.state b)
  proven_more turn p [] are proven =
      let none : List LoggedRound = [] in
      let same : turn + length none ≡ turn = omega arith in
      let here : AreProven colourings r turn q (x ∷ []) (place_after (turn + length none) x.line q.state b) =
      (on, b, subst (λ (n : ℕ). IsProven colourings r n q.state x b) same proven, ap (λ (n : ℕ). place_after n x.line q.state b) (sym same)) in
      subst (λ (s : Place P). AreProven colourings r turn s (x ∷ []) (place_after (turn + length none) x.line q.state b)) (sym are) here
  proven_more turn p (y ∷ ys) are proven =
      let same : turn + length (y ∷ ys) ≡ turn + 1 + length ys = omega arith in
      let rest = proven_more (turn + 1) (place_after turn y.line p.state are.1) ys are.3 (subst (λ (n : ℕ). IsProven colourings r n q.state x b) same proven) in (
        are.0,
        are.1,
        are.2,
        subst (λ (n : ℕ). AreProven colourings r (turn + 1) (place_after turn y.line p.state are.1) (ys ++ x ∷ []) (place_after n x.line q.state b)) (sym same) rest,
      )

-- Each line has a line feed.
log_le : (log : List (List ℕ)) → length log ≤ length (lines_text log)
log_le [] = omega arith
log_le (x ∷ xs) =
    let feed : length (codes "\n") ≡ 1 = refl in
    omega (arith, feed, log_le xs, length-append (x ++ codes "\n") (lines_text xs), length-append x (codes "\n"))

round_le : (ports : List Port) (x : LoggedRound) → length (lines_text x.log) + 2 ≤ length (logged_text ports x)
round_le ports x =
    let last : length (codes "proved\n") ≡ 7 = refl in
    omega (arith, last, length-append (round_text ports x.line) (lines_text x.log ++ codes "proved\n"), length-append (lines_text x.log) (codes "proved\n"))

-- So many lines have at least as many bytes.
pub lines_le : (ports : List Port) (xs : List LoggedRound) → lines_in xs ≤ length (all_logged ports xs)
lines_le ports [] = omega arith
lines_le ports (x ∷ xs) = omega (arith, lines_le ports xs, log_le x.log, round_le ports x, length-append (logged_text ports x) (all_logged ports xs))

pub rounds_le : (xs : List LoggedRound) → length xs ≤ lines_in xs
rounds_le [] = omega arith
rounds_le (x ∷ xs) = omega (arith, rounds_le xs)

-- What stands next has no more lines than bytes.
pub wrong_le : (ports : List Port) (number line : ℕ) (text : List ℕ) → IsNext ports number text (Next.wrong line) → line ≤ length text + 2
wrong_le ports number line text (inl first) = omega (arith, first.0)
wrong_le ports number line text (inr open') =
    omega (arith, open'.line_is, log_le open'.log, ap (λ (t : List ℕ). length t) open'.cut, length-append (round_text ports open'.round) (lines_text open'.log ++ open'.last), length-append (lines_text open'.log) open'.last)

-- A round that was found was not the whole of the text.
pub record Found (old new log : List ℕ) (lines : ℕ) : Type 0 where
  pub lines_le : lines ≤ length log
  pub bytes : length log + 2 + length new ≤ length old

pub found_le : (ports : List Port) (number : ℕ) (old new : List ℕ) (line : RoundLine) (log : List ℕ) (lines : ℕ) → IsRoundFound ports number old new line log lines → Found old new log lines
found_le ports number old new line log lines found =
    let x : LoggedRound = record { line = line; log = found.log } in
    let text = ap (λ (t : List ℕ). length t) found.text_is in
    let whole = ap (λ (t : List ℕ). length t) found.next_is.1 in
    record {
      lines_le = omega (arith, found.count_is, log_le found.log, text);
      bytes = omega (arith, whole, text, round_le ports x, length-append (logged_text ports x) new);
    }
