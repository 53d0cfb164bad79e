-- The moves of a line at the front of a text.
use Rattle.std.proofs.Common.{◌≡◌, ◌∙◌, ◌<◌, ◌≤◌, ◌+◌, ℕ, List, [], ◌∷◌, ◌++◌, Ok, ap, refl, sym, subst, drop, length, length-append, append_assoc, arith}
use Rattle.std.specs.Prelude.{codes}
use Rattle.std.specs.List.{All}
use Rattle.std.proofs.lemmas.List.{append_cancel_left}
use Rattle.std.proofs.lemmas.List.Elements.{All-nil, All-cons, All-push}
use Rattle.reo_values.specs.Names.{IsNameByte}
use Rattle.reo_net_base.specs.declared.colouring.Move.{Move}
use Rattle.reo_net_base.specs.declared.port.Port.{Port}
use Rattle.reo_trace.specs.RoundText.{move_text}
use Rattle.reo_trace.specs.Spaced.{spaced}
use Rattle.reo_trace_reader.specs.texts.Lines.{AreTold, AreRising, IsMove}
use Rattle.reo_trace_reader.proofs.texts.Moves.{move_no-other}
use Rattle.reo_trace_reader.specs.Ends.{EndsMove}
use Rattle.reo_trace_reader.specs.Fronts.{AreMoves, IsMoveFrom, moves_front}
use Rattle.reo_trace_reader.specs.Reads.{ReadsAgain}
use Rattle.reo_trace_reader.proofs.RowTexts.{tails, left_first, left_more, left_less, left_none, row_stood, IsLeft}

-- the least number that a port may have after these moves
abbrev pub next_of : List Move → ℕ
next_of [] = 0
next_of (m ∷ []) = m.port + 1
next_of (m ∷ n ∷ ns) = next_of (n ∷ ns)

rising_next : (made : List Move) (y : Move) (ys : List Move) → AreRising (made ++ (y ∷ ys)) → next_of made ≤ y.port
rising_next [] y ys h = omega arith
rising_next (a ∷ []) y [] h = omega (arith, h.0)
rising_next (a ∷ []) y (z ∷ zs) h = omega (arith, h.0)
rising_next (a ∷ b ∷ bs) y ys h = rising_next (b ∷ bs) y ys h.1

rising_push : (made : List Move) (m : Move) → AreRising made → next_of made ≤ m.port → AreRising (made ++ m ∷ [])
rising_push [] m h low = tt
rising_push (a ∷ []) m h low = (omega arith, tt)
rising_push (a ∷ b ∷ bs) m h low = (h.0, rising_push (b ∷ bs) m h.1 low)

next_push : (made : List Move) (m : Move) → next_of (made ++ m ∷ []) ≡ m.port + 1
next_push [] m = refl
next_push (a ∷ []) m = refl
next_push (a ∷ b ∷ bs) m = next_push (b ∷ bs) m

bar_no_name : IsNameByte 124 → ⊥
bar_no_name h = grind arith

module _ (ports : List Port) where
  -- what comes after a move is a space
  pub ends_move : (ms : List Move) (rest : List ℕ) → EndsMove (tails (move_text ports) ms ++ (codes " | " ++ rest))
  ends_move [] rest = refl
  ends_move (m ∷ ms) rest = refl

  -- moves that were read
  pub record AreRead (old : List ℕ) (made : List Move) (from : ℕ) (left : List ℕ) : Type 0 where
    pub some : 0 < length made
    pub fit : All (IsMove ports) made
    pub rising : AreRising made
    pub next : from ≡ next_of made
    pub stood : old ≡ spaced (move_text ports) made ++ left
    pub again : (ms : List Move) (rest : List ℕ) → AreMoves ports ms → old ≡ moves_front ports ms ++ rest
        → IsLeft (move_text ports) (IsMove ports) ms made left (codes " | " ++ rest)

module _ (ports : List Port) (told : AreTold ports) where
  -- moves have a first
  pub first_parts : (old : List ℕ) (ms : List Move) (rest : List ℕ) → AreMoves ports ms → old ≡ moves_front ports ms ++ rest
      → (m : Move) × (ys : List Move) × (ms ≡ m ∷ ys) × IsMoveFrom ports 0 m × All (IsMove ports) ys × (old ≡ move_text ports m ++ (tails (move_text ports) ys ++ (codes " | " ++ rest)))
  first_parts old [] rest h e = absurd (let some = h.some in omega arith)
  first_parts old (m ∷ ms) rest h e =
      let first = left_first (move_text ports) (IsMove ports) m ms old old (codes " | " ++ rest) h.moves (e ∙ append_assoc (spaced (move_text ports) (m ∷ ms)) (codes " | ") rest) in
      (m, ms, refl, (omega arith, first.1), first.2, first.0)

  pub first_read : (old new : List ℕ) (first : Move) (made : List Move) (from : ℕ) → made ≡ first ∷ [] → from ≡ first.port + 1 → IsMove ports first → old ≡ move_text ports first ++ new
      → ReadsAgain (IsMoveFrom ports 0) (move_text ports) EndsMove (Ok first) old new → AreRead ports old made from new
  first_read old new first made from e f fit stood again = subst (λ l. AreRead ports old l from new) (sym e) (record {
    some = omega arith;
    fit = All-cons (IsMove ports) first [] fit (All-nil (IsMove ports));
    rising = tt;
    next = f;
    stood = stood;
    again = λ ms rest h g.
        let parts = first_parts old ms rest h g in
        let one = again parts.0 _ parts.3 (ends_move ports parts.1 rest) parts.5 in
        record { more = parts.1; whole = parts.2 ∙ sym (ap (λ x. x ∷ parts.1) one.0); fit = parts.4; stands = one.1 };
  })

  -- a next move stands behind a space
  pub next_parts : (old left mid : List ℕ) (made : List Move) (from : ℕ) → AreRead ports old made from left → left ≡ 32 ∷ mid → ((rest : List ℕ) → left ≡ codes " | " ++ rest → ⊥)
      → (ms : List Move) (rest : List ℕ) → AreMoves ports ms → old ≡ moves_front ports ms ++ rest
      → (m : Move) × (ys : List Move) × (ms ≡ made ++ (m ∷ ys)) × IsMoveFrom ports from m × All (IsMove ports) ys × (mid ≡ move_text ports m ++ (tails (move_text ports) ys ++ (codes " | " ++ rest)))
  next_parts old left mid made from read space no_bar ms rest h e =
      let more = left_more (move_text ports) (IsMove ports) ms made left (codes " | " ++ rest) mid (read.again ms rest h e) space (no_bar rest) in
      let low = rising_next made more.0 more.1 (subst AreRising more.2 h.rising) in
      (more.0, more.1, more.2, (subst (λ (n : ℕ). n ≤ more.0.port) (sym read.next) low, more.3), more.4, more.5)

  pub next_read : (old left mid new : List ℕ) (made : List Move) (from : ℕ) (next : Move) (now : List Move) (later : ℕ) → AreRead ports old made from left → left ≡ 32 ∷ mid
      → ((rest : List ℕ) → left ≡ codes " | " ++ rest → ⊥) → now ≡ made ++ next ∷ [] → later ≡ next.port + 1
      → IsMoveFrom ports from next → mid ≡ move_text ports next ++ new → ReadsAgain (IsMoveFrom ports from) (move_text ports) EndsMove (Ok next) mid new → AreRead ports old now later new
  next_read old left mid new made from next now later read space no_bar e f fit stood again = subst (λ l. AreRead ports old l later new) (sym e) (record {
    some = omega (arith, length-append made (next ∷ []));
    fit = All-push (IsMove ports) made next read.fit fit.1;
    rising = rising_push made next read.rising (subst (λ (n : ℕ). n ≤ next.port) read.next fit.0);
    next = f ∙ sym (next_push made next);
    stood = row_stood (move_text ports) old left mid new made next read.some read.stood space stood;
    again = λ ms rest h g.
        let parts = next_parts old left mid made from read space no_bar ms rest h g in
        let one = again parts.0 _ parts.3 (ends_move ports parts.1 rest) parts.5 in
        left_less (move_text ports) (IsMove ports) ms made parts.0 next parts.1 new (codes " | " ++ rest) parts.2 parts.4 one.0 one.1;
  })

  -- neither the bar nor a space is next
  pub neither_read : (old left : List ℕ) (made : List Move) (from : ℕ) → AreRead ports old made from left → ((rest : List ℕ) → left ≡ codes " | " ++ rest → ⊥) → ((rest : List ℕ) → left ≡ codes " " ++ rest → ⊥)
      → (ms : List Move) (rest : List ℕ) → AreMoves ports ms → old ≡ moves_front ports ms ++ rest → ⊥
  neither_read old left made from read no_bar no_space ms rest h e =
      no_bar rest (left_none (move_text ports) (IsMove ports) ms made left (codes " | " ++ rest) (read.again ms rest h e) (λ y ys is f. no_space _ f)).1

  -- the bar is next
  pub all_read : (old left new : List ℕ) (made : List Move) (from : ℕ) → AreRead ports old made from left → left ≡ codes " | " ++ new
      → (ms : List Move) (rest : List ℕ) → AreMoves ports ms → old ≡ moves_front ports ms ++ rest → (made ≡ ms) × (new ≡ rest)
  all_read old left new made from read bar ms rest h e =
      let all = left_none (move_text ports) (IsMove ports) ms made left (codes " | " ++ rest) (read.again ms rest h e)
      (λ y ys is f. move_no-other ports told y 124 _ (32 ∷ new) is bar_no_name (ap (λ l. drop 1 l) (sym f ∙ bar))) in
      (all.0, append_cancel_left (codes " | ") new rest (sym bar ∙ all.1))

  pub all_stood : (old left new : List ℕ) (made : List Move) (from : ℕ) → AreRead ports old made from left → left ≡ codes " | " ++ new
      → AreMoves ports made × (old ≡ moves_front ports made ++ new)
  all_stood old left new made from read bar = (
    record { some = read.some; moves = read.fit; rising = read.rising },
    read.stood ∙ ap (λ l. spaced (move_text ports) made ++ l) bar ∙ sym (append_assoc (spaced (move_text ports) made) (codes " | ") new),
  )
