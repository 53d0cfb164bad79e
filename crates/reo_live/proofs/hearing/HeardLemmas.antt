-- From pieces that were heard to what hearing a source has come to.
use Rattle.std.proofs.Common.{inl, inr, ◌≡◌, ◌∙◌, ℕ, ◌+◌, ◌-◌, ◌≤◌, ◌<◌, Bool, true, false, List, [], ◌∷◌, ◌++◌, length, take, sym, subst, ap, refl, arith, Result, Ok, Err}
use Rattle.std.proofs.lemmas.List.{append_assoc, length-append, length-take-le, take-append-le}
use Rattle.std.proofs.lemmas.Bool.{true≢false}
use Rattle.std.proofs.lemmas.Grind.{flat_map-append}
use Rattle.std.specs.Prelude.{Option, IfOk}
use Rattle.std.specs.Option.{unwrap_or}
use Rattle.reo_io.specs.Causes.{Rose}
use Rattle.reo_io.specs.Sinks.{Appended, TookPart}
use Rattle.reo_io.specs.declared.source.SourceFault.{SourceFault}
use Rattle.reo_io.proofs.Counts.{Rose-since}
use Rattle.reo_io.proofs.Taken.{Appended-append, TookPart-after, TookPart-more}
use Rattle.reo_net_base.specs.Net.{Wiring, net_of}
use Rattle.reo_net_base.specs.declared.port.Port.{Port}
use Rattle.reo_rounds.specs.Order.{HasOrder}
use Rattle.reo_rounds.specs.Rules.{Rules}
use Rattle.reo_rounds.specs.Lasting.{KeepsShape}
use Rattle.reo_live.specs.declared.base.answer.Answer.{Answer}
use Rattle.reo_live.specs.base.Live.{Live, beginning}
use Rattle.reo_live.specs.base.Answers.{answer_text, answers_text}
use Rattle.reo_live.specs.base.Hearing.{After, Last}
use Rattle.reo_live.specs.base.Laws.{CutsChangeNothing, HearingExists}
use Rattle.reo_live.specs.closings.Sources.{SourceState, Events, AreTaken, IsTake, followed, most_events}
use Rattle.reo_live.specs.closings.Closings.{Closing, over, many, ends, Closes}
use Rattle.reo_live.specs.declared.hearing.heard.Heard.{Heard}
use Rattle.reo_live.specs.declared.hearing.heard.Heard.TheVariants as heards
use Rattle.reo_live.specs.hearing.Heard.{IsFew, TookFew, IsHeard, HeardFrom, SoFar, IsNext, HeardAll, HeardLast, HeardPart, HeardLines}
use Rattle.reo_live.specs.hearing.Pieces.{Wrote, WroteLast, WrotePart, WroteLines, ComesTo, ComesSomewhere, IsPiece, EndsPiece, IsClose}
use Rattle.reo_live.proofs.closings.Taking.{take_both}
use Rattle.reo_live.proofs.closings.ClosingLemmas.{closes_over, goes_on}
use Rattle.reo_live.proofs.closings.TakenLemmas.{all_of, rest_of, taken_more, taken_same, whole_taken, missed_taken, ended_taken, said_end}

-- The lines of some answers and of more.
text_more : (ports : List Port) (x y : List Answer) → answers_text ports (x ++ y) ≡ answers_text ports x ++ answers_text ports y
text_more ports x y = flat_map-append (answer_text ports) x y

module _ (ports : List Port) (a b c : Option (List ℕ)) (x y : List Answer) (first : Appended a b (answers_text ports x)) where
  pub text_then : Appended b c (answers_text ports y) → Appended a c (answers_text ports (x ++ y))
  text_then second = subst (λ (t : List ℕ). Appended a c t) (sym (text_more ports x y)) (Appended-append a b c (answers_text ports x) (answers_text ports y) first second)

  pub part_then : TookPart b c (answers_text ports y) → TookPart a c (answers_text ports (x ++ y))
  part_then second = subst (λ (t : List ℕ). TookPart a c t) (sym (text_more ports x y)) (TookPart-after a b c (answers_text ports x) (answers_text ports y) first second)

pub part_more : (ports : List Port) (a c : Option (List ℕ)) (x y : List Answer) → TookPart a c (answers_text ports x) → TookPart a c (answers_text ports (x ++ y))
part_more ports a c x y part = subst (λ (t : List ℕ). TookPart a c t) (sym (text_more ports x y)) (TookPart-more a c (answers_text ports x) (answers_text ports y) part)

-- What is heard of bytes and of more.
heard_more : (bytes more : List ℕ) (count : ℕ) → length bytes ≡ count → take most_events (bytes ++ more) ≡ take most_events bytes ++ take (most_events - count) more
heard_more bytes more count is = take_both most_events bytes more ∙ ap (λ (n : ℕ). take most_events bytes ++ take (most_events - n) more) is

-- How many bytes were taken.
count_more : (bytes room : List ℕ) (count taken : ℕ) → length bytes ≡ taken → count ≤ length room → length (bytes ++ take count room) ≡ taken + count
count_more bytes room count taken is fits = length-append bytes (take count room) ∙ (λ i. is i + length-take-le count room fits i)

module _ {P : Type 0} (r : Rules P) (ports : List Port) (budget : ℕ) (cuts : CutsChangeNothing r) (w : Wiring P) (before mid now : Option (List ℕ)) (old at new : SourceState) (s : Live P)
    (taken : ℕ) (room : List ℕ) (count : ℕ) (later : at.faults ≤ new.faults) (far : SoFar r ports budget w before mid old at s taken) where
  then_heard : (t : Live P) (y : List Answer) → After r ports budget s (take (most_events - taken) (take count room)) t y
      → After r ports budget (beginning w) (take most_events (far.bytes ++ take count room)) t (far.answers ++ y)
  then_heard t y after =
      subst (λ (bytes : List ℕ). After r ports budget (beginning w) bytes t (far.answers ++ y)) (sym (heard_more far.bytes (take count room) taken far.count_is))
      (cuts ports budget (beginning w) s t (take most_events far.bytes) (take (most_events - taken) (take count room)) far.answers y far.after after)

  -- One piece more.
  pub far_more : (t : Live P) → count ≤ length room → IsTake {E = SourceFault} at new room (Ok count) → Wrote ports mid now (ComesTo r ports budget mid now s (take (most_events - taken) (take count room)) t false)
      → SoFar r ports budget w before now old new t (taken + count)
  far_more t fits takes wrote = record {
    bytes = far.bytes ++ take count room;
    answers = far.answers ++ wrote.answers;
    count_is = count_more far.bytes room count taken far.count_is fits;
    after = then_heard t wrote.answers wrote.come.0;
    text = text_then ports before mid now far.answers wrote.answers far.text wrote.text;
    taken = taken_more old at new far.bytes room count fits far.taken takes later;
  }

  -- All that the source had, the first of which was heard.
  pub all_heard : count ≤ length room → IsTake {E = SourceFault} at new room (Ok count) → AreTaken (all_of old.told (far.bytes ++ take count room)) (record { old = old; new = new })
  all_heard fits takes = whole_taken old new (far.bytes ++ take count room) (taken_more old at new far.bytes room count fits far.taken takes later)

  -- Events whose first bytes were heard.
  abbrev Cut : Events → Type 0
  Cut events = (more : List ℕ) × (take most_events events.bytes ≡ take most_events (far.bytes ++ take count room) ++ more)

  cut_more : (events : Events) (more : List ℕ) → Cut events → Cut (followed events more)
  cut_more events more cut =
      let next : List ℕ = take (most_events - length events.bytes) more in
      (cut.0 ++ next, take_both most_events events.bytes more ∙ (ap (λ (l : List ℕ). l ++ next) cut.1 ∙ append_assoc (take most_events (far.bytes ++ take count room)) cut.0 next))

  all_cut : count ≤ length room → IsTake {E = SourceFault} at new room (Ok count) → Cut (all_of old.told (far.bytes ++ take count room))
  all_cut fits takes =
      let bytes = far.bytes ++ take count room in
      let found = rest_of old.told new.told bytes (taken_more old at new far.bytes room count fits far.taken takes later).told in
      (take (most_events - length bytes) found.0, ap (λ (l : List ℕ). take most_events l) found.1 ∙ take_both most_events bytes found.0)

  -- A piece with which it is over.
  pub piece_last : (t : Live P) (stop : Bool)
      → WroteLast ports mid now (ComesTo r ports budget mid now s (take (most_events - taken) (take count room)) t true) stop
      → (events : Events) → Cut events → HeardLast r ports budget w before now events stop
  piece_last t stop wrote events cut =
      let all : List Answer = wrote.front ++ wrote.last ∷ [] in
      let joined : far.answers ++ all ≡ (far.answers ++ wrote.front) ++ wrote.last ∷ [] = sym (append_assoc far.answers wrote.front (wrote.last ∷ [])) in
      let closes = closes_over r ports budget cuts w events (take most_events (far.bytes ++ take count room)) cut.0 t (far.answers ++ all) cut.1 (then_heard t all wrote.come.0) wrote.come.1 in
      record {
        closing = over;
        is_last = tt;
        front = far.answers ++ wrote.front;
        last = wrote.last;
        closes = subst (λ (x : List Answer). Closes r ports budget w events over x) joined closes;
        stop_is = wrote.stop_is;
        text = subst (λ (x : List Answer). Appended before now (answers_text ports x)) joined (text_then ports before mid now far.answers all far.text wrote.text);
      }

  module _ (exists : HearingExists r) (k : KeepsShape r) (order : HasOrder (net_of r.behaviour w)) where
    goes : (t : Live P) (y : List Answer) → After r ports budget s (take (most_events - taken) (take count room)) t y → (events : Events) → Cut events
        → (closing : Closing) × (z : List Answer) × Closes r ports budget w events closing ((far.answers ++ y) ++ z)
    goes t y after events cut =
        goes_on r ports budget cuts w exists k order events (take most_events (far.bytes ++ take count room)) cut.0 t (far.answers ++ y) cut.1 (then_heard t y after)

    -- A piece on which the sink failed.
    pub piece_part : WrotePart ports mid now (ComesSomewhere r ports budget mid now s (take (most_events - taken) (take count room)))
        → (events : Events) → Cut events → HeardPart r ports budget w before now events
    piece_part wrote events cut =
        let found = goes wrote.come.0 wrote.answers wrote.come.1 events cut in
        record {
          closing = found.0;
          answers = (far.answers ++ wrote.answers) ++ found.1;
          closes = found.2;
          part = part_more ports before now (far.answers ++ wrote.answers) found.1 (part_then ports before mid now far.answers wrote.answers far.text wrote.part);
        }

    -- A piece in which memory ran out.
    pub piece_lines : WroteLines ports mid now (ComesSomewhere r ports budget mid now s (take (most_events - taken) (take count room)))
        → (events : Events) → Cut events → HeardLines r ports budget w before now events
    piece_lines wrote events cut =
        let found = goes wrote.come.0 (wrote.lines ++ wrote.rest) wrote.come.1 events cut in
        let one : far.answers ++ (wrote.lines ++ wrote.rest) ≡ (far.answers ++ wrote.lines) ++ wrote.rest = sym (append_assoc far.answers wrote.lines wrote.rest) in
        let joined : (far.answers ++ (wrote.lines ++ wrote.rest)) ++ found.1 ≡ (far.answers ++ wrote.lines) ++ (wrote.rest ++ found.1) =
        ap (λ (x : List Answer). x ++ found.1) one ∙ append_assoc (far.answers ++ wrote.lines) wrote.rest found.1 in
        record {
          closing = found.0;
          lines = far.answers ++ wrote.lines;
          rest = wrote.rest ++ found.1;
          closes = subst (λ (x : List Answer). Closes r ports budget w events found.0 x) joined found.2;
          text = text_then ports before mid now far.answers wrote.lines far.text wrote.text;
        }

    -- A piece with which hearing ends.
    module _ (fits : count ≤ length room) (few : taken + count ≤ most_events + 1) (takes : IsTake {E = SourceFault} at new room (Ok count)) where
      piece_few : (heard : Heard) → IsFew heard (length (far.bytes ++ take count room)) → TookFew (record { old = old; new = new }) heard
      piece_few heard is = record { bytes = far.bytes ++ take count room; taken = taken_more old at new far.bytes room count fits far.taken takes later; few = is }

      within : length (far.bytes ++ take count room) ≤ most_events + 1
      within = let is = count_more far.bytes room count taken far.count_is fits in omega (arith, is, few)

      piece_from : (heard : Heard) → IsFew heard (length (far.bytes ++ take count room)) → ((events : Events) → Cut events → IsHeard r ports budget w before now events heard)
          → HeardFrom r ports budget w before now (record { old = old; new = new }) heard
      piece_from heard is come =
          let all : Events = all_of old.told (far.bytes ++ take count room) in
          let cut = all_cut fits takes in
          record { events = all; taken = all_heard fits takes; few = piece_few heard is; come = come all cut; whatever = λ here. inr (λ more. come (followed all more) (cut_more all more cut)) }

      pub piece_over : (t : Live P) (heard : Heard) → EndsPiece r ports budget mid now s (take (most_events - taken) (take count room)) t heard
          → HeardFrom r ports budget w before now (record { old = old; new = new }) heard
      piece_over t heards.Ended h = piece_from heards.Ended within (piece_last t false h)
      piece_over t heards.Stopped h = piece_from heards.Stopped within (piece_last t true h)
      piece_over t heards.Many h = absurd h
      piece_over t heards.Missed h = absurd h
      piece_over t heards.Broken h = piece_from heards.Broken within (piece_part h)
      piece_over t heards.NoMemory h = piece_from heards.NoMemory within (piece_lines h)

  -- What a piece has come to.
  pub piece_next : HearingExists r → KeepsShape r → (t : Live P) → count ≤ length room → taken + count ≤ most_events + 1 → IsTake {E = SourceFault} at new room (Ok count)
      → (result : Result ℕ Heard) → IsPiece r ports budget mid now s (take (most_events - taken) (take count room)) t result → IfOk result (λ n. n ≡ length (take count room))
      → IsNext r ports budget mid now (record { old = at; new = new }) w before old taken t result
  piece_next exists k t fits few takes (Ok n) wrote is =
      let same : count ≡ n = sym (is ∙ length-take-le count room fits) in
      subst (λ (m : ℕ). SoFar r ports budget w before now old new t (taken + m)) same (far_more t fits takes wrote)
  piece_next exists k t fits few takes (Err heard) h is = λ order. piece_over exists k order fits few takes t heard h

module _ {P : Type 0} (r : Rules P) (ports : List Port) (budget : ℕ) (w : Wiring P) (before mid : Option (List ℕ)) (old at : SourceState) (s : Live P)
    (taken : ℕ) (unspent : s.stand.over ≡ false) (far : SoFar r ports budget w before mid old at s taken) where
  short : taken ≤ most_events → length far.bytes ≤ most_events
  short few = let is = far.count_is in omega (arith, is, few)

  module _ (now : Option (List ℕ)) (few : taken ≤ most_events) where
    -- These are all events, and with the last answers hearing ends.
    ends_with : (last : List Answer) → Last r ports budget s last → Closes r ports budget w (record { bytes = far.bytes; failed = false }) ends (far.answers ++ last)
    ends_with last is = record { state = s; heard = far.answers; after = far.after; by = (unspent, short few, refl, last, is, refl) }

    close_last : (stop : Bool) → WroteLast ports mid now (Last r ports budget s) stop → HeardLast r ports budget w before now (record { bytes = far.bytes; failed = false }) stop
    close_last stop wrote =
        let all : List Answer = wrote.front ++ wrote.last ∷ [] in
        let joined : far.answers ++ all ≡ (far.answers ++ wrote.front) ++ wrote.last ∷ [] = sym (append_assoc far.answers wrote.front (wrote.last ∷ [])) in
        record {
          closing = ends;
          is_last = tt;
          front = far.answers ++ wrote.front;
          last = wrote.last;
          closes = subst (λ (x : List Answer). Closes r ports budget w (record { bytes = far.bytes; failed = false }) ends x) joined (ends_with all wrote.come);
          stop_is = wrote.stop_is;
          text = subst (λ (x : List Answer). Appended before now (answers_text ports x)) joined (text_then ports before mid now far.answers all far.text wrote.text);
        }

    close_heard : (heard : Heard) → IsClose r ports budget mid now s heard → IsHeard r ports budget w before now (record { bytes = far.bytes; failed = false }) heard
    close_heard heards.Ended h = close_last false h
    close_heard heards.Stopped h = close_last true h
    close_heard heards.Many h = absurd h
    close_heard heards.Missed h = absurd h
    close_heard heards.Broken h = record {
      closing = ends;
      answers = far.answers ++ h.answers;
      closes = ends_with h.answers h.come;
      part = part_then ports before mid now far.answers h.answers far.text h.part;
    }
    close_heard heards.NoMemory h =
        let joined : far.answers ++ (h.lines ++ h.rest) ≡ (far.answers ++ h.lines) ++ h.rest = sym (append_assoc far.answers h.lines h.rest) in
        record {
          closing = ends;
          lines = far.answers ++ h.lines;
          rest = h.rest;
          closes = subst (λ (x : List Answer). Closes r ports budget w (record { bytes = far.bytes; failed = false }) ends x) joined (ends_with (h.lines ++ h.rest) h.come);
          text = text_then ports before mid now far.answers h.lines far.text h.text;
        }

    -- The input ends.
    module _ (new : SourceState) (room : List ℕ) (later : at.faults ≤ new.faults) (takes : IsTake {E = SourceFault} at new room (Ok 0)) where
      close_within : length (far.bytes ++ take 0 room) ≤ most_events + 1
      close_within = let is = count_more far.bytes room 0 taken far.count_is (omega arith) in omega (arith, is, few)

      close_from : (heard : Heard) → IsFew heard (length (far.bytes ++ take 0 room)) → IsClose r ports budget mid now s heard → HeardFrom r ports budget w before now (record { old = old; new = new }) heard
      close_from heard is h = record {
        events = record { bytes = far.bytes; failed = false };
        taken = ended_taken old at new far.bytes room far.taken takes later;
        few = record { bytes = far.bytes ++ take 0 room; taken = taken_more old at new far.bytes room 0 (omega arith) far.taken takes later; few = is };
        come = close_heard heard h;
        whatever = λ here. inl (said_end old at new far.bytes room far.taken takes);
      }

      pub close_over : (heard : Heard) → IsClose r ports budget mid now s heard → HeardFrom r ports budget w before now (record { old = old; new = new }) heard
      close_over heards.Ended h = close_from heards.Ended close_within h
      close_over heards.Stopped h = close_from heards.Stopped close_within h
      close_over heards.Many h = absurd h
      close_over heards.Missed h = absurd h
      close_over heards.Broken h = close_from heards.Broken close_within h
      close_over heards.NoMemory h = close_from heards.NoMemory close_within h

  -- A take fails.
  pub missed_over : (fault : SourceFault) (new : SourceState) (room : List ℕ) → taken ≤ most_events → at.faults ≤ new.faults → Rose at.faults new.faults → IsTake {E = SourceFault} at new room (Err fault)
      → HeardFrom r ports budget w before mid (record { old = old; new = new }) heards.Missed
  missed_over fault new room few later rose takes =
      let so = taken_same fault old at new far.bytes room far.taken takes later in
      let within = short few in
      record {
        events = record { bytes = far.bytes; failed = true };
        taken = missed_taken old new far.bytes so (Rose-since old.faults at.faults new.faults far.taken.later rose);
        few = record { bytes = far.bytes; taken = so; few = omega (arith, within) };
        come = record {
          answers = far.answers;
          closes = record { state = s; heard = far.answers; after = far.after; by = (unspent, short few, refl, refl) };
          text = far.text;
        };
        whatever = λ here. absurd (true≢false here);
      }

  -- There are too many bytes.
  all_many : (events : Events) → take most_events events.bytes ≡ take most_events far.bytes → most_events < length events.bytes → HeardAll r ports budget w before mid events many
  all_many events cut more = record {
    answers = far.answers;
    closes = record {
      state = s;
      heard = far.answers;
      after = subst (λ (bytes : List ℕ). After r ports budget (beginning w) bytes s far.answers) (sym cut) far.after;
      by = (unspent, more, refl);
    };
    text = far.text;
  }

  pub many_over : taken ≡ most_events + 1 → HeardFrom r ports budget w before mid (record { old = old; new = at }) heards.Many
  many_over lot =
      let is = far.count_is in
      let found = rest_of old.told at.told far.bytes far.taken.told in
      let size : length (unwrap_or old.told far.bytes) ≡ length far.bytes + length found.0 = ap (λ (l : List ℕ). length l) found.1 ∙ length-append far.bytes found.0 in
      let whole : most_events ≤ length far.bytes = omega (arith, is, lot) in
      let cut : take most_events (unwrap_or old.told far.bytes) ≡ take most_events far.bytes = ap (λ (l : List ℕ). take most_events l) found.1 ∙ take-append-le most_events far.bytes found.0 whole in
      let longer : most_events < length (unwrap_or old.told far.bytes) = omega (arith, size, is, lot) in
      record {
        events = all_of old.told far.bytes;
        taken = whole_taken old at far.bytes far.taken;
        few = record { bytes = far.bytes; taken = far.taken; few = is ∙ lot };
        come = all_many (all_of old.told far.bytes) cut longer;
        whatever = λ here. inr (λ more.
            let both : length (unwrap_or old.told far.bytes ++ more) ≡ length (unwrap_or old.told far.bytes) + length more = length-append (unwrap_or old.told far.bytes) more in
            all_many (followed (all_of old.told far.bytes) more) (take-append-le most_events (unwrap_or old.told far.bytes) more (omega (arith, longer)) ∙ cut) (omega (arith, longer, both)));
      }
