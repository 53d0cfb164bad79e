-- What hearing a source has written, as what is owed.
use Rattle.std.proofs.Common.{◌≡◌, ◌∙◌, ◌⊎◌, inl, inr, ℕ, ◌≤◌, ◌<◌, Bool, true, false, cond, List, [], ◌∷◌, ◌++◌, ◌+◌, length, take, sym, subst, ap, append_assoc, refl, arith}
use Rattle.std.proofs.lemmas.Bool.{cases_order}
use Rattle.std.proofs.lemmas.Grind.{flat_map-append}
use Rattle.std.proofs.lemmas.List.{append-nil}
use Rattle.std.specs.Prelude.{◌≢◌, Option, codes}
use Rattle.reo_io.specs.Causes.{Rose}
use Rattle.reo_io.specs.Sinks.{Appended, TookPart}
use Rattle.reo_io.proofs.Counts.{Rose-since, Rose-until}
use Rattle.reo_io.proofs.Taken.{Appended-none, Appended-append, TookPart-after, TookPart-more}
use Rattle.reo_net_base.specs.Net.{net_of}
use Rattle.reo_net_base.specs.declared.port.Port.{Port}
use Rattle.reo_kinds.specs.declared.kind.Kind.{Kind}
use Rattle.reo_kinds.specs.Kinds.{behaviour_of}
use Rattle.reo_rounds.specs.Order.{HasOrder}
use Rattle.reo_command.specs.Readings.{kind_rules, FlatCircuit}
use Rattle.reo_live.specs.declared.base.answer.Answer.{Answer}
use Rattle.reo_live.specs.base.Live.{Live, beginning}
use Rattle.reo_live.specs.base.Answers.{answer_text, answers_text}
use Rattle.reo_live.specs.closings.Sources.{SourceChange, Events, followed, most_events}
use Rattle.reo_live.specs.closings.Closings.{Closing, many, missed, Closes}
use Rattle.reo_live.specs.closings.Laws.{ClosingIsOne}
use Rattle.reo_live.specs.declared.hearing.heard.Heard.{Heard}
use Rattle.reo_live.specs.declared.hearing.heard.Heard.TheVariants as heards
use Rattle.reo_live.specs.hearing.Heard.{IsHeard, HeardFrom, TookFew, HeardAll, HeardLast, HeardPart, HeardLines}
use Rattle.reo_command.specs.States.{SinkState, Change}
use Rattle.reo_command.specs.top_base.Cases.{AreFirstLines, Cases, IsExact, IsFair, TellsFaults, Refuses, SaysNoMemory}
use Rattle.reo_top.specs.Closed.{Says, IsClosedAs}
use Rattle.reo_command.specs.top_base.Outputs.{IsLine}
use Rattle.reo_top.specs.Heard.{closing_text, closing_status, HearsCircuit, IsHeardOn, IsOwed, TakesFew}
use Rattle.reo_top.proofs.AnswerTexts.{answers_end}
use Rattle.reo_command.proofs.top_base.CaseLemmas.{line_cases, line_code, line_written, lines_cases}
use Rattle.reo_top.proofs.ClosingStatuses.{last_is, status_last, text_last}
use Rattle.reo_command.proofs.top_base.LineLemmas.{Ends}

-- A line behind what came, and a sink that failed on it.
line_behind : (old mid new : SinkState) (code status : ℕ) (first line : List ℕ) → old.faults ≤ mid.faults → Appended old.told mid.told first
    → Refuses line status (record { old = mid; new = new }) code → Refuses (first ++ line) status (record { old = old; new = new }) code
line_behind old mid new code status first line later whole (inl (is, adds)) = inl (is, Appended-append old.told mid.told new.told first line whole adds)
line_behind old mid new code status first line later whole (inr (is, (part, rose))) =
    inr (is, (TookPart-after old.told mid.told new.told first line whole part, Rose-since old.faults mid.faults new.faults later rose))

module _ (budget : ℕ) (flat : FlatCircuit) (events : Events) where
  abbrev text_of : List Answer → List ℕ
  text_of answers = answers_text flat.ports answers

  abbrev Comes : Closing → List Answer → Type 0
  Comes closing answers = Closes kind_rules flat.ports budget flat.wiring events closing answers

  text_more : (x y : List Answer) → text_of (x ++ y) ≡ text_of x ++ text_of y
  text_more x y = flat_map-append (answer_text flat.ports) x y

  module _ (sink : Change SinkState) (code : ℕ) (one : ClosingIsOne kind_rules) (order : HasOrder (net_of behaviour_of flat.wiring)) (closing : Closing) (answers : List Answer) (closes : Comes closing answers) where
    -- Nothing else is owed.
    the_line : (bytes : List ℕ) (status : ℕ) → HearsCircuit budget events flat bytes status → IsLine (text_of answers ++ closing_text closing) (closing_status closing answers) bytes status
    the_line bytes status (other, given, comes, line) =
        let same = one flat.ports budget flat.wiring events other closing given answers order comes closes in
        (line.0 ∙ (λ i. text_of (same.1 i) ++ closing_text (same.0 i)), line.1 ∙ (λ i. closing_status (same.0 i) (same.1 i)))

    pub whole_cases : Refuses (text_of answers ++ closing_text closing) (closing_status closing answers) sink code → Cases (HearsCircuit budget events flat) sink code
    whole_cases h = line_cases sink code (HearsCircuit budget events flat) (text_of answers ++ closing_text closing) (closing_status closing answers) (closing, answers, closes, (refl, refl)) h

    pub whole_exact : Refuses (text_of answers ++ closing_text closing) (closing_status closing answers) sink code → IsExact (HearsCircuit budget events flat) sink code
    whole_exact h = λ bytes status owed. line_written sink code (text_of answers ++ closing_text closing) (closing_status closing answers) h bytes status (the_line bytes status owed)

  module _ (one : ClosingIsOne kind_rules) (order : HasOrder (net_of behaviour_of flat.wiring)) (old mid new : SinkState) (code : ℕ) (later : old.faults ≤ mid.faults) where
    abbrev whole_sink : Change SinkState
    whole_sink = record { old = old; new = new }

    abbrev rest_sink : Change SinkState
    rest_sink = record { old = mid; new = new }

    owed_line : (closing : Closing) (answers : List Answer) → Comes closing answers → Refuses (text_of answers ++ closing_text closing) (closing_status closing answers) whole_sink code → IsOwed budget flat events whole_sink code
    owed_line closing answers closes h = record {
      cases = whole_cases whole_sink code one order closing answers closes h;
      exact = whole_exact whole_sink code one order closing answers closes h;
    }

    last_owed : (stop : Bool) → HeardLast kind_rules flat.ports budget flat.wiring old.told mid.told events stop → Says (cond stop 7 0) rest_sink code → IsOwed budget flat events whole_sink code
    last_owed stop h says =
        let answers : List Answer = h.front ++ h.last ∷ [] in
        let text : text_of answers ≡ text_of answers ++ closing_text h.closing = sym (append-nil (text_of answers)) ∙ ap (λ (z : List ℕ). text_of answers ++ z) (sym (text_last h.closing h.is_last)) in
        let status : code ≡ closing_status h.closing answers = says.0 ∙ sym (status_last h.closing answers h.is_last ∙ last_is h.front h.last stop h.stop_is) in
        let told : Appended old.told new.told (text_of answers) = subst (λ (s : SinkState). Appended old.told s.told (text_of answers)) (sym says.1) h.text in
        owed_line h.closing answers h.closes (inl (status, subst (λ (z : List ℕ). Appended old.told new.told z) text told))

    all_owed : (closing : Closing) → (line : List ℕ) (status : ℕ) → closing_text closing ≡ line → ((answers : List Answer) → closing_status closing answers ≡ status)
        → HeardAll kind_rules flat.ports budget flat.wiring old.told mid.told events closing → Refuses line status rest_sink code → IsOwed budget flat events whole_sink code
    all_owed closing line status text_is status_is h refuses =
        let behind : Refuses (text_of h.answers ++ line) status whole_sink code = line_behind old mid new code status (text_of h.answers) line later h.text refuses in
        owed_line closing h.answers h.closes
        (subst (λ (k : ℕ). Refuses (text_of h.answers ++ closing_text closing) k whole_sink code) (sym (status_is h.answers))
        (subst (λ (z : List ℕ). Refuses (text_of h.answers ++ z) status whole_sink code) (sym text_is) behind))

    broken_owed : Rose old.faults mid.faults → HeardPart kind_rules flat.ports budget flat.wiring old.told mid.told events → Says 9 rest_sink code → IsOwed budget flat events whole_sink code
    broken_owed rose h says = record {
      cases = inr (inl (record {
        bytes = text_of h.answers ++ closing_text h.closing;
        status = closing_status h.closing h.answers;
        owed = (h.closing, h.answers, h.closes, (refl, refl));
        breaks = subst (λ (s : SinkState). TookPart old.told s.told (text_of h.answers ++ closing_text h.closing) × Rose old.faults s.faults) (sym says.1)
            (TookPart-more old.told mid.told (text_of h.answers) (closing_text h.closing) h.part, rose);
        code_is = says.0;
      }));
      exact = λ bytes status owed. inr (inl says.0);
    }

    first_lines : (h : HeardLines kind_rules flat.ports budget flat.wiring old.told mid.told events) → Ends (text_of h.lines) → AreFirstLines (HearsCircuit budget events flat) (text_of h.lines)
    first_lines h (front, ends) =
        let same : text_of h.lines ++ (text_of h.rest ++ closing_text h.closing) ≡ text_of (h.lines ++ h.rest) ++ closing_text h.closing =
        sym (append_assoc (text_of h.lines) (text_of h.rest) (closing_text h.closing)) ∙ ap (λ (z : List ℕ). z ++ closing_text h.closing) (sym (text_more h.lines h.rest)) in
        record {
          rest = text_of h.rest ++ closing_text h.closing;
          status = closing_status h.closing (h.lines ++ h.rest);
          owed = (h.closing, h.lines ++ h.rest, h.closes, (same, refl));
          front = front;
          ends = ends;
        }

    memory_owed : HeardLines kind_rules flat.ports budget flat.wiring old.told mid.told events → (code ≡ 10) × SaysNoMemory rest_sink → IsOwed budget flat events whole_sink code
    memory_owed h says = record {
      cases = elim (answers_end flat.ports h.lines) [
        | inl none ↦ lines_cases (HearsCircuit budget events flat) whole_sink mid code (text_of h.lines) later (inl none) h.text says
        | inr ends ↦ lines_cases (HearsCircuit budget events flat) whole_sink mid code (text_of h.lines) later (inr (first_lines h ends)) h.text says
      ];
      exact = λ bytes status owed. inr (inr says.0);
    }

    pub is_owed : (heard : Heard) → IsHeard kind_rules flat.ports budget flat.wiring old.told mid.told events heard → (heard ≡ heards.Broken → Rose old.faults mid.faults)
        → IsClosedAs heard rest_sink code → IsOwed budget flat events whole_sink code
    is_owed heards.Ended h cause closed = last_owed false h closed
    is_owed heards.Stopped h cause closed = last_owed true h closed
    is_owed heards.Many h cause closed = all_owed many (codes "too long events\n") 4 refl (λ answers. refl) h closed
    is_owed heards.Missed h cause closed = all_owed missed (codes "read fault events\n") 3 refl (λ answers. refl) h closed
    is_owed heards.Broken h cause closed = broken_owed (cause refl) h closed
    is_owed heards.NoMemory h cause closed = memory_owed h closed

-- What the sink got before, and what it got behind it.
abbrev Grew : SinkState → SinkState → Type 0
Grew a b = (bytes : List ℕ) × Appended a.told b.told bytes

grew_refuses : (a b : SinkState) (line : List ℕ) (status code : ℕ) → Refuses line status (record { old = a; new = b }) code → Grew a b
grew_refuses a b line status code (inl (is, adds)) = (line, adds)
grew_refuses a b line status code (inr (is, ((count, less, part), rose))) = (take count line, part)

grew_memory : (a b : SinkState) → SaysNoMemory (record { old = a; new = b }) → Grew a b
grew_memory a b (inl adds) = (codes "no memory\n", adds)
grew_memory a b (inr ((count, less, part), rose)) = (take count (codes "no memory\n"), part)

grew_same : (a b : SinkState) → b ≡ a → Grew a b
grew_same a b is = ([], subst (λ (s : SinkState). Appended a.told s.told []) (sym is) (Appended-none a.told))

grew_closed : (heard : Heard) (a b : SinkState) (code : ℕ) → IsClosedAs heard (record { old = a; new = b }) code → Grew a b
grew_closed heards.Ended a b code h = grew_same a b h.1
grew_closed heards.Stopped a b code h = grew_same a b h.1
grew_closed heards.Many a b code h = grew_refuses a b _ _ code h
grew_closed heards.Missed a b code h = grew_refuses a b _ _ code h
grew_closed heards.Broken a b code h = grew_same a b h.1
grew_closed heards.NoMemory a b code h = grew_memory a b h.1

module _ (budget : ℕ) (flat : FlatCircuit) (events : Events) (a b : SinkState) where
  grew_heard : (heard : Heard) → IsHeard kind_rules flat.ports budget flat.wiring a.told b.told events heard → Grew a b
  grew_heard heards.Ended h = (answers_text flat.ports (h.front ++ h.last ∷ []), h.text)
  grew_heard heards.Stopped h = (answers_text flat.ports (h.front ++ h.last ∷ []), h.text)
  grew_heard heards.Many h = (answers_text flat.ports h.answers, h.text)
  grew_heard heards.Missed h = (answers_text flat.ports h.answers, h.text)
  grew_heard heards.Broken h = (take h.part.0 (answers_text flat.ports h.answers), h.part.2)
  grew_heard heards.NoMemory h = (answers_text flat.ports h.lines, h.text)

-- A status that says that the sink failed.
nine_refuses : (a b : SinkState) (line : List ℕ) (status code : ℕ) → status ≢ 9 → Refuses line status (record { old = a; new = b }) code → code ≡ 9 → Rose a.faults b.faults
nine_refuses a b line status code other (inl (is, adds)) nine = absurd (other (sym is ∙ nine))
nine_refuses a b line status code other (inr (is, (part, rose))) nine = rose

module _ (old mid new : SinkState) (code : ℕ) (first : old.faults ≤ mid.faults) (second : mid.faults ≤ new.faults) where
  rose_closed : (heard : Heard) → (heard ≡ heards.Broken → Rose old.faults mid.faults) → IsClosedAs heard (record { old = mid; new = new }) code → code ≡ 9 → Rose old.faults new.faults
  rose_closed heards.Ended cause h nine = absurd (omega (arith, h.0, nine))
  rose_closed heards.Stopped cause h nine = absurd (omega (arith, h.0, nine))
  rose_closed heards.Many cause h nine = Rose-since old.faults mid.faults new.faults first (nine_refuses mid new _ 4 code (λ e. omega (arith, e)) h nine)
  rose_closed heards.Missed cause h nine = Rose-since old.faults mid.faults new.faults first (nine_refuses mid new _ 3 code (λ e. omega (arith, e)) h nine)
  rose_closed heards.Broken cause h nine = Rose-until old.faults mid.faults new.faults (cause refl) second
  rose_closed heards.NoMemory cause h nine = absurd (omega (arith, h.0, nine))

  broken_nine : (heard : Heard) → heard ≡ heards.Broken → IsClosedAs heard (record { old = mid; new = new }) code → code ≡ 9
  broken_nine heard is h = (subst (λ (x : Heard). IsClosedAs x (record { old = mid; new = new }) code) is h).0

  pub heard_tells : (heard : Heard) → (old.faults < mid.faults → heard ≡ heards.Broken) → TellsFaults (record { old = mid; new = new }) code → IsClosedAs heard (record { old = mid; new = new }) code
      → TellsFaults (record { old = old; new = new }) code
  heard_tells heard risen tells closed rose = elim (cases_order old.faults mid.faults) [
    | inl same ↦ tells (omega (arith, same, rose))
    | inr (inl less) ↦ inl (broken_nine heard (risen less) closed)
    | inr (inr more) ↦ absurd (omega (arith, more, first))
  ]

  pub heard_fair : (budget : ℕ) (flat : FlatCircuit) (source : SourceChange) (heard : Heard) → HeardFrom kind_rules flat.ports budget flat.wiring old.told mid.told source heard
      → (heard ≡ heards.Broken → Rose old.faults mid.faults) → IsClosedAs heard (record { old = mid; new = new }) code → IsFair (record { old = old; new = new }) code
  heard_fair budget flat source heard from cause closed =
      let x = grew_heard budget flat from.events old mid heard from.come in
      let y = grew_closed heard mid new code closed in
      record {
        rose = rose_closed heard cause closed;
        later = omega (arith, first, second);
        grew = (x.0 ++ y.0, Appended-append old.told mid.told new.told x.0 y.0 x.1 y.1);
      }

-- How many bytes were taken.
four_refuses : (sink : Change SinkState) (line : List ℕ) (status code : ℕ) → status ≢ 4 → Refuses line status sink code → code ≢ 4
four_refuses sink line status code other (inl (is, adds)) four = other (sym is ∙ four)
four_refuses sink line status code other (inr (is, breaks)) four = omega (arith, is, four)

few_taken : (source : SourceChange) (sink : Change SinkState) (code : ℕ) (heard : Heard) → TookFew source heard → IsClosedAs heard sink code → TakesFew source code
few_taken source sink code heards.Ended took closed = record { bytes = took.bytes; taken = took.taken; few = took.few; long = λ four. absurd (omega (arith, closed.0, four)) }
few_taken source sink code heards.Stopped took closed = record { bytes = took.bytes; taken = took.taken; few = took.few; long = λ four. absurd (omega (arith, closed.0, four)) }
few_taken source sink code heards.Many took closed = record { bytes = took.bytes; taken = took.taken; few = let is : length took.bytes ≡ most_events + 1 = took.few in omega (arith, is); long = λ four. inr took.few }
few_taken source sink code heards.Missed took closed = record { bytes = took.bytes; taken = took.taken; few = took.few; long = λ four. absurd (four_refuses sink _ 3 code (λ e. omega (arith, e)) closed four) }
few_taken source sink code heards.Broken took closed = record { bytes = took.bytes; taken = took.taken; few = took.few; long = λ four. absurd (omega (arith, closed.0, four)) }
few_taken source sink code heards.NoMemory took closed = record { bytes = took.bytes; taken = took.taken; few = took.few; long = λ four. absurd (omega (arith, closed.0, four)) }

-- Where a take failed the status says so.
misses_said : (source : SourceChange) (sink : Change SinkState) (code : ℕ) (heard : Heard) → heard ≡ heards.Missed → IsClosedAs heard sink code → (code ≡ 3) ⊎ (code ≡ 9)
misses_said source sink code heard is closed =
    line_code sink code (codes "read fault events\n") 3 (subst (λ (x : Heard). IsClosedAs x sink code) is closed)

-- What hearing a source has come to.
pub heard_on : (budget : ℕ) (flat : FlatCircuit) (source : SourceChange) (old mid new : SinkState) (code : ℕ) (heard : Heard) → ClosingIsOne kind_rules → HasOrder (net_of behaviour_of flat.wiring)
    → old.faults ≤ mid.faults → HeardFrom kind_rules flat.ports budget flat.wiring old.told mid.told source heard → (heard ≡ heards.Broken → Rose old.faults mid.faults)
    → (source.old.faults < source.new.faults → heard ≡ heards.Missed) → IsClosedAs heard (record { old = mid; new = new }) code → IsHeardOn budget flat source (record { old = old; new = new }) code
heard_on budget flat source old mid new code heard one order later from cause when_missed closed =
    let owed = is_owed budget flat from.events one order old mid new code later heard from.come cause closed in
    record {
      events = from.events;
      taken = from.taken;
      few = few_taken source (record { old = mid; new = new }) code heard from.few closed;
      misses = λ rose. misses_said source (record { old = mid; new = new }) code heard (when_missed rose) closed;
      cases = owed.cases;
      exact = owed.exact;
      whatever = λ here. elim (from.whatever here) [
        | inl said ↦ inl said
        | inr any ↦ inr (λ more. is_owed budget flat (followed from.events more) one order old mid new code later heard (any more) cause closed)
      ];
    }

-- On the circuit that was made.
module _ (ports : List Port) (b : ℕ) (s : Live Kind) (budget : ℕ) (flat : FlatCircuit) (before mid : Option (List ℕ)) (source : SourceChange) (heard : Heard) where
  pub heard_there : ports ≡ flat.ports → b ≡ budget → s ≡ beginning flat.wiring → HeardFrom kind_rules ports b s.stand.circuit before mid source heard
      → HeardFrom kind_rules flat.ports budget flat.wiring before mid source heard
  heard_there of_ports of_budget of_live from =
      subst (λ (x : List Port). HeardFrom kind_rules x budget flat.wiring before mid source heard) of_ports
      (subst (λ (x : ℕ). HeardFrom kind_rules ports x flat.wiring before mid source heard) of_budget
      (subst (λ (x : Live Kind). HeardFrom kind_rules ports b x.stand.circuit before mid source heard) of_live from))
