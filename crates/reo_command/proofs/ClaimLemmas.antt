-- What a command reads in three files, the third behind a circuit and a script, and what stops it.
use Rattle.std.proofs.Common.{◌≡◌, ◌∙◌, ℕ, ◌<◌, ◌^◌, false, List, [], ◌∷◌, ◌++◌, length, sym, subst, ap, refl, arith}
use Rattle.std.specs.Prelude.{Result, Ok, Err}
use Rattle.reo_circuit_texts.specs.Laws.{CircuitsAreSpelled, CircuitNamesArePlain}
use Rattle.reo_net_base.specs.declared.port.Port.{Port}
use Rattle.reo_runs.specs.run_texts.Laws.{PortsAreTold}
use Rattle.reo_trace_reader.specs.texts.Laws.{OneAnswer}
use Rattle.reo_trace_reader.specs.texts.Lines.{AreTold}
use Rattle.reo_trace_reader.specs.texts.Texts.{IsTraceText}
use Rattle.reo_command.specs.declared.command.Command.TheVariants.{Verify, VerifyProof}
use Rattle.reo_command.specs.declared.role.Role.{Role}
use Rattle.reo_command.specs.declared.role.Role.TheVariants.{Trace, Proof}
use Rattle.reo_command.specs.declared.stop.Stop.{Stop}
use Rattle.reo_command.specs.declared.stop.Stop.TheVariants.{Missed, TooLong, Refused, NoMemory}
use Rattle.reo_command.specs.Claims.{Claimed, ReadsBehind, StopsBehind, TraceStops, ReadsClaim, StopsVerify, IsProofText, NoTextStops, ReadsProof, StopsProof}
use Rattle.reo_command.specs.Fetched.{Content, gone, long, text, unknown, has_gone, AreFetched, answer_of, IsFetchStop, AreShort}
use Rattle.reo_command.specs.Readings.{FlatCircuit, IsCircuitText, ReadsFile, StopsFile, Runnable, ReadsRun, StopsRun, IsReadAs}
use Rattle.reo_command.specs.ReadSteps.{IsProofRead}
use Rattle.reo_command.specs.Roles.{refused_status}
use Rattle.reo_command.specs.States.{FilesState, Change}
use Rattle.reo_command.specs.Statuses.{IsAmong, statuses_of, read_fault, too_long, circuit_refused, script_refused}
use Rattle.reo_command.specs.Stops.{stop_status}
use Rattle.reo_command.proofs.ReadLemmas.{IsOneReading, IsReadingAt, IsOneText, is_missed, file_reading}
use Rattle.reo_command.proofs.TraceLemmas.{trace_law}
use Rattle.reo_command.proofs.WorkLemmas.{has_texts, run_reading_in}

module _ {X : Type 0} (role : Role) (Says : List Port → List ℕ → X → Type 0) (TextStops : List Port → List ℕ → Stop → Type 0) where
  abbrev Reads : List Content → Claimed X → Type 0
  Reads = ReadsBehind Says

  abbrev Stops : List Content → Stop → Type 0
  Stops = StopsBehind role TextStops

  abbrev ReadsLast : Runnable → List Content → X → Type 0
  ReadsLast work = ReadsFile (Says work.flat.ports)

  abbrev StopsLast : Runnable → List Content → Stop → Type 0
  StopsLast work = StopsFile role (TextStops work.flat.ports)

  -- The circuit or the script stops it, or the third file behind those that are read; or all are read.
  pub claim_first : (answers : List Content) (s : Stop) → StopsRun answers s → StopsBehind role TextStops answers s
  claim_first [] s h = absurd h
  claim_first (a ∷ []) s h = h
  claim_first (a ∷ b ∷ []) s h = h
  claim_first (text c ∷ b ∷ t ∷ []) s h = absurd h
  claim_first (gone ∷ b ∷ t ∷ []) s h = absurd h
  claim_first (long ∷ b ∷ t ∷ []) s h = absurd h
  claim_first (unknown ∷ b ∷ t ∷ []) s h = absurd h
  claim_first (a ∷ b ∷ t ∷ u ∷ cs) s h = h

  module _ (work : Runnable) where
    next_stops : (c d : List ℕ) → ReadsRun (text c ∷ text d ∷ []) work → (more : List Content) (s : Stop) → StopsLast work more s → Stops (text c ∷ text d ∷ more) s
    next_stops c d is (t ∷ []) s h = (work, is, h)
    next_stops c d is [] s h = absurd h
    next_stops c d is (t ∷ u ∷ cs) s h = absurd h

    all_read : (c d : List ℕ) → ReadsRun (text c ∷ text d ∷ []) work → (more : List Content) (x : X) → ReadsLast work more x → Reads (text c ∷ text d ∷ more) (record { work = work; claim = x })
    all_read c d is (t ∷ []) x h = (is, h)
    all_read c d is [] x h = absurd h
    all_read c d is (text bytes ∷ u ∷ cs) x h = absurd h
    all_read c d is (gone ∷ u ∷ cs) x h = absurd h
    all_read c d is (long ∷ u ∷ cs) x h = absurd h
    all_read c d is (unknown ∷ u ∷ cs) x h = absurd h

    pub claim_next : (answers : List Content) → ReadsRun answers work → (more : List Content) (s : Stop) → StopsFile role (TextStops work.flat.ports) more s → StopsBehind role TextStops (answers ++ more) s
    claim_next answers reads more s h =
        let t = has_texts answers work reads in subst (λ (cs : List Content). Stops (cs ++ more) s) (sym t.is) (next_stops t.circuit t.script (t.flat, t.said) more s h)

    pub claim_whole : (answers : List Content) → ReadsRun answers work → (more : List Content) (x : X) → ReadsFile (Says work.flat.ports) more x → ReadsBehind Says (answers ++ more) (record { work = work; claim = x })
    claim_whole answers reads more x h =
        let t = has_texts answers work reads in subst (λ (cs : List Content). Reads (cs ++ more) (record { work = work; claim = x })) (sym t.is) (all_read t.circuit t.script (t.flat, t.said) more x h)

  -- Behind a circuit and a script that are read, a file that cannot be had is the third.
  third_gone : (a b t : Content) (r : Runnable) → ReadsRun (a ∷ b ∷ []) r → has_gone (a ∷ b ∷ t ∷ []) ≡ has_gone (t ∷ [])
  third_gone (text c) (text d) t r h = refl
  third_gone (text c) gone t r h = absurd h
  third_gone (text c) long t r h = absurd h
  third_gone (text c) unknown t r h = absurd h
  third_gone gone b t r h = absurd h
  third_gone long b t r h = absurd h
  third_gone unknown b t r h = absurd h

  first_short : (a b t : Content) → AreShort (a ∷ b ∷ t ∷ []) → AreShort (a ∷ b ∷ [])
  first_short a b t short = (short.0, (short.1.0, tt))

  -- It is one reading, where the third text is one behind each circuit and script that are read.
  module _ (law : (answers : List Content) (r : Runnable) → AreShort answers → ReadsRun answers r → IsOneText role (Says r.flat.ports) (TextStops r.flat.ports))
      (statuses : List ℕ) (missing : IsAmong statuses read_fault) (over : IsAmong statuses too_long) (fifth : IsAmong statuses circuit_refused) (sixth : IsAmong statuses script_refused) (last : IsAmong statuses (refused_status role)) where
    runs : IsOneReading ReadsRun StopsRun statuses
    runs = run_reading_in statuses missing over fifth sixth

    thirds : (a b t : Content) (r : Runnable) → AreShort (a ∷ b ∷ t ∷ []) → ReadsRun (a ∷ b ∷ []) r → IsOneReading (ReadsLast r) (StopsLast r) statuses
    thirds a b t r short h = file_reading role (Says r.flat.ports) (TextStops r.flat.ports) (law (a ∷ b ∷ []) r (first_short a b t short) h) statuses missing over last

    claim_one : (answers : List Content) → AreShort answers → (x y : Claimed X) → Reads answers x → Reads answers y → x ≡ y
    claim_one (a ∷ b ∷ t ∷ []) short x y p q =
        let works : x.work ≡ y.work = runs.one (a ∷ b ∷ []) x.work y.work p.0 q.0 in
        let there : ReadsLast x.work (t ∷ []) y.claim = subst (λ (r : Runnable). ReadsLast r (t ∷ []) y.claim) (sym works) q.1 in
        let same : x.claim ≡ y.claim = (thirds a b t x.work short p.0).one (t ∷ []) x.claim y.claim p.1 there in
        λ i. record { work = works i; claim = same i }
    claim_one [] short x y p q = absurd p
    claim_one (a ∷ []) short x y p q = absurd p
    claim_one (a ∷ b ∷ []) short x y p q = absurd p
    claim_one (a ∷ b ∷ t ∷ u ∷ cs) short x y p q = absurd p

    claim_apart : (answers : List Content) → AreShort answers → (x : Claimed X) (s : Stop) → Reads answers x → Stops answers s → ⊥
    claim_apart (a ∷ b ∷ t ∷ []) short x s p (r, reads, stop) =
        let works : x.work ≡ r = runs.one (a ∷ b ∷ []) x.work r p.0 reads in
        let there : ReadsLast r (t ∷ []) x.claim = subst (λ (w : Runnable). ReadsLast w (t ∷ []) x.claim) works p.1 in
        (thirds a b t r short reads).apart (t ∷ []) x.claim s there stop
    claim_apart [] short x s p q = p
    claim_apart (a ∷ []) short x s p q = p
    claim_apart (a ∷ b ∷ []) short x s p q = p
    claim_apart (a ∷ b ∷ t ∷ u ∷ cs) short x s p q = p

    claim_stop : (answers : List Content) → AreShort answers → (s t : Stop) → Stops answers s → Stops answers t → s ≡ t
    claim_stop (a ∷ b ∷ t ∷ []) short s u (r, reads, stop) (q, others, other) =
        let works : r ≡ q = runs.one (a ∷ b ∷ []) r q reads others in
        let there : StopsLast r (t ∷ []) u = subst (λ (w : Runnable). StopsLast w (t ∷ []) u) (sym works) other in
        (thirds a b t r short reads).one_stop (t ∷ []) s u stop there
    claim_stop [] short s t p q = absurd p
    claim_stop (a ∷ []) short s t p q = runs.one_stop (a ∷ []) s t p q
    claim_stop (a ∷ b ∷ []) short s t p q = runs.one_stop (a ∷ b ∷ []) s t p q
    claim_stop (a ∷ b ∷ c ∷ d ∷ cs) short s t p q = runs.one_stop (a ∷ b ∷ c ∷ d ∷ cs) s t p q

    claim_here : (answers : List Content) → AreShort answers → (x : Claimed X) → Reads answers x → has_gone answers ≡ false
    claim_here (a ∷ b ∷ t ∷ []) short x p = third_gone a b t x.work p.0 ∙ (thirds a b t x.work short p.0).here (t ∷ []) x.claim p.1
    claim_here [] short x p = absurd p
    claim_here (a ∷ []) short x p = absurd p
    claim_here (a ∷ b ∷ []) short x p = absurd p
    claim_here (a ∷ b ∷ t ∷ u ∷ cs) short x p = absurd p

    claim_missed : (answers : List Content) → AreShort answers → (s : Stop) → Stops answers s → has_gone answers ≡ is_missed s
    claim_missed (a ∷ b ∷ t ∷ []) short s (r, reads, stop) = third_gone a b t r reads ∙ (thirds a b t r short reads).missed (t ∷ []) s stop
    claim_missed [] short s p = absurd p
    claim_missed (a ∷ []) short s p = runs.missed (a ∷ []) s p
    claim_missed (a ∷ b ∷ []) short s p = runs.missed (a ∷ b ∷ []) s p
    claim_missed (a ∷ b ∷ c ∷ d ∷ cs) short s p = runs.missed (a ∷ b ∷ c ∷ d ∷ cs) s p

    claim_status : (answers : List Content) → AreShort answers → (s : Stop) → Stops answers s → IsAmong statuses (stop_status s)
    claim_status (a ∷ b ∷ t ∷ []) short s (r, reads, stop) = (thirds a b t r short reads).status (t ∷ []) s stop
    claim_status [] short s p = absurd p
    claim_status (a ∷ []) short s p = runs.status (a ∷ []) s p
    claim_status (a ∷ b ∷ []) short s p = runs.status (a ∷ b ∷ []) s p
    claim_status (a ∷ b ∷ c ∷ d ∷ cs) short s p = runs.status (a ∷ b ∷ c ∷ d ∷ cs) s p

    behind_reading : (answers : List Content) → AreShort answers → IsReadingAt (ReadsBehind Says) (StopsBehind role TextStops) statuses answers
    behind_reading answers short = record {
      one = claim_one answers short;
      apart = claim_apart answers short;
      one_stop = claim_stop answers short;
      here = claim_here answers short;
      missed = claim_missed answers short;
      status = claim_status answers short;
    }

-- The ports of a circuit that is read are such as a text tells apart, so its trace is one reading.
module _ (one : OneAnswer) (spelled : CircuitsAreSpelled) (plain : CircuitNamesArePlain) (told : PortsAreTold) where
  circuit_told : (bytes : List ℕ) (flat : FlatCircuit) → length bytes < 2 ^ 63 → IsCircuitText bytes flat → AreTold flat.ports
  circuit_told bytes flat short is =
      let here = told is.program (record { spelled = spelled bytes is.program is.says; plain = plain bytes is.program (omega (arith, short)) is.says; accepted = is.accepted }) in
      subst (λ (f : FlatCircuit). AreTold f.ports) (sym is.is) here

  run_told : (answers : List Content) (r : Runnable) → AreShort answers → ReadsRun answers r → AreTold r.flat.ports
  run_told answers r short h = let t = has_texts answers r h in let s = subst AreShort t.is short in circuit_told t.circuit r.flat s.0 t.flat

  pub claim_reading : (answers : List Content) → AreShort answers → IsReadingAt ReadsClaim StopsVerify (statuses_of Verify) answers
  claim_reading answers short =
      behind_reading Trace IsTraceText TraceStops (λ files r few h. trace_law one r.flat.ports (run_told files r few h)) (statuses_of Verify) refl refl refl refl refl answers short

-- A proof is taken as it stands.
proof_law : IsOneText Proof IsProofText NoTextStops
proof_law = record {
  one = λ bytes x y a b. a ∙ sym b;
  apart = λ bytes x s a b. b;
  one_stop = λ bytes s t a b. absurd a;
  refused = λ bytes s a. absurd a;
}

pub proof_reading : (answers : List Content) → AreShort answers → IsReadingAt ReadsProof StopsProof (statuses_of VerifyProof) answers
proof_reading answers short =
    behind_reading Proof (λ ports. IsProofText) (λ ports. NoTextStops) (λ files r few h. proof_law) (statuses_of VerifyProof) refl refl refl refl refl answers short

-- Its file was fetched.
as_it_stands : (result : Result (List ℕ) Stop) → IsFetchStop Proof result → IsReadAs (ReadsFile IsProofText) (StopsFile Proof NoTextStops) (answer_of result ∷ []) result
as_it_stands (Ok bytes) stop = refl
as_it_stands (Err (Missed other)) stop = ap Missed stop
as_it_stands (Err (TooLong other)) stop = ap TooLong stop
as_it_stands (Err (Refused other r)) stop = absurd stop
as_it_stands (Err NoMemory) stop = refl

pub proof_fetched : (names : List (List ℕ)) (files : Change FilesState) (result : Result (List ℕ) Stop) → AreFetched (Proof ∷ []) names (answer_of result ∷ []) files → IsFetchStop Proof result → AreShort (answer_of result ∷ [])
    → IsProofRead names files result
proof_fetched names files result fetched stop short = record { answers = answer_of result ∷ []; fetched = fetched; short = short; read = as_it_stands result stop }
